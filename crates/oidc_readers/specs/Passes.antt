-- One pass over a list of members: the first faulty one refuses it.
use Rattle.std.specs.Prelude.{◌≡◌, ℕ, List, [], ◌∷◌, ◌++◌, length, Option, None, Some, Result, Ok, Err}
use Rattle.oidc_members.specs.Seen.{SeenMember}
use Rattle.oidc_members.specs.declared.refusal.Refusal.{Refusal}
use Rattle.oidc_members.specs.declared.refusal.ParseError.{ParseError}
use Rattle.oidc_readers.specs.declared.passes.PlacedError.{PlacedError}
use Rattle.oidc_readers.specs.declared.passes.PlacedError.TheVariants.{Refused, Memory}

-- why a member is refused, after those before it
abbrev pub Rule : Type 0
Rule = List SeenMember → SeenMember → Option Refusal

-- a fault at a place, or else what comes later
abbrev pub placed : Option Refusal → ℕ → Option (ℕ × Refusal) → Option (ℕ × Refusal)
placed (Some refusal) place later = Some (place, refusal)
placed None place later = later

-- the first place at which a member is faulty after all those before it, and its refusal
abbrev pub first_by : Rule → List SeenMember → List SeenMember → Option (ℕ × Refusal)
first_by fault before [] = None
first_by fault before (m ∷ rest) =
    placed (fault before m) (length before) (first_by fault (before ++ m ∷ []) rest)

module _ {Self : Type 0} (fault : Rule) (state : List SeenMember → Self) where
  abbrev pub unless_faulty : Option (ℕ × Refusal) → List SeenMember → Result Self (ℕ × Refusal)
  unless_faulty (Some found) members = Err found
  unless_faulty None members = Ok (state members)

  -- the first faulty place, or what is kept of the members
  abbrev pub read_by : List SeenMember → Result Self (ℕ × Refusal)
  read_by members = unless_faulty (first_by fault [] members) members

-- A member was refused for that fault, or it has none and the fact holds of what is kept then.
abbrev pub Took : Option Refusal → Result (Unit {0}) ParseError → Type 0 → Type 0
Took fault (Ok u) Kept = (fault ≡ None) × Kept
Took fault (Err (ParseError.Refused refusal)) Kept = fault ≡ Some refusal
Took fault (Err ParseError.Memory) Kept = Unit {0}

-- The answer is the one that is meant, or `Memory`.
abbrev pub PlacedAnswers : {A : Type 0} → Result A (ℕ × Refusal) → Result A PlacedError → Type 0
PlacedAnswers meant (Ok value) = meant ≡ Ok value
PlacedAnswers meant (Err (Refused place refusal)) = meant ≡ Err (place, refusal)
PlacedAnswers meant (Err Memory) = Unit {0}

-- the error at a place
abbrev pub placed_at : ℕ → ParseError → PlacedError
placed_at place (ParseError.Refused refusal) = Refused place refusal
placed_at place ParseError.Memory = Memory

-- the error without its place
abbrev pub unplaced : PlacedError → ParseError
unplaced (Refused place refusal) = ParseError.Refused refusal
unplaced Memory = ParseError.Memory
