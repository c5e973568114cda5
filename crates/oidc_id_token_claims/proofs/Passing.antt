-- A rule that looks at some members alone, over a list that has others between them.
use Rattle.std.proofs.Common.{◌≡◌, ℕ, List, [], ◌∷◌, ◌++◌, Bool, true, false, cond, Option, None, Some, Ok, refl, ap, ◌∙◌, filter, length, append-nil}
use Rattle.std.specs.Option.{option_or}
use Rattle.std.proofs.lemmas.List.Elements.{filter-append}
use Rattle.oidc_members.specs.Seen.{SeenMember}
use Rattle.oidc_members.specs.declared.refusal.Refusal.{Refusal}
use Rattle.oidc_readers.specs.Passes.{Rule, placed, first_by}
use Rattle.oidc_readers.specs.Records.{either_rule, faultless, without_place}

placed_none : (o : Option Refusal) (place : ℕ) (later : Option (ℕ × Refusal)) → placed o place later ≡ None → (o ≡ None) × (later ≡ None)
placed_none None place later h = (refl, h)
placed_none (Some refusal) place later h = absurd cc

placed_back : (o : Option Refusal) (place : ℕ) (later : Option (ℕ × Refusal)) → o ≡ None → later ≡ None → placed o place later ≡ None
placed_back o place later is rest = ap (λ o. placed o place later) is ∙ rest

-- ---- a rule and a test of the members that it looks at

module _
    (rule : Rule)
    (test : SeenMember → Bool)
    (silent : (before : List SeenMember) (m : SeenMember) → test m ≡ false → rule before m ≡ None)
    (blind : (before : List SeenMember) (m : SeenMember) → rule before m ≡ rule (filter test before) m) where
  grown : (before : List SeenMember) (m : SeenMember) (b : Bool) → test m ≡ b → filter test (before ++ m ∷ []) ≡ filter test before ++ cond b (m ∷ []) []
  grown before m b is = filter-append test before (m ∷ []) ∙ (λ i. filter test before ++ cond (is i) (m ∷ []) [])

  by_test : (before : List SeenMember) (m : SeenMember) (ms : List SeenMember) (b : Bool) → test m ≡ b
      → ((before : List SeenMember) → first_by rule (filter test before) (filter test ms) ≡ None → first_by rule before ms ≡ None)
      → first_by rule (filter test before) (cond b (m ∷ filter test ms) (filter test ms)) ≡ None → first_by rule before (m ∷ ms) ≡ None
  by_test before m ms true is later h =
      let parts = placed_none (rule (filter test before) m) (length (filter test before)) (first_by rule (filter test before ++ m ∷ []) (filter test ms)) h in
      placed_back (rule before m) (length before) (first_by rule (before ++ m ∷ []) ms) (blind before m ∙ parts.0)
      (later (before ++ m ∷ []) (ap (λ l. first_by rule l (filter test ms)) (grown before m true is) ∙ parts.1))
  by_test before m ms false is later h =
      placed_back (rule before m) (length before) (first_by rule (before ++ m ∷ []) ms) (silent before m is)
      (later (before ++ m ∷ []) (ap (λ l. first_by rule l (filter test ms)) (grown before m false is ∙ append-nil (filter test before)) ∙ h))

  -- where the rule finds no fault among the members that it looks at, it finds none
  pub passes_apart : (ms before : List SeenMember) → first_by rule (filter test before) (filter test ms) ≡ None → first_by rule before ms ≡ None
  passes_apart [] before h = refl
  passes_apart (m ∷ ms) before h = by_test before m ms (test m) refl (passes_apart ms) h

-- ---- two rules

neither : (a b : Option Refusal) → a ≡ None → b ≡ None → option_or a b ≡ None
neither a b h k = rw (h, k) refl

pub passes_both : (r s : Rule) (ms before : List SeenMember) → first_by r before ms ≡ None → first_by s before ms ≡ None → first_by (either_rule r s) before ms ≡ None
passes_both r s [] before h k = refl
passes_both r s (m ∷ ms) before h k =
    let a = placed_none (r before m) (length before) (first_by r (before ++ m ∷ []) ms) h in
    let b = placed_none (s before m) (length before) (first_by s (before ++ m ∷ []) ms) k in
    placed_back (either_rule r s before m) (length before) (first_by (either_rule r s) (before ++ m ∷ []) ms) (neither (r before m) (s before m) a.0 b.0)
    (passes_both r s ms (before ++ m ∷ []) a.1 b.1)

pub no_fault : (rule : Rule) (ms : List SeenMember) → first_by rule [] ms ≡ None → faultless rule ms ≡ Ok tt
no_fault rule ms h = ap without_place h
