-- the first faulty place, step by step
use Rattle.std.proofs.Common.{◌≡◌, ◌<◌, ◌≤◌, ◌+◌, ℕ, List, [], ◌∷◌, ◌++◌, Option, None, Some, sym, ap, ◌∙◌, length, take, drop, get_or, arith, Ok, Err}
use Rattle.std.proofs.lemmas.List.{take_all, take_more, drop_all, drop_more, length-take-le}
use Rattle.oidc_members.specs.Seen.{SeenMember}
use Rattle.oidc_members.specs.declared.refusal.Refusal.{Refusal}
use Rattle.oidc_members.specs.declared.refusal.ParseError.{ParseError}
use Rattle.oidc_members.specs.declared.refusal.ParseError.TheVariants.{Refused, Memory}
use Rattle.oidc_readers.specs.Passes.{Took, PlacedAnswers, first_by, placed, read_by, unless_faulty, placed_at}

module _ (fault : List SeenMember → SeenMember → Option Refusal) (L : List SeenMember) (i : ℕ) (m : SeenMember) (lt : i < length L) (at : get_or L i m ≡ m) where
  cut : drop i L ≡ m ∷ drop (i + 1) L
  cut = drop_more L i m lt ∙ ap (λ n. n ∷ drop (i + 1) L) at

  pub grown : take (i + 1) L ≡ take i L ++ m ∷ []
  grown = take_more L i m lt ∙ ap (λ n. take i L ++ n ∷ []) at

  pub first_on : fault (take i L) m ≡ None → first_by fault (take i L) (drop i L) ≡ first_by fault (take (i + 1) L) (drop (i + 1) L)
  first_on none = ap (first_by fault (take i L)) cut ∙ (λ j. placed (none j) (length (take i L)) (first_by fault (sym grown j) (drop (i + 1) L)))

  pub first_here : (refusal : Refusal) → fault (take i L) m ≡ Some refusal → first_by fault (take i L) (drop i L) ≡ Some (i, refusal)
  first_here refusal is =
      ap (first_by fault (take i L)) cut ∙ (λ j. placed (is j) (length-take-le i L (omega arith) j) (first_by fault (take i L ++ m ∷ []) (drop (i + 1) L)))

-- a pass that stops at a faulty member, and one that doesn't
module _ {R : Type 0} (fault : List SeenMember → SeenMember → Option Refusal) (state : List SeenMember → R) (L : List SeenMember) (i : ℕ)
    (clean : first_by fault [] L ≡ first_by fault (take i L) (drop i L)) where
  pub stops : (m : SeenMember) (e : ParseError) (P : Type 0) → i < length L → get_or L i m ≡ m → Took (fault (take i L) m) (Err e) P
      → PlacedAnswers (read_by fault state L) (Err (placed_at i e))
  stops m (Refused refusal) P lt at is = ap (λ o. unless_faulty fault state o L) (clean ∙ first_here fault L i m lt at refusal is)
  stops m Memory P lt at is = tt

  pub ends : (reader : R) → length L ≤ i → reader ≡ state (take i L) → read_by fault state L ≡ Ok reader
  ends reader le is =
      ap (λ o. unless_faulty fault state o L) (clean ∙ ap (first_by fault (take i L)) (drop_all i L le)) ∙ ap Ok (sym (is ∙ ap state (take_all i L le)))
