-- A claim is found by its name where the claims with names of that length alone are looked at.
use Rattle.std.proofs.Common.{◌≡◌, ℕ, ◌==◌, List, [], ◌∷◌, Bool, true, false, cond, Some, filter, length, refl, sym, ap, ◌∙◌, eq-eqb}
use Rattle.std.specs.List.{find}
use Rattle.std.specs.Str.{bytes_eq}
use Rattle.std.proofs.lemmas.Bool.{false≢true}
use Rattle.std.proofs.lemmas.Slice.Eq.{bytes_eq-Decides}
use Rattle.oidc_claims.specs.declared.claim.Claim.{Claim}
use Rattle.oidc_claims.specs.Table.{name_of, all_claims, claim_of, claims_of_length}

-- what passes the second test is still there, so the first test finds what it found
found_by : (p q : Claim → Bool) (c : Claim) (cs : List Claim) (a b : Bool) → p c ≡ a → q c ≡ b → (p c ≡ true → q c ≡ true) → find p (filter q cs) ≡ find p cs
    → find p (cond b (c ∷ filter q cs) (filter q cs)) ≡ cond a (Some c) (find p cs)
found_by p q c cs true true pc qc within rest = λ i. cond (pc i) (Some c) (rest i)
found_by p q c cs false true pc qc within rest = λ i. cond (pc i) (Some c) (rest i)
found_by p q c cs false false pc qc within rest = rest
found_by p q c cs true false pc qc within rest = absurd (false≢true (sym qc ∙ within pc))

found : (p q : Claim → Bool) → ((c : Claim) → p c ≡ true → q c ≡ true) → (cs : List Claim) → find p (filter q cs) ≡ find p cs
found p q within [] = refl
found p q within (c ∷ cs) = found_by p q c cs _ _ refl refl (within c) (found p q within cs)

same_length : (xs ys : List ℕ) → bytes_eq xs ys ≡ true → (length xs == length ys) ≡ true
same_length xs ys h = eq-eqb (length xs) (length ys) (ap length ((bytes_eq-Decides xs ys).0 h))

pub by_length : (base : List ℕ) → find (λ claim. bytes_eq (name_of claim) base) (claims_of_length (length base)) ≡ claim_of base
by_length base = found (λ claim. bytes_eq (name_of claim) base) (λ claim. length (name_of claim) == length base) (λ claim. same_length (name_of claim) base) all_claims
