-- Members of no own field and no standard claim are additional, in the claims' own sense too.
use Rattle.std.proofs.Common.{◌≡◌, List, [], ◌∷◌, Bool, true, false, ◌||◌, cond, refl, filter}
use Rattle.std.specs.List.{list_all}
use Rattle.std.proofs.lemmas.Bool.{and_from}
use Rattle.oidc_members.specs.Seen.{SeenMember}
use Rattle.oidc_claims.specs.Home.{home_by, is_additional_home, is_additional}
use Rattle.oidc_claims.specs.Additional.{are_additional}
use Rattle.oidc_id_token_claims.specs.IdTokenClaims.{is_additional_claim, additional_members}

fewer : (a b rest std : Bool) → is_additional_home (home_by (a || (b || rest)) std) ≡ true → is_additional_home (home_by (a || (b || false)) std) ≡ true
fewer true b rest std p = p
fewer false true rest std p = p
fewer false false rest true p = elim rest as (λ r. is_additional_home (home_by r true) ≡ true → is_additional_home (home_by false true) ≡ true) [ true ↦ λ q. q | false ↦ λ q. q ] p
fewer false false rest false p = refl

by_pass : (q : SeenMember → Bool) (m : SeenMember) (rest : List SeenMember) (b : Bool) → (b ≡ true → q m ≡ true) → list_all q rest ≡ true → list_all q (cond b (m ∷ rest) rest) ≡ true
by_pass q m rest true e h = and_from (q m) (list_all q rest) (e refl) h
by_pass q m rest false e h = h

filtered : (p q : SeenMember → Bool) → ((m : SeenMember) → p m ≡ true → q m ≡ true) → (ms : List SeenMember) → list_all q (filter p ms) ≡ true
filtered p q all [] = refl
filtered p q all (m ∷ ms) = by_pass q m (filter p ms) (p m) (all m) (filtered p q all ms)

pub additional_stay : (ms : List SeenMember) → are_additional (additional_members ms) ≡ true
additional_stay ms = filtered (λ m. is_additional_claim m.name) (λ m. is_additional m.name) (λ m p. fewer _ _ _ _ p) ms
