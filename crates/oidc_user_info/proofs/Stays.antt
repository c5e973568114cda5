-- Members that are neither a field of user info nor a standard claim are additional, in the claims' own sense too.
use Rattle.std.proofs.Common.{◌≡◌, List, [], ◌∷◌, Bool, true, false, cond, refl, filter}
use Rattle.std.specs.List.{list_all}
use Rattle.std.proofs.lemmas.Bool.{and_from}
use Rattle.oidc_members.specs.Seen.{SeenMember}
use Rattle.oidc_claims.specs.Home.{is_additional, user_info_fields}
use Rattle.oidc_claims.specs.Additional.{are_additional}
use Rattle.oidc_id_token_claims.specs.IdTokenClaims.{additional_among}

passing : (test : SeenMember → Bool) (m : SeenMember) (rest : List SeenMember) (b : Bool) → test m ≡ b → list_all test rest ≡ true → list_all test (cond b (m ∷ rest) rest) ≡ true
passing test m rest true is h = and_from (test m) (list_all test rest) is h
passing test m rest false is h = h

filtered : (test : SeenMember → Bool) (ms : List SeenMember) → list_all test (filter test ms) ≡ true
filtered test [] = refl
filtered test (m ∷ ms) = passing test m (filter test ms) (test m) refl (filtered test ms)

pub additional_stay : (ms : List SeenMember) → are_additional (additional_among user_info_fields ms) ≡ true
additional_stay ms = filtered (λ m. is_additional m.name) ms
