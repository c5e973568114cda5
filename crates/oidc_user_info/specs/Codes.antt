-- How the logic stores the claims of user info: as the tuples of their fields. No clause speaks of it.
use Rattle.std.specs.Prelude.{ℕ, List, Option, refl}
use Rattle.std.specs.Coded.{Coded, code_by, coded×, coded_option, coded_list, coded_ℕ}
use Rattle.oidc_types.specs.UrlText.{TextAndUrl, text_and_url_code}
use Rattle.oidc_claims.specs.Seen.{SeenClaims}
use Rattle.oidc_claims.specs.SeenCode.{seen_claims_code}
use Rattle.oidc_user_info.specs.UserInfoClaims.{SeenUserInfoClaims}

abbrev pub user_info_claims_code : {AC GC : Type 0} → Coded AC → Coded GC → Coded (SeenUserInfoClaims AC GC)
user_info_claims_code {AC} {GC} additional gender =
    code_by (Option TextAndUrl × (Option (List (List ℕ)) × (SeenClaims GC × AC)))
    (coded× (coded_option text_and_url_code)
    (coded× (coded_option (coded_list (coded_list coded_ℕ))) (coded× (seen_claims_code gender) additional)))
    (λ c. (c.issuer, (c.audiences, (c.standard_claims, c.additional_claims))))
    (λ p. record { issuer = p.0; audiences = p.1.0; standard_claims = p.1.1.0; additional_claims = p.1.1.1 })
    (λ _. refl)
