-- How the logic stores claims, sessions and stores of them: as the tuples of their fields. No clause speaks of it.
use Rattle.std.specs.Prelude.{ℕ, ℤ, List, Bool, Option, refl}
use Rattle.std.specs.Coded.{Coded, code_by, coded×, coded_option, coded_list, coded_ℕ, coded_ℤ, coded_bool}
use Rattle.std.specs.FinMap as finite
use Rattle.std.specs.FinSet as set
use Rattle.oidc_types.specs.UrlText.{TextAndUrl, text_and_url_code}
use Rattle.oidc_session.specs.LogoutClaims.{Needed, SeenLogoutClaims}
use Rattle.oidc_session.specs.Sessions.{SeenSession, Sessions, TokenIds, Kept, SeenLogout}

abbrev text_code : Coded (List ℕ)
text_code = coded_list coded_ℕ

-- an optional text
abbrev Part : Type 0
Part = Option (List ℕ)

abbrev part_code : Coded Part
part_code = coded_option text_code

abbrev pub needed_code : Coded Needed
needed_code =
    code_by (TextAndUrl × (List (List ℕ) × (ℤ × (List ℕ × Bool))))
    (coded× text_and_url_code (coded× (coded_list text_code) (coded× coded_ℤ (coded× text_code coded_bool))))
    (λ n. (n.issuer, (n.audiences, (n.expiration, (n.token_id, n.names_logout)))))
    (λ p. record { issuer = p.0; audiences = p.1.0; expiration = p.1.1.0; token_id = p.1.1.1.0; names_logout = p.1.1.1.1 })
    (λ _. refl)

abbrev pub logout_claims_code : Coded SeenLogoutClaims
logout_claims_code =
    code_by (Needed × (Part × (Part × Bool)))
    (coded× needed_code (coded× part_code (coded× part_code coded_bool)))
    (λ c. (c.needed, (c.subject, (c.provider_session, c.has_nonce))))
    (λ p. record { needed = p.0; subject = p.1.0; provider_session = p.1.1.0; has_nonce = p.1.1.1 })
    (λ _. refl)

-- ---- sessions

abbrev pub session_code : Coded SeenSession
session_code =
    code_by (List ℕ × (Part × ℤ)) (coded× text_code (coded× part_code coded_ℤ))
    (λ s. (s.subject, (s.provider_session, s.end)))
    (λ p. record { subject = p.0; provider_session = p.1.0; end = p.1.1 })
    (λ _. refl)

abbrev pub sessions_code : Coded Sessions
sessions_code = finite.code text_code session_code

abbrev pub token_ids_code : Coded TokenIds
token_ids_code = set.code text_code

abbrev pub kept_code : Coded Kept
kept_code =
    code_by (Sessions × TokenIds) (coded× sessions_code token_ids_code)
    (λ k. (k.sessions, k.token_ids)) (λ p. record { sessions = p.0; token_ids = p.1 }) (λ _. refl)

abbrev pub logout_code : Coded SeenLogout
logout_code =
    code_by (Part × (Part × List ℕ)) (coded× part_code (coded× part_code text_code))
    (λ l. (l.subject, (l.provider_session, l.token_id)))
    (λ p. record { subject = p.0; provider_session = p.1.0; token_id = p.1.1 })
    (λ _. refl)
