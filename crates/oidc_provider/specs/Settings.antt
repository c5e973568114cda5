-- What a provider double is made with: how the logic stores it, which registrations name one client twice, and which of
-- them is a client's (RFC 6749 section 2).
use Rattle.std.specs.Prelude.{◌||◌, ℕ, List, [], ◌∷◌, Bool, false, Option, find, refl}
use Rattle.std.specs.List.{list_any}
use Rattle.std.specs.Coded.{Coded, code_by, coded_ℕ, coded_list, coded×}
use Rattle.std.specs.Str.{bytes_eq}
use Rattle.oidc_types.specs.{TextAndUrl}
use Rattle.oidc_types.specs.UrlText.{text_and_url_code}
use Rattle.oidc_provider.specs.declared.settings.ProviderSettings.{ProviderSettings}
use Rattle.oidc_provider.specs.declared.settings.Registration.{Registration}

-- two registrations have one client ID
abbrev pub has_same_client : List Registration → Bool
has_same_client [] = false
has_same_client (first ∷ later) =
    list_any (λ other. bytes_eq other.client_id first.client_id) later || has_same_client later

-- the registration of a client, where it has one
abbrev pub registered : List Registration → List ℕ → Option Registration
registered registrations id = find (λ r. bytes_eq r.client_id id) registrations

-- ---- how the logic stores them

abbrev text_code : Coded (List ℕ)
text_code = coded_list coded_ℕ

abbrev pub settings_code : Coded ProviderSettings
settings_code =
    code_by (TextAndUrl × (TextAndUrl × TextAndUrl)) (coded× text_and_url_code (coded× text_and_url_code text_and_url_code))
    (λ s. (s.issuer, (s.token, s.user_info))) (λ p. record { issuer = p.0; token = p.1.0; user_info = p.1.1 }) (λ _. refl)

abbrev pub registration_code : Coded Registration
registration_code =
    code_by (List ℕ × (List ℕ × TextAndUrl)) (coded× text_code (coded× text_code text_and_url_code))
    (λ r. (r.client_id, (r.secret, r.redirect))) (λ p. record { client_id = p.0; secret = p.1.0; redirect = p.1.1 }) (λ _. refl)
