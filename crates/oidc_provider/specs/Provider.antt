-- A provider double as contracts see it.
use Rattle.std.specs.Prelude.{List, [], refl}
use Rattle.std.specs.Coded.{Coded, code_by, coded_list, coded_option, coded×}
use Rattle.oidc_oauth2.specs.Messages.{SeenRequest, SeenAnswer, seen_request_code, seen_response_code}
use Rattle.oidc_provider.specs.Settings.{settings_code, registration_code}
use Rattle.oidc_provider.specs.Grants.{SeenGrants, no_grants, grants_code}
use Rattle.oidc_provider.specs.declared.settings.ProviderSettings.{ProviderSettings}
use Rattle.oidc_provider.specs.declared.settings.Registration.{Registration}

-- its issuer and endpoints, its clients, its grants, and the requests that it got with their answers
pub record SeenProvider : Type 0 where
  pub settings : ProviderSettings
  pub registrations : List Registration
  pub grants : SeenGrants
  pub requests : List SeenRequest
  pub answers : List SeenAnswer

-- one that has granted nothing and got no request
abbrev pub new_provider : ProviderSettings → List Registration → SeenProvider
new_provider settings registrations = record {
  settings = settings;
  registrations = registrations;
  grants = no_grants;
  requests = [];
  answers = [];
}

-- ---- how the logic stores it

abbrev pub provider_code : Coded SeenProvider
provider_code =
    code_by (ProviderSettings × (List Registration × (SeenGrants × (List SeenRequest × List SeenAnswer))))
    (coded× settings_code (coded× (coded_list registration_code) (coded× grants_code (coded× (coded_list seen_request_code) (coded_list (coded_option seen_response_code))))))
    (λ p. (p.settings, (p.registrations, (p.grants, (p.requests, p.answers)))))
    (λ p. record { settings = p.0; registrations = p.1.0; grants = p.1.1.0; requests = p.1.1.1.0; answers = p.1.1.1.1 })
    (λ _. refl)
