-- The texts that are made for the pairs of an authorization request. No public clause cites this.
use Rattle.std.specs.Prelude.{ℕ, List, Option, map, option_map, decimal}
use Rattle.oidc_oauth2.specs.TokenResponse.{whole_seconds}
use Rattle.oidc_user_info.specs.QueryPairs.{spaced, spaced_if}
use Rattle.oidc_client.specs.Authorization.{SeenAuthorization, response_type_of}

pub record MadeTexts : Type 0 where
  pub response_type : List ℕ
  pub scope : List ℕ
  pub acr_values : Option (List ℕ)
  pub claims_locales : Option (List ℕ)
  pub max_age : Option (List ℕ)
  pub prompt : Option (List ℕ)
  pub ui_locales : Option (List ℕ)

abbrev pub texts_of : {Display Prompt ResponseType : Type 0} → (Prompt → List ℕ) → (ResponseType → List ℕ)
    → SeenAuthorization Display Prompt ResponseType → MadeTexts
texts_of prompt_text type_text r = record {
  response_type = response_type_of type_text r.flow;
  scope = spaced r.scopes;
  acr_values = spaced_if r.acr_values;
  claims_locales = spaced_if r.claims_locales;
  max_age = option_map (λ age. decimal (whole_seconds age)) r.max_age;
  prompt = spaced_if (map prompt_text r.prompts);
  ui_locales = spaced_if r.ui_locales;
}
