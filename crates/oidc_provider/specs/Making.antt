-- How a grant is made of its parts. No public clause cites this.
use Rattle.std.specs.Prelude.{◌≡◌, ℕ, List, false, Some, Result, IsUtf8}
use Rattle.std.specs.String.{string_bytes}
use Rattle.serde_json.specs.Data.{Data}
use Rattle.oidc_members.specs.Seen.{SeenMember, OutSeen}
use Rattle.oidc_members.specs.declared.refusal.Refusal.{Refusal}
use Rattle.oidc_types.specs.{TextAndUrl}
use Rattle.oidc_id_token_claims.specs.IdTokenClaims.{SeenIdTokenClaims}
use Rattle.oidc_login.specs.Token.{SeenIdToken}
use Rattle.oidc_provider.specs.Grants.{SeenGrant}
use Rattle.oidc_provider.specs.Authorization.{AskedLogin}
use Rattle.oidc_provider.specs.Issuing.{IsIssued, IsUsable, token_body}
use Rattle.oidc_provider.specs.declared.issuing.GrantSource.{GrantSource}

-- the texts of a grant
pub record GrantTexts : Type 0 where
  pub client : List ℕ
  pub redirect : List ℕ
  pub challenge : List ℕ
  pub code : List ℕ
  pub token : List ℕ

abbrev pub parts_of : GrantSource → AskedLogin → List ℕ → List ℕ → GrantTexts
parts_of own login code token = record {
  client = string_bytes own.client;
  redirect = string_bytes own.redirect;
  challenge = login.challenge;
  code = code;
  token = token;
}

abbrev pub claims_of : {AC GC : Type 0} → TextAndUrl → List (List ℕ) → List ℕ → SeenIdTokenClaims AC GC → SeenIdTokenClaims AC GC
claims_of issuer audiences nonce claims =
    record claims { own = record claims.own { issuer = issuer; audiences = audiences; nonce = Some nonce } }

module _ {AC GC : Type 0} (additional : List SeenMember → Result AC Refusal) (gender : SeenMember → Result GC Refusal)
    (additional_out : AC → List OutSeen) (gender_data : GC → Data) where
  -- a token response with an ID token that is issued of these claims
  pub record IsIssuedBody (secret token : List ℕ) (claims : SeenIdTokenClaims AC GC) (body : List ℕ) : Type 0 where
    pub id_token : SeenIdToken AC GC
    pub issued : IsIssued additional_out gender_data secret token claims id_token
    pub usable : IsUsable additional gender additional_out secret claims id_token
    pub text : body ≡ token_body token id_token
    pub token_text : IsUtf8 token

  -- a grant with these texts and these bodies
  pub record IsGrantOf (texts : GrantTexts) (secret : List ℕ) (claims : SeenIdTokenClaims AC GC) (info_body : List ℕ)
      (grant : SeenGrant) : Type 0 where
    pub client : grant.client ≡ texts.client
    pub redirect : grant.redirect ≡ texts.redirect
    pub challenge : grant.challenge ≡ texts.challenge
    pub code : grant.code ≡ texts.code
    pub token : grant.token ≡ texts.token
    pub unredeemed : grant.redeemed ≡ false
    pub own_body : IsIssuedBody secret texts.token claims grant.token_body
    pub own_info : grant.info_body ≡ info_body
    pub code_text : IsUtf8 texts.code
