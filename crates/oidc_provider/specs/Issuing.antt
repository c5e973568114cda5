-- What is kept of an authorization: the ID token and the two bodies that a grant answers with (OpenID Connect Core 1.0
-- sections 2, 3.1.3.3, 3.1.3.6 and 5.3.2).
use Rattle.std.specs.Prelude.{◌≡◌, ℕ, ℤ, List, [], ◌∷◌, Bool, false, Option, None, Some, Result, Ok, IsUtf8}
use Rattle.serde_json.specs.Data.{Data}
use Rattle.oidc_members.specs.Seen.{SeenMember, OutSeen}
use Rattle.oidc_members.specs.Write.{any_float, object_text}
use Rattle.oidc_members.specs.declared.reading.Reading.{Reading}
use Rattle.oidc_members.specs.declared.refusal.Refusal.{Refusal}
use Rattle.oidc_types.specs.{signing_text}
use Rattle.oidc_types.specs.declared.core_algorithms.CoreJwsSigningAlgorithm.TheVariants.{HmacSha256}
use Rattle.oidc_types.specs.declared.signing_error.SigningError.{SigningError}
use Rattle.oidc_keys.specs.CoreJwk.{SymmetricKey, hash_function, symmetric_signature}
use Rattle.oidc_keys.specs.declared.core_jwk.CoreJsonWebKeyUse.{CoreJsonWebKeyUse}
use Rattle.oidc_keys.specs.contracts.core_jwk.CoreJsonWebKeyJsonWebKey.TheImpl.{ghosts as of_keys}
use Rattle.oidc_keys.specs.contracts.core_jwk.CoreJsonWebKeyUseJsonWebKeyUse.TheImpl.{ghosts as of_uses}
use Rattle.oidc_oauth2.specs.TokenResponse.{written_tokens}
use Rattle.oidc_oauth2.specs.Words.{token_type_text}
use Rattle.oidc_oauth2.specs.declared.token_type.CoreTokenType.TheVariants.{Bearer}
use Rattle.oidc_jwt.specs.Header.{written_header}
use Rattle.oidc_jwt.specs.Issuing.{signed_with, compact, message_of, IsHeadedBy}
use Rattle.oidc_id_token_claims.specs.IdTokenClaims.{SeenIdTokenClaims, id_token_members}
use Rattle.oidc_id_token_claims.specs.RoundTrip.{IsTokenInRange}
use Rattle.oidc_tokens.specs.Hashes.{hashing, with_hashes}
use Rattle.oidc_tokens.specs.Issuing.{Expects}
use Rattle.oidc_tokens.specs.Verification.{Accepts}
use Rattle.oidc_tokens.specs.IdTokenFields.{response_fields_out}
use Rattle.oidc_user_info.specs.UserInfoClaims.{SeenUserInfoClaims, user_info_members}
use Rattle.oidc_user_info.specs.InfoAnswers.{claims_in}
use Rattle.oidc_user_info.specs.RoundTrip.{IsInfoInRange}
use Rattle.oidc_login.specs.Types.{SiteTypes, site_types}
use Rattle.oidc_login.specs.Token.{SeenIdToken, KeyVerifier, Tokens, id_token_of}
use Rattle.oidc_provider.specs.Grants.{SeenGrant}
use Rattle.oidc_provider.specs.Authorization.{Allowed}
use Rattle.oidc_provider.specs.declared.settings.ProviderSettings.{ProviderSettings}
use Rattle.oidc_provider.specs.declared.settings.Registration.{Registration}

-- what a site brings whose keys are those of this library
abbrev pub core_types : {AC GC : Type 0} → (List SeenMember → Result AC Refusal) → (SeenMember → Result GC Refusal)
    → SiteTypes AC GC SymmetricKey CoreJsonWebKeyUse
core_types additional gender = site_types additional gender of_keys of_uses

-- the key that a secret is
abbrev pub key_of_secret : List ℕ → SymmetricKey
key_of_secret secret = record { secret = secret; id = None }

-- The texts of a client and of what is granted to it are UTF-8, as those of a program are.
pub record AreTexts (client : Registration) (new_code new_token : List ℕ) : Type 0 where
  pub id : IsUtf8 client.client_id
  pub secret : IsUtf8 client.secret
  pub redirect : IsUtf8 client.redirect.text
  pub code : IsUtf8 new_code
  pub token : IsUtf8 new_token

-- the claims with their issuer, the client as sole audience, and the nonce of the login
abbrev pub claims_for : {AC GC : Type 0} → ProviderSettings → Allowed → SeenIdTokenClaims AC GC → SeenIdTokenClaims AC GC
claims_for settings allowed claims = record claims {
  own = record claims.own {
    issuer = settings.issuer;
    audiences = allowed.client.client_id ∷ [];
    nonce = Some allowed.login.nonce;
  };
}

-- and with the hash of the access token, by the hash function of HS256
abbrev pub hashed : {AC GC : Type 0} → List ℕ → SeenIdTokenClaims AC GC → Result (SeenIdTokenClaims AC GC) SigningError
hashed token claims = with_hashes (hashing (signing_text HmacSha256) (hash_function HmacSha256)) (Some token) None claims

-- the header of each ID token
abbrev pub own_header : List OutSeen
own_header = written_header (signing_text HmacSha256) None

-- An ID token of these claims, signed by HS256 under a secret. Where the additional claims hold a float, its payload's text
-- is open, since a float's digits are.
pub record IsIssued {AC GC : Type 0} (additional_out : AC → List OutSeen) (gender_data : GC → Data)
    (secret token : List ℕ) (claims : SeenIdTokenClaims AC GC) (id_token : SeenIdToken AC GC) : Type 0 where
  pub claimed : hashed token claims ≡ Ok id_token.payload
  pub header : id_token.header ≡ signed_with HmacSha256 None
  pub signed : symmetric_signature secret HmacSha256 id_token.message ≡ Ok id_token.signature
  pub text : id_token.text ≡ compact id_token.message id_token.signature
  pub headed : IsHeadedBy id_token.message own_header
  pub message : any_float (additional_out claims.additional_claims) ≡ false
      → id_token.message ≡ message_of own_header (id_token_members additional_out gender_data id_token.payload)

-- It is read back, under every reading, where the claims are in range; and whoever expects these claims accepts it.
pub record IsUsable {AC GC : Type 0} (additional : List SeenMember → Result AC Refusal) (gender : SeenMember → Result GC Refusal)
    (additional_out : AC → List OutSeen) (secret : List ℕ) (claims : SeenIdTokenClaims AC GC) (id_token : SeenIdToken AC GC)
    : Type 0 where
  pub text : IsUtf8 id_token.text
  pub reads_back : (reading : Reading) → IsTokenInRange additional_out claims
      → id_token_of (core_types additional gender) reading id_token.text ≡ Ok id_token
  pub accepted : (v : KeyVerifier SymmetricKey) (allows : Option (List ℕ) → Bool) (now : ℤ)
      → Expects (core_types additional gender).keys v allows now HmacSha256 (key_of_secret secret) claims
      → Accepts (core_types additional gender).keys v allows now id_token

-- a token response with this access token and this ID token, and nothing else
abbrev pub tokens : {AC GC : Type 0} → List ℕ → SeenIdToken AC GC → Tokens AC GC
tokens access_token token = record {
  access_token = access_token;
  token_type = Bearer;
  expires_in = None;
  refresh_token = None;
  scopes = None;
  extra_fields = record { id_token = Some token; extra_fields = record {} };
}

-- the same, as it is written
unfoldable pub token_body : {AC GC : Type 0} → List ℕ → SeenIdToken AC GC → List ℕ
token_body access_token token =
    object_text (written_tokens token_type_text (response_fields_out (λ none. [])) (tokens access_token token))

-- The grant of what is allowed, under a new code and a new access token. Where the additional claims of user info hold a
-- float, the text of that body is open, since a float's digits are. User info is read back from it, under every reading,
-- where its claims are in range.
pub record IsGranted {AC GC : Type 0} (additional : List SeenMember → Result AC Refusal) (gender : SeenMember → Result GC Refusal)
    (additional_out : AC → List OutSeen) (gender_data : GC → Data) (settings : ProviderSettings) (allowed : Allowed)
    (new_code new_token : List ℕ) (claims : SeenIdTokenClaims AC GC) (user_info : SeenUserInfoClaims AC GC) (grant : SeenGrant)
    : Type 0 where
  pub client : grant.client ≡ allowed.client.client_id
  pub redirect : grant.redirect ≡ allowed.client.redirect.text
  pub challenge : grant.challenge ≡ allowed.login.challenge
  pub code : grant.code ≡ new_code
  pub token : grant.token ≡ new_token
  pub unredeemed : grant.redeemed ≡ false
  pub id_token : SeenIdToken AC GC
  pub issued : IsIssued additional_out gender_data allowed.client.secret new_token (claims_for settings allowed claims) id_token
  pub usable : IsUsable additional gender additional_out allowed.client.secret (claims_for settings allowed claims) id_token
  pub token_text : grant.token_body ≡ token_body new_token id_token
  pub info_text : any_float (additional_out user_info.additional_claims) ≡ false
      → grant.info_body ≡ object_text (user_info_members additional_out gender_data user_info)
  pub info_back : (reading : Reading) → IsInfoInRange additional_out user_info
      → claims_in additional gender reading grant.info_body ≡ Ok user_info
  pub texts : AreTexts allowed.client new_code new_token
