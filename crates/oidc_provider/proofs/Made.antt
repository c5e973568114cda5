-- A grant that is made of its parts.
use Rattle.std.proofs.Common.{◌≡◌, ℕ, List, [], ◌∷◌, false, Result, Ok, Err, subst, ap, ◌∙◌}
use Rattle.std.specs.Prelude.{IfOk, IsUtf8}
use Rattle.std.specs.String.{string_bytes}
use Rattle.serde_json.specs.Data.{Data}
use Rattle.oidc_members.specs.Seen.{SeenMember, OutSeen}
use Rattle.oidc_members.specs.declared.reading.Reading.{Reading}
use Rattle.oidc_members.specs.declared.refusal.Refusal.{Refusal}
use Rattle.oidc_members.specs.Write.{any_float, object_text}
use Rattle.oidc_types.specs.{TextAndUrl}
use Rattle.oidc_id_token_claims.specs.IdTokenClaims.{SeenIdTokenClaims}
use Rattle.oidc_user_info.specs.InfoAnswers.{claims_in}
use Rattle.oidc_user_info.specs.RoundTrip.{IsInfoInRange}
use Rattle.oidc_user_info.specs.UserInfoClaims.{SeenUserInfoClaims, user_info_members}
use Rattle.oidc_login.specs.Token.{SeenIdToken}
use Rattle.oidc_provider.specs.Grants.{SeenGrant}
use Rattle.oidc_provider.specs.Authorization.{AskedLogin}
use Rattle.oidc_provider.specs.Issuing.{IsIssued, IsUsable, IsGranted, token_body}
use Rattle.oidc_provider.specs.Making.{IsIssuedBody, IsGrantOf, parts_of, claims_of}
use Rattle.oidc_provider.specs.Steps.{allowed_to}
use Rattle.oidc_provider.specs.declared.issuing.GrantSource.{GrantSource}
use Rattle.oidc_provider.specs.declared.settings.ProviderSettings.{ProviderSettings}
use Rattle.oidc_provider.specs.declared.settings.Registration.{Registration}

module _ {AC GC : Type 0} (additional : List SeenMember → Result AC Refusal) (gender : SeenMember → Result GC Refusal)
    (additional_out : AC → List OutSeen) (gender_data : GC → Data) where
  pub issued_of : {V E : Type 0} (items : V → List ℕ) (secret token copy : List ℕ) (claims : SeenIdTokenClaims AC GC) (id_token : SeenIdToken AC GC) (result : Result V E)
      → IsIssued additional_out gender_data secret token claims id_token → IsUsable additional gender additional_out secret claims id_token → copy ≡ token → IsUtf8 token → IfOk result (λ body. items body ≡ token_body copy id_token)
      → IfOk result (λ body. IsIssuedBody additional gender additional_out gender_data secret token claims (items body))
  issued_of items secret token copy claims id_token (Ok body) issued usable same token_text is = record {
    id_token = id_token;
    issued = issued;
    usable = usable;
    text = is ∙ ap (λ t. token_body t id_token) same;
    token_text = token_text;
  }
  issued_of items secret token copy claims id_token (Err e) issued usable same token_text is = tt

  module _ (settings : ProviderSettings) (client : Registration) (own : GrantSource) (login : AskedLogin) (audiences : List (List ℕ)) (code token : List ℕ)
      (claims : SeenIdTokenClaims AC GC) (user_info : SeenUserInfoClaims AC GC) (info_body : List ℕ)
      (issuer : own.issuer ≡ settings.issuer) (audience : audiences ≡ client.client_id ∷ []) (key : own.key ≡ client.secret)
      (name : string_bytes own.client ≡ client.client_id) (redirect : string_bytes own.redirect ≡ client.redirect.text)
      (info : any_float (additional_out user_info.additional_claims) ≡ false → info_body ≡ object_text (user_info_members additional_out gender_data user_info))
      (info_back : (reading : Reading) → IsInfoInRange additional_out user_info → claims_in additional gender reading info_body ≡ Ok user_info)
      (id_text : IsUtf8 client.client_id) (secret_text : IsUtf8 client.secret) (redirect_text : IsUtf8 client.redirect.text) where
    abbrev Issued : List ℕ → TextAndUrl → List (List ℕ) → SeenIdToken AC GC → Type 0
    Issued secret from to id_token =
        IsIssued additional_out gender_data secret token (claims_of from to login.nonce claims) id_token
        × IsUsable additional gender additional_out secret (claims_of from to login.nonce claims) id_token

    own_issued : (id_token : SeenIdToken AC GC) → Issued own.key own.issuer audiences id_token → Issued client.secret settings.issuer (client.client_id ∷ []) id_token
    own_issued id_token issued =
        subst (λ k. Issued k settings.issuer (client.client_id ∷ []) id_token) key
        (subst (λ from. Issued own.key from (client.client_id ∷ []) id_token) issuer
        (subst (λ to. Issued own.key own.issuer to id_token) audience issued))

    pub granted_of : {E : Type 0} (result : Result SeenGrant E)
        → IfOk result (λ grant. IsGrantOf additional gender additional_out gender_data (parts_of own login code token) own.key (claims_of own.issuer audiences login.nonce claims) info_body grant)
        → IfOk result (λ grant. IsGranted additional gender additional_out gender_data settings (allowed_to client login) code token claims user_info grant)
    granted_of (Ok grant) x = record {
      client = x.client ∙ name;
      redirect = x.redirect ∙ redirect;
      challenge = x.challenge;
      code = x.code;
      token = x.token;
      unredeemed = x.unredeemed;
      id_token = x.own_body.id_token;
      issued = (own_issued x.own_body.id_token (x.own_body.issued, x.own_body.usable)).0;
      usable = (own_issued x.own_body.id_token (x.own_body.issued, x.own_body.usable)).1;
      token_text = x.own_body.text;
      info_text = λ free. x.own_info ∙ info free;
      info_back = λ reading range. ap (λ body. claims_in additional gender reading body) x.own_info ∙ info_back reading range;
      texts = record { id = id_text; secret = secret_text; redirect = redirect_text; code = x.code_text; token = x.own_body.token_text };
    }
    granted_of (Err e) x = tt
