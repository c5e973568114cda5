-- Where all additional claims are kept, those of the ID token of a user who is signed in hold no float.
use Rattle.std.proofs.Common.{◌≡◌, ℕ, List, false, Result, Ok, ap, ◌∙◌}
use Rattle.oidc_members.specs.Seen.{SeenMember}
use Rattle.oidc_members.specs.Objects.{split_of}
use Rattle.oidc_members.specs.Write.{any_float}
use Rattle.oidc_members.specs.declared.reading.Reading.{Reading}
use Rattle.oidc_members.specs.declared.refusal.Refusal.{Refusal}
use Rattle.oidc_readers.specs.Records.{faultless, required}
use Rattle.oidc_types.specs.declared.core_algorithms.CoreJsonWebKeyType.{CoreJsonWebKeyType}
use Rattle.oidc_types.specs.declared.core_algorithms.CoreJwsSigningAlgorithm.{CoreJwsSigningAlgorithm}
use Rattle.oidc_keys.specs.declared.jwk.JsonWebKey.{Ghosts as Keys}
use Rattle.oidc_keys.specs.declared.jwk.JsonWebKeyUse.{Ghosts as Uses}
use Rattle.oidc_claims.specs.Others.{Others, list_of, read_others}
use Rattle.oidc_oauth2.specs.Messages.{SeenAnswer}
use Rattle.oidc_oauth2.specs.TokenAnswers.{record_in}
use Rattle.oidc_oauth2.specs.TokenResponse.{token_rule, access_token, token_type, tokens_among}
use Rattle.oidc_jwt.proofs.Theorems.{after, same_ok}
use Rattle.oidc_tokens.proofs.Theorems.{response_free}
use Rattle.oidc_login.specs.Types.{SiteTypes, site_types}
use Rattle.oidc_login.specs.Token.{Tokens, no_others, fields_of, tokens_read}
use Rattle.oidc_login.specs.SignedIn.{SeenSignedIn}
use Rattle.oidc_login.specs.Callback.{Attempt}
use Rattle.oidc_login.specs.Causes.{IsSignedIn}

module _ {GC Key Use : Type 0} (gender : SeenMember → Result GC Refusal) (keys : Keys Key Use CoreJwsSigningAlgorithm CoreJsonWebKeyType) (uses : Uses Use) where
  -- the types of a site that keeps all additional claims
  abbrev pub keeping : SiteTypes Others GC Key Use
  keeping = site_types read_others gender keys uses

  fields_read : (reading : Reading) (members : List SeenMember) (tokens : Tokens Others GC) → tokens_read keeping reading members ≡ Ok tokens → fields_of keeping reading members ≡ Ok tokens.extra_fields
  unfolding tokens_among
  fields_read reading members tokens h =
      after (faultless token_rule members) _ tokens h λ _ _ first.
      after (required access_token members) _ tokens first λ access _ second.
      after (required token_type members) _ tokens second λ kind _ third.
      after (fields_of keeping reading members) _ tokens third λ extra read made. read ∙ ap Ok (ap (λ t. t.extra_fields) (same_ok _ tokens made))

  -- tokens that a body holds are read from its members
  body_read : (reading : Reading) (body : List ℕ) (tokens : Tokens Others GC) → record_in (tokens_read keeping reading) body ≡ Ok tokens
      → (members : List SeenMember) × (tokens_read keeping reading members ≡ Ok tokens)
  body_read reading body tokens held = after (split_of body) _ tokens held λ members _ read. (members, read)

  pub signed_free : (a : Attempt Key) (answers : List SeenAnswer) (signed : SeenSignedIn Others GC) → IsSignedIn keeping a answers signed
      → any_float (list_of signed.id_token.payload.additional_claims) ≡ false
  signed_free a answers signed is =
      let reads = is.holds.reads in
      let read = body_read a.client.reading reads.response.body is.held.tokens reads.tokens_held.read in
      ap (λ t. any_float (list_of t.payload.additional_claims)) is.own_id_token
      ∙ response_free keeping.encryption_named keeping.signing_named gender a.client.reading no_others read.0 is.held.tokens.extra_fields is.held.token (fields_read a.client.reading read.0 is.held.tokens read.1) is.holds.own_id_token
