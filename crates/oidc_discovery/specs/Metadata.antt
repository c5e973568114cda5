-- What a provider says of itself, by the table of its fields (OpenID Connect Discovery 1.0 section 3, RP-Initiated Logout
-- 1.0 section 2.1, RFC 8414 section 2, RFC 9207 section 3).
use Rattle.std.specs.Prelude.{ℕ, List, [], ◌∷◌, Bool, Option, Result, Ok, codes}
use Rattle.oidc_types.specs.{TextAndUrl}
use Rattle.oidc_members.specs.Seen.{SeenMember, strict}
use Rattle.oidc_members.specs.declared.refusal.Refusal.{Refusal}
use Rattle.oidc_readers.specs.Kinds.{url_kind, texts_kind, flag_kind, or_null}
use Rattle.oidc_readers.specs.Fields.{Field, field, judged}
use Rattle.oidc_readers.specs.Records.{◌>>=◌, Rule, by_table, faultless, required, optional}

-- ---- the table

-- who issues the ID tokens
abbrev pub issuer : Field TextAndUrl
issuer = field (codes "issuer") url_kind

-- where users sign in
abbrev pub authorization_endpoint : Field TextAndUrl
authorization_endpoint = field (codes "authorization_endpoint") url_kind

-- where codes are exchanged
abbrev pub token_endpoint : Field (Option TextAndUrl)
token_endpoint = field (codes "token_endpoint") (or_null url_kind)

-- where user info is asked for
abbrev pub userinfo_endpoint : Field (Option TextAndUrl)
userinfo_endpoint = field (codes "userinfo_endpoint") (or_null url_kind)

-- where the set of keys is published
abbrev pub jwks_uri : Field TextAndUrl
jwks_uri = field (codes "jwks_uri") url_kind

-- the algorithms by which ID tokens are signed
abbrev pub signing_algorithms : Field (List (List ℕ))
signing_algorithms = field (codes "id_token_signing_alg_values_supported") texts_kind

-- where users sign out
abbrev pub end_session_endpoint : Field (Option TextAndUrl)
end_session_endpoint = field (codes "end_session_endpoint") (or_null url_kind)

-- the methods of PKCE challenges
abbrev pub challenge_methods : Field (Option (List (List ℕ)))
challenge_methods = field (codes "code_challenge_methods_supported") (or_null texts_kind)

-- whether the answers at the redirect name the issuer
abbrev pub iss_parameter : Field (Option Bool)
iss_parameter = field (codes "authorization_response_iss_parameter_supported") (or_null (flag_kind strict))

abbrev pub metadata_rule : Rule
metadata_rule =
    by_table
    (judged issuer ∷ judged authorization_endpoint ∷ judged token_endpoint ∷ judged userinfo_endpoint
    ∷ judged jwks_uri ∷ judged signing_algorithms ∷ judged end_session_endpoint ∷ judged challenge_methods
    ∷ judged iss_parameter ∷ [])

-- ---- what members say

-- the fields that have to be there
pub record SeenNeeded : Type 0 where
  pub issuer : TextAndUrl
  pub authorization_endpoint : TextAndUrl
  pub jwks_uri : TextAndUrl
  pub signing_algorithms : List (List ℕ)

-- those, and the others where they are there
pub record SeenMetadata : Type 0 where
  pub needed : SeenNeeded
  pub token_endpoint : Option TextAndUrl
  pub userinfo_endpoint : Option TextAndUrl
  pub end_session_endpoint : Option TextAndUrl
  pub challenge_methods : Option (List (List ℕ))
  pub iss_parameter : Option Bool

unfoldable pub needed_fields_of : List SeenMember → Result SeenNeeded Refusal
needed_fields_of members = do
  named ← required issuer members
  authorization ← required authorization_endpoint members
  keys ← required jwks_uri members
  algorithms ← required signing_algorithms members
  Ok (record {
    issuer = named;
    authorization_endpoint = authorization;
    jwks_uri = keys;
    signing_algorithms = algorithms;
  })

-- The first faulty member refuses them, then the first that is missing.
unfoldable pub metadata_of : List SeenMember → Result SeenMetadata Refusal
metadata_of members = do
  u ← faultless metadata_rule members
  there ← needed_fields_of members
  Ok (record {
    needed = there;
    token_endpoint = optional token_endpoint members;
    userinfo_endpoint = optional userinfo_endpoint members;
    end_session_endpoint = optional end_session_endpoint members;
    challenge_methods = optional challenge_methods members;
    iss_parameter = optional iss_parameter members;
  })
