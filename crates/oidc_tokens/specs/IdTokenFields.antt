-- The ID token of a token response (OpenID Connect Core 1.0 section 3.1.3.3).
use Rattle.std.specs.Prelude.{ℕ, List, ◌++◌, Option, option_map, Result, Ok, codes}
use Rattle.oidc_members.specs.Seen.{SeenMember, OutSeen}
use Rattle.oidc_members.specs.declared.refusal.Refusal.{Refusal}
use Rattle.oidc_readers.specs.Kinds.{Kind, text_kind, or_null}
use Rattle.oidc_readers.specs.Fields.{Field, field, judged}
use Rattle.oidc_readers.specs.Records.{◌>>=◌, faultless, optional}
use Rattle.oidc_readers.specs.Writing.{text_member}
use Rattle.oidc_jwt.specs.Tokens.{SeenToken}

-- the ID token of a response, where it has one, and the fields beside it
pub record SeenIdTokenFields (Token Extra : Type 0) : Type 0 where
  pub id_token : Option Token
  pub extra_fields : Extra

-- a text that is a token
abbrev pub token_kind : {Token : Type 0} → (List ℕ → Result Token Refusal) → Kind Token
token_kind read_token m = text_kind m >>= read_token

-- A null stands for no token.
abbrev pub id_token : {Token : Type 0} → (List ℕ → Result Token Refusal) → Field (Option Token)
id_token read_token = field (codes "id_token") (or_null (token_kind read_token))

-- A member `id_token` is refused as its token is, before the other fields may refuse the response.
unfoldable pub response_fields_of : {Token Extra : Type 0} → (List ℕ → Result Token Refusal)
    → (List SeenMember → Result Extra Refusal) → List SeenMember
    → Result (SeenIdTokenFields Token Extra) Refusal
response_fields_of read_token extra_read members = do
  u ← faultless (judged (id_token read_token)) members
  extra ← extra_read members
  Ok (record { id_token = optional (id_token read_token) members; extra_fields = extra })

-- the token's text as it was read or made, then the other fields
abbrev pub response_fields_out : {JE JS P Extra : Type 0} → (Extra → List OutSeen)
    → SeenIdTokenFields (SeenToken JE JS P) Extra → List OutSeen
response_fields_out extra_out fields =
    text_member (codes "id_token") (option_map (λ token. token.text) fields.id_token)
    ++ extra_out fields.extra_fields
