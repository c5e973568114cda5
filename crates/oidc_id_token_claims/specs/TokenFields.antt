-- The fields of an ID token that are no standard claims: their table, what members say of them, and the
-- members that they are written as (OpenID Connect Core 1.0 sections 2, 3.1.3.6 and 3.3.2.11).
use Rattle.std.specs.Prelude.{ℕ, ℤ, List, [], ◌∷◌, ◌++◌, Option, unwrap_or, Result, Ok, codes}
use Rattle.serde_json.specs.Data.{string}
use Rattle.oidc_types.specs.{TextAndUrl}
use Rattle.oidc_members.specs.Seen.{SeenMember, OutSeen}
use Rattle.oidc_members.specs.declared.reading.Reading.{Reading}
use Rattle.oidc_members.specs.declared.refusal.Refusal.{Refusal}
use Rattle.oidc_readers.specs.Kinds.{text_kind, url_kind, moment_kind, texts_kind, text_or_texts_kind, or_null}
use Rattle.oidc_readers.specs.Fields.{Field, field, judged, value_in}
use Rattle.oidc_readers.specs.Moments.{seconds_data}
use Rattle.oidc_readers.specs.Records.{◌>>=◌, Rule, by_table, required, optional}
use Rattle.oidc_readers.specs.Writing.{one_member, text_member, moment_member, texts_data, texts_member}

-- Moments are nanoseconds since the Unix epoch.
pub record SeenOwnClaims : Type 0 where
  pub issuer : TextAndUrl
  pub audiences : List (List ℕ)
  pub expiration : ℤ
  pub issue_time : ℤ
  pub auth_time : Option ℤ
  pub nonce : Option (List ℕ)
  pub auth_context_ref : Option (List ℕ)
  pub auth_method_refs : Option (List (List ℕ))
  pub authorized_party : Option (List ℕ)
  pub access_token_hash : Option (List ℕ)
  pub code_hash : Option (List ℕ)

-- ---- the table

abbrev pub iss : Field TextAndUrl
iss = field (codes "iss") url_kind

abbrev pub aud : Field (List (List ℕ))
aud = field (codes "aud") text_or_texts_kind

-- Moments depend on the reading.
abbrev pub exp : Reading → Field ℤ
exp reading = field (codes "exp") (moment_kind reading)

abbrev pub iat : Reading → Field ℤ
iat reading = field (codes "iat") (moment_kind reading)

abbrev pub auth_time : Reading → Field (Option ℤ)
auth_time reading = field (codes "auth_time") (or_null (moment_kind reading))

abbrev pub nonce : Field (Option (List ℕ))
nonce = field (codes "nonce") (or_null text_kind)

abbrev pub acr : Field (Option (List ℕ))
acr = field (codes "acr") (or_null text_kind)

abbrev pub amr : Field (Option (List (List ℕ)))
amr = field (codes "amr") (or_null texts_kind)

abbrev pub azp : Field (Option (List ℕ))
azp = field (codes "azp") (or_null text_kind)

abbrev pub at_hash : Field (Option (List ℕ))
at_hash = field (codes "at_hash") (or_null text_kind)

abbrev pub c_hash : Field (Option (List ℕ))
c_hash = field (codes "c_hash") (or_null text_kind)

abbrev pub own_rule : Reading → Rule
own_rule reading =
    by_table
    (judged iss ∷ judged aud ∷ judged (exp reading) ∷ judged (iat reading)
    ∷ judged (auth_time reading) ∷ judged nonce
    ∷ judged acr ∷ judged amr ∷ judged azp ∷ judged at_hash ∷ judged c_hash ∷ [])

-- ---- what members say, none of which is faulty

-- the fields that have to be there
pub record Needed : Type 0 where
  pub issuer : TextAndUrl
  pub expiration : ℤ
  pub issue_time : ℤ

unfoldable pub needed_of : Reading → List SeenMember → Result Needed Refusal
needed_of reading members = do
  issuer ← required iss members
  expiration ← required (exp reading) members
  issue_time ← required (iat reading) members
  Ok (record { issuer = issuer; expiration = expiration; issue_time = issue_time })

-- Without `aud` there is no audience.
unfoldable pub own_of : Reading → List SeenMember → Result SeenOwnClaims Refusal
own_of reading members = do
  there ← needed_of reading members
  Ok (record {
    issuer = there.issuer;
    audiences = unwrap_or (value_in aud members) [];
    expiration = there.expiration;
    issue_time = there.issue_time;
    auth_time = optional (auth_time reading) members;
    nonce = optional nonce members;
    auth_context_ref = optional acr members;
    auth_method_refs = optional amr members;
    authorized_party = optional azp members;
    access_token_hash = optional at_hash members;
    code_hash = optional c_hash members;
  })

-- ---- as members

-- in the order of the table, absent fields left out; `aud` is always an array
abbrev pub own_members : SeenOwnClaims → List OutSeen
own_members c =
    one_member iss.name (string c.issuer.text)
    ++ one_member aud.name (texts_data c.audiences)
    ++ one_member (codes "exp") (seconds_data c.expiration)
    ++ one_member (codes "iat") (seconds_data c.issue_time)
    ++ moment_member (codes "auth_time") c.auth_time
    ++ text_member nonce.name c.nonce
    ++ text_member acr.name c.auth_context_ref
    ++ texts_member amr.name c.auth_method_refs
    ++ text_member azp.name c.authorized_party
    ++ text_member at_hash.name c.access_token_hash
    ++ text_member c_hash.name c.code_hash
