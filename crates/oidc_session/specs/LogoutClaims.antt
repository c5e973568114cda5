-- The claims of a logout token (OpenID Connect Back-Channel Logout 1.0 section 2.4).
use Rattle.std.specs.Prelude.{ℕ, ℤ, List, [], ◌∷◌, Bool, false, Option, is_some, Result, Ok, Err, codes, if◌then◌else◌}
use Rattle.std.specs.Option.{option_map_or}
use Rattle.serde_json.specs.Data.{Data}
use Rattle.serde_json.specs.Find.{as_object, get}
use Rattle.oidc_types.specs.{TextAndUrl}
use Rattle.oidc_members.specs.Seen.{SeenMember, strict}
use Rattle.oidc_members.specs.declared.refusal.Refusal.{Refusal}
use Rattle.oidc_members.specs.declared.refusal.ParseKind.TheVariants.{WrongType}
use Rattle.oidc_readers.specs.declared.kinds.Present.{Present}
use Rattle.oidc_readers.specs.Kinds.{Kind, of_member, text_kind, text_or_texts_kind, url_kind, moment_kind, any_kind, or_null}
use Rattle.oidc_readers.specs.Fields.{Field, field, judged}
use Rattle.oidc_readers.specs.Records.{◌>>=◌, Rule, by_table, faultless, required, optional}

-- ---- the event that makes a token one of a logout

abbrev pub logout_event : List ℕ
logout_event = codes "http://schemas.openid.net/event/backchannel-logout"

abbrev pub is_object : Data → Bool
is_object value = is_some (as_object value)

-- The event is among these, and its value is an object. Of a name that stands twice the last value counts.
abbrev pub names_logout : Data → Bool
names_logout events = option_map_or is_object (get logout_event events) false

-- an object of events, of which is kept whether it names a logout
abbrev pub events_kind : Kind Bool
events_kind m = if is_object m.value then Ok (names_logout m.value) else Err (of_member WrongType m)

-- ---- the table

-- who issued it
abbrev pub iss : Field TextAndUrl
iss = field (codes "iss") url_kind

-- whom it is for
abbrev pub aud : Field (List (List ℕ))
aud = field (codes "aud") text_or_texts_kind

-- when it was issued, which has to be said and isn't judged
abbrev pub iat : Field ℤ
iat = field (codes "iat") (moment_kind strict)

-- when it expires
abbrev pub exp : Field ℤ
exp = field (codes "exp") (moment_kind strict)

-- its own id (RFC 7519 section 4.1.7)
abbrev pub jti : Field (List ℕ)
jti = field (codes "jti") text_kind

-- what it is a token of
abbrev pub events : Field Bool
events = field (codes "events") events_kind

-- whose sessions end
abbrev pub sub : Field (Option (List ℕ))
sub = field (codes "sub") (or_null text_kind)

-- which session of the provider ends
abbrev pub sid : Field (Option (List ℕ))
sid = field (codes "sid") (or_null text_kind)

-- what only an ID token may have, of any value
abbrev pub nonce : Field (Option Present)
nonce = field (codes "nonce") (or_null (any_kind (record {})))

abbrev pub logout_rule : Rule
logout_rule =
    by_table
    (judged iss ∷ judged aud ∷ judged iat ∷ judged exp ∷ judged jti ∷ judged events
    ∷ judged sub ∷ judged sid ∷ judged nonce ∷ [])

-- ---- what members say

-- the fields that have to be there, but for `iat`
pub record Needed : Type 0 where
  pub issuer : TextAndUrl
  pub audiences : List (List ℕ)
  pub expiration : ℤ
  pub token_id : List ℕ
  pub names_logout : Bool

-- the claims: those, whose sessions they name, and whether there is a nonce
pub record SeenLogoutClaims : Type 0 where
  pub needed : Needed
  pub subject : Option (List ℕ)
  pub provider_session : Option (List ℕ)
  pub has_nonce : Bool

unfoldable pub needed_of : List SeenMember → Result Needed Refusal
needed_of members = do
  issuer ← required iss members
  audiences ← required aud members
  issued_at ← required iat members
  expiration ← required exp members
  token_id ← required jti members
  is_logout ← required events members
  Ok (record {
    issuer = issuer;
    audiences = audiences;
    expiration = expiration;
    token_id = token_id;
    names_logout = is_logout;
  })

-- The first faulty member refuses them, then the first that is missing.
unfoldable pub logout_claims_of : List SeenMember → Result SeenLogoutClaims Refusal
logout_claims_of members = do
  u ← faultless logout_rule members
  there ← needed_of members
  Ok (record {
    needed = there;
    subject = optional sub members;
    provider_session = optional sid members;
    has_nonce = is_some (optional nonce members);
  })
