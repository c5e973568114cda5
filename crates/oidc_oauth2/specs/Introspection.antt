-- Token introspection responses (RFC 7662 section 2.2).
use Rattle.std.specs.Prelude.{ℕ, ℤ, Bool, List, [], ◌∷◌, Option, option_map, Result, Ok, codes, refl}
use Rattle.std.specs.Coded.{Coded, code_by, coded×, coded_option, coded_list, coded_ℕ, coded_ℤ, coded_bool}
use Rattle.oidc_members.specs.Seen.{SeenMember, strict}
use Rattle.oidc_members.specs.declared.refusal.Refusal.{Refusal}
use Rattle.oidc_readers.specs.Kinds.{text_kind, flag_kind, moment_kind, text_or_texts_kind, or_null}
use Rattle.oidc_readers.specs.Fields.{Field, field, judged}
use Rattle.oidc_readers.specs.Records.{◌>>=◌, Rule, by_table, faultless, required, optional}
use Rattle.oidc_oauth2.specs.TokenResponse.{scopes_in}

-- ---- the table of the fields, which are read strictly

abbrev pub active : Field Bool
active = field (codes "active") (flag_kind strict)

abbrev pub scope : Field (Option (List ℕ))
scope = field (codes "scope") (or_null text_kind)

abbrev pub client_id : Field (Option (List ℕ))
client_id = field (codes "client_id") (or_null text_kind)

abbrev pub username : Field (Option (List ℕ))
username = field (codes "username") (or_null text_kind)

abbrev pub token_type : Field (Option (List ℕ))
token_type = field (codes "token_type") (or_null text_kind)

abbrev pub sub : Field (Option (List ℕ))
sub = field (codes "sub") (or_null text_kind)

abbrev pub iss : Field (Option (List ℕ))
iss = field (codes "iss") (or_null text_kind)

abbrev pub jti : Field (Option (List ℕ))
jti = field (codes "jti") (or_null text_kind)

abbrev pub exp : Field (Option ℤ)
exp = field (codes "exp") (or_null (moment_kind strict))

abbrev pub nbf : Field (Option ℤ)
nbf = field (codes "nbf") (or_null (moment_kind strict))

abbrev pub iat : Field (Option ℤ)
iat = field (codes "iat") (or_null (moment_kind strict))

abbrev pub aud : Field (Option (List (List ℕ)))
aud = field (codes "aud") (or_null text_or_texts_kind)

abbrev pub introspection_rule : Rule
introspection_rule =
    by_table (judged active ∷ judged scope ∷ judged client_id ∷ judged username ∷ judged token_type ∷ judged sub ∷ judged iss ∷ judged jti ∷ judged exp ∷ judged nbf ∷ judged iat ∷ judged aud ∷ [])

-- ---- the response

-- moments are in nanoseconds since the Unix epoch
pub record SeenIntrospection (Type' Extra : Type 0) : Type 0 where
  pub active : Bool
  pub scopes : Option (List (List ℕ))
  pub client_id : Option (List ℕ)
  pub username : Option (List ℕ)
  pub token_type : Option Type'
  pub sub : Option (List ℕ)
  pub iss : Option (List ℕ)
  pub jti : Option (List ℕ)
  pub exp : Option ℤ
  pub nbf : Option ℤ
  pub iat : Option ℤ
  pub aud : Option (List (List ℕ))
  pub extra_fields : Extra

module _ {T E : Type 0} (type_of : List ℕ → T) (extra_of : List SeenMember → Result E Refusal) where
  unfoldable pub introspection_of : List SeenMember → Result (SeenIntrospection T E) Refusal
  introspection_of members = do
    u ← faultless introspection_rule members
    is_active ← required active members
    extra ← extra_of members
    Ok (record {
      active = is_active;
      scopes = option_map scopes_in (optional scope members);
      client_id = optional client_id members;
      username = optional username members;
      token_type = option_map type_of (optional token_type members);
      sub = optional sub members;
      iss = optional iss members;
      jti = optional jti members;
      exp = optional exp members;
      nbf = optional nbf members;
      iat = optional iat members;
      aud = optional aud members;
      extra_fields = extra;
    })

-- ---- how the logic stores it

abbrev text_code : Coded (Option (List ℕ))
text_code = coded_option (coded_list coded_ℕ)

abbrev texts_code : Coded (Option (List (List ℕ)))
texts_code = coded_option (coded_list (coded_list coded_ℕ))

abbrev moment_code : Coded (Option ℤ)
moment_code = coded_option coded_ℤ

abbrev Text : Type 0
Text = Option (List ℕ)

abbrev Texts : Type 0
Texts = Option (List (List ℕ))

abbrev Moment : Type 0
Moment = Option ℤ

abbrev pub seen_introspection_code : {T E : Type 0} → Coded T → Coded E → Coded (SeenIntrospection T E)
seen_introspection_code {T} {E} kind extra =
    code_by (Bool × (Texts × (Text × (Text × (Option T × (Text × (Text × (Text × (Moment × (Moment × (Moment × (Texts × E))))))))))))
    (coded× coded_bool (coded× texts_code (coded× text_code (coded× text_code (coded× (coded_option kind) (coded× text_code (coded× text_code (coded× text_code (coded× moment_code (coded× moment_code (coded× moment_code (coded× texts_code extra))))))))))))
    (λ i. (i.active, (i.scopes, (i.client_id, (i.username, (i.token_type, (i.sub, (i.iss, (i.jti, (i.exp, (i.nbf, (i.iat, (i.aud, i.extra_fields)))))))))))))
    (λ p. record { active = p.0; scopes = p.1.0; client_id = p.1.1.0; username = p.1.1.1.0; token_type = p.1.1.1.1.0; sub = p.1.1.1.1.1.0; iss = p.1.1.1.1.1.1.0; jti = p.1.1.1.1.1.1.1.0; exp = p.1.1.1.1.1.1.1.1.0; nbf = p.1.1.1.1.1.1.1.1.1.0; iat = p.1.1.1.1.1.1.1.1.1.1.0; aud = p.1.1.1.1.1.1.1.1.1.1.1.0; extra_fields = p.1.1.1.1.1.1.1.1.1.1.1.1 })
    (λ _. refl)
