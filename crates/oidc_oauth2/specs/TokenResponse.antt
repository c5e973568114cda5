-- Token responses, read and written (RFC 6749 sections 3.3 and 5.1).
use Rattle.std.specs.Prelude.{ℕ, ◌*◌, ◌/◌, ◌==◌, List, [], ◌∷◌, ◌++◌, Option, option_map, Result, Ok, codes, refl}
use Rattle.std.specs.List.{slice_split, flat_map}
use Rattle.std.specs.Coded.{Coded, code_by, coded×, coded_option, coded_list, coded_ℕ}
use Rattle.serde_json.specs.Data.{string}
use Rattle.oidc_members.specs.Seen.{SeenMember, OutSeen}
use Rattle.oidc_members.specs.declared.refusal.Refusal.{Refusal}
use Rattle.oidc_readers.specs.Kinds.{text_kind, whole_kind, or_null}
use Rattle.oidc_readers.specs.Fields.{Field, field, judged}
use Rattle.oidc_readers.specs.Records.{◌>>=◌, Rule, by_table, faultless, required, optional}
use Rattle.oidc_readers.specs.Writing.{one_member, text_member, whole_member}

-- ---- the table of the fields

abbrev pub access_token : Field (List ℕ)
access_token = field (codes "access_token") text_kind

abbrev pub token_type : Field (List ℕ)
token_type = field (codes "token_type") text_kind

abbrev pub expires_in : Field (Option ℕ)
expires_in = field (codes "expires_in") (or_null whole_kind)

abbrev pub refresh_token : Field (Option (List ℕ))
refresh_token = field (codes "refresh_token") (or_null text_kind)

abbrev pub scope : Field (Option (List ℕ))
scope = field (codes "scope") (or_null text_kind)

abbrev pub token_rule : Rule
token_rule =
    by_table (judged access_token ∷ judged token_type ∷ judged expires_in ∷ judged refresh_token ∷ judged scope ∷ [])

-- ---- the response

-- spans of time are in nanoseconds
pub record SeenTokens (Type' Extra : Type 0) : Type 0 where
  pub access_token : List ℕ
  pub token_type : Type'
  pub expires_in : Option ℕ
  pub refresh_token : Option (List ℕ)
  pub scopes : Option (List (List ℕ))
  pub extra_fields : Extra

-- whole seconds, and the whole seconds in a span
abbrev pub seconds : ℕ → ℕ
seconds n = n * 1_000_000_000

abbrev pub whole_seconds : ℕ → ℕ
whole_seconds nanoseconds = nanoseconds / 1_000_000_000

-- a text that is cut at each of its spaces
abbrev pub scopes_in : List ℕ → List (List ℕ)
scopes_in text = slice_split (λ b. b == 32) text

-- texts, joined by single spaces
abbrev pub joined : List (List ℕ) → List ℕ
joined [] = []
joined (text ∷ later) = text ++ flat_map (λ next. 32 ∷ next) later

module _ {T E : Type 0} (type_of : List ℕ → T) (extra_of : List SeenMember → Result E Refusal) where
  unfoldable pub tokens_among : List SeenMember → Result (SeenTokens T E) Refusal
  tokens_among members = do
    u ← faultless token_rule members
    access ← required access_token members
    kind ← required token_type members
    extra ← extra_of members
    Ok (record {
      access_token = access;
      token_type = type_of kind;
      expires_in = option_map seconds (optional expires_in members);
      refresh_token = optional refresh_token members;
      scopes = option_map scopes_in (optional scope members);
      extra_fields = extra;
    })

module _ {T E : Type 0} (text_of : T → List ℕ) (extra_out : E → List OutSeen) where
  -- in the order of the table, absent fields left out
  abbrev pub written_tokens : SeenTokens T E → List OutSeen
  written_tokens t =
      one_member access_token.name (string t.access_token)
      ++ one_member token_type.name (string (text_of t.token_type))
      ++ whole_member expires_in.name (option_map whole_seconds t.expires_in)
      ++ text_member refresh_token.name t.refresh_token
      ++ text_member scope.name (option_map joined t.scopes)
      ++ extra_out t.extra_fields

-- ---- how the logic stores it

abbrev text_code : Coded (List ℕ)
text_code = coded_list coded_ℕ

abbrev pub seen_tokens_code : {T E : Type 0} → Coded T → Coded E → Coded (SeenTokens T E)
seen_tokens_code {T} {E} kind extra =
    code_by (List ℕ × (T × (Option ℕ × (Option (List ℕ) × (Option (List (List ℕ)) × E)))))
    (coded× text_code (coded× kind (coded× (coded_option coded_ℕ) (coded× (coded_option text_code) (coded× (coded_option (coded_list text_code)) extra)))))
    (λ t. (t.access_token, (t.token_type, (t.expires_in, (t.refresh_token, (t.scopes, t.extra_fields))))))
    (λ p. record { access_token = p.0; token_type = p.1.0; expires_in = p.1.1.0; refresh_token = p.1.1.1.0; scopes = p.1.1.1.1.0; extra_fields = p.1.1.1.1.1 })
    (λ _. refl)
