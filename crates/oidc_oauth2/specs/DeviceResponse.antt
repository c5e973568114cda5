-- Device authorization responses (RFC 8628 section 3.2).
use Rattle.std.specs.Prelude.{ℕ, List, [], ◌∷◌, Option, unwrap_or, Result, Ok, codes, refl}
use Rattle.std.specs.Coded.{Coded, code_by, coded×, coded_option, coded_list, coded_ℕ}
use Rattle.oidc_types.specs.UrlText.{TextAndUrl, text_and_url_code}
use Rattle.oidc_members.specs.Seen.{SeenMember}
use Rattle.oidc_members.specs.declared.refusal.Refusal.{Refusal}
use Rattle.oidc_readers.specs.Kinds.{text_kind, whole_kind, url_kind, or_null}
use Rattle.oidc_readers.specs.Fields.{Field, field, field_or, judged}
use Rattle.oidc_readers.specs.Records.{◌>>=◌, Rule, by_table, faultless, required, optional}
use Rattle.oidc_oauth2.specs.TokenResponse.{seconds}

-- ---- the table of the fields

abbrev pub device_code : Field (List ℕ)
device_code = field (codes "device_code") text_kind

abbrev pub user_code : Field (List ℕ)
user_code = field (codes "user_code") text_kind

-- Servers of early drafts of the standard name it `verification_url`.
abbrev pub verification_uri : Field TextAndUrl
verification_uri = field_or (codes "verification_uri") (codes "verification_url") url_kind

abbrev pub expires_in : Field ℕ
expires_in = field (codes "expires_in") whole_kind

abbrev pub verification_uri_complete : Field (Option (List ℕ))
verification_uri_complete = field (codes "verification_uri_complete") (or_null text_kind)

abbrev pub interval : Field (Option ℕ)
interval = field (codes "interval") (or_null whole_kind)

abbrev pub device_rule : Rule
device_rule =
    by_table (judged device_code ∷ judged user_code ∷ judged verification_uri ∷ judged expires_in ∷ judged verification_uri_complete ∷ judged interval ∷ [])

-- ---- the response

-- spans of time are in nanoseconds
pub record SeenDevice (Extra : Type 0) : Type 0 where
  pub device_code : List ℕ
  pub user_code : List ℕ
  pub verification_uri : TextAndUrl
  pub expires_in : ℕ
  pub verification_uri_complete : Option (List ℕ)
  pub interval : ℕ
  pub extra_fields : Extra

-- the fields that have to be there
pub record DeviceCodes : Type 0 where
  pub device_code : List ℕ
  pub user_code : List ℕ
  pub verification_uri : TextAndUrl
  pub expires_in : ℕ

unfoldable pub codes_of : List SeenMember → Result DeviceCodes Refusal
codes_of members = do
  device ← required device_code members
  user ← required user_code members
  uri ← required verification_uri members
  lifetime ← required expires_in members
  Ok (record { device_code = device; user_code = user; verification_uri = uri; expires_in = seconds lifetime })

module _ {E : Type 0} (extra_of : List SeenMember → Result E Refusal) where
  -- Without an interval it is five seconds.
  unfoldable pub device_of : List SeenMember → Result (SeenDevice E) Refusal
  device_of members = do
    u ← faultless device_rule members
    there ← codes_of members
    extra ← extra_of members
    Ok (record {
      device_code = there.device_code;
      user_code = there.user_code;
      verification_uri = there.verification_uri;
      expires_in = there.expires_in;
      verification_uri_complete = optional verification_uri_complete members;
      interval = seconds (unwrap_or (optional interval members) 5);
      extra_fields = extra;
    })

-- ---- how the logic stores it

abbrev text_code : Coded (List ℕ)
text_code = coded_list coded_ℕ

abbrev pub seen_device_code : {E : Type 0} → Coded E → Coded (SeenDevice E)
seen_device_code {E} extra =
    code_by (List ℕ × (List ℕ × (TextAndUrl × (ℕ × (Option (List ℕ) × (ℕ × E))))))
    (coded× text_code (coded× text_code (coded× text_and_url_code (coded× coded_ℕ (coded× (coded_option text_code) (coded× coded_ℕ extra))))))
    (λ d. (d.device_code, (d.user_code, (d.verification_uri, (d.expires_in, (d.verification_uri_complete, (d.interval, d.extra_fields)))))))
    (λ p. record { device_code = p.0; user_code = p.1.0; verification_uri = p.1.1.0; expires_in = p.1.1.1.0; verification_uri_complete = p.1.1.1.1.0; interval = p.1.1.1.1.1.0; extra_fields = p.1.1.1.1.1.1 })
    (λ _. refl)

abbrev pub device_codes_code : Coded DeviceCodes
device_codes_code =
    code_by (List ℕ × (List ℕ × (TextAndUrl × ℕ))) (coded× text_code (coded× text_code (coded× text_and_url_code coded_ℕ)))
    (λ d. (d.device_code, (d.user_code, (d.verification_uri, d.expires_in))))
    (λ p. record { device_code = p.0; user_code = p.1.0; verification_uri = p.1.1.0; expires_in = p.1.1.1 })
    (λ _. refl)
