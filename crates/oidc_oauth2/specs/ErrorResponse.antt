-- Error responses (RFC 6749 section 5.2).
use Rattle.std.specs.Prelude.{ℕ, List, [], ◌∷◌, Option, Result, Ok, codes, refl}
use Rattle.std.specs.Coded.{Coded, code_by, coded×, coded_option, coded_list, coded_ℕ}
use Rattle.oidc_members.specs.Seen.{SeenMember}
use Rattle.oidc_members.specs.declared.refusal.Refusal.{Refusal}
use Rattle.oidc_readers.specs.Kinds.{text_kind, or_null}
use Rattle.oidc_readers.specs.Fields.{Field, field, judged}
use Rattle.oidc_readers.specs.Records.{◌>>=◌, Rule, by_table, faultless, required, optional}

abbrev pub error : Field (List ℕ)
error = field (codes "error") text_kind

abbrev pub error_description : Field (Option (List ℕ))
error_description = field (codes "error_description") (or_null text_kind)

abbrev pub error_uri : Field (Option (List ℕ))
error_uri = field (codes "error_uri") (or_null text_kind)

abbrev pub error_rule : Rule
error_rule = by_table (judged error ∷ judged error_description ∷ judged error_uri ∷ [])

pub record SeenError (Error : Type 0) : Type 0 where
  pub error : Error
  pub error_description : Option (List ℕ)
  pub error_uri : Option (List ℕ)

module _ {T : Type 0} (error_of : List ℕ → T) where
  unfoldable pub error_response_of : List SeenMember → Result (SeenError T) Refusal
  error_response_of members = do
    u ← faultless error_rule members
    text ← required error members
    Ok (record {
      error = error_of text;
      error_description = optional error_description members;
      error_uri = optional error_uri members;
    })

-- ---- how the logic stores it

abbrev pub seen_error_code : {T : Type 0} → Coded T → Coded (SeenError T)
seen_error_code {T} error =
    code_by (T × (Option (List ℕ) × Option (List ℕ)))
    (coded× error (coded× (coded_option (coded_list coded_ℕ)) (coded_option (coded_list coded_ℕ))))
    (λ e. (e.error, (e.error_description, e.error_uri)))
    (λ p. record { error = p.0; error_description = p.1.0; error_uri = p.1.1 }) (λ _. refl)
