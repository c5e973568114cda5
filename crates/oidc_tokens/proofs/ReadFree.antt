-- A token that was read holds no float, where all additional claims are kept.
use Rattle.std.proofs.Common.{◌≡◌, ℕ, List, [], ◌∷◌, map, Bool, true, false, cond, ◌||◌, Option, None, Some, Result, Ok, Err, refl, sym, ap, ◌∙◌, filter, is_some}
use Rattle.std.specs.List.{list_any}
use Rattle.std.specs.Prelude.{option_and_then}
use Rattle.std.specs.Option.{option_flatten}
use Rattle.std.specs.Result.{result_ok}
use Rattle.std.proofs.lemmas.Bool.{true≢false}
use Rattle.serde_json.specs.Find.{as_null}
use Rattle.serde_json.specs.Written.{has_float}
use Rattle.oidc_members.specs.Seen.{SeenMember}
use Rattle.oidc_members.specs.Objects.{without_floats, loose_members_of, members_of, members_or_refusal, split_of}
use Rattle.oidc_members.specs.Write.{any_float}
use Rattle.oidc_members.specs.declared.reading.Reading.{Reading}
use Rattle.oidc_members.specs.declared.refusal.Refusal.{Refusal}
use Rattle.oidc_readers.specs.Kinds.{text_kind, there, or_null}
use Rattle.oidc_readers.specs.Fields.{judged, own, first_value}
use Rattle.oidc_readers.specs.Records.{◌>>=◌, faultless, optional}
use Rattle.oidc_claims.specs.Additional.{out_of}
use Rattle.oidc_claims.specs.Others.{Others, list_of, read_others}
use Rattle.oidc_claims.proofs.Theorems.{all_kept}
use Rattle.oidc_jwt.specs.Tokens.{SeenToken, token_of}
use Rattle.oidc_jwt.proofs.Theorems.{after, same_ok, payload_said}
use Rattle.oidc_id_token_claims.specs.IdTokenClaims.{SeenIdTokenClaims, additional_members, id_token_claims_of}
use Rattle.oidc_tokens.specs.IdTokenFields.{SeenIdTokenFields, token_kind, id_token, response_fields_of}
use Rattle.oidc_id_token_claims.proofs.Theorems.{accepted_parts, additional_stay}

-- ---- some of its members

nor_parts : (a b : Bool) → (a || b) ≡ false → (a ≡ false) × (b ≡ false)
nor_parts false b h = (refl, h)
nor_parts true b h = absurd (true≢false h)

by_kept : (m : SeenMember) (ms : List SeenMember) (b : Bool) → has_float m.value ≡ false → any_float (map out_of ms) ≡ false → any_float (map out_of (cond b (m ∷ ms) ms)) ≡ false
by_kept m ms true h k = rw (h, k) refl
by_kept m ms false h k = k

kept_free : (test : SeenMember → Bool) (ms : List SeenMember) → list_any (λ m. has_float m.value) ms ≡ false → any_float (map out_of (filter test ms)) ≡ false
kept_free test [] h = refl
kept_free test (m ∷ ms) h =
    let parts = nor_parts (has_float m.value) (list_any (λ m. has_float m.value) ms) h in by_kept m (filter test ms) (test m) parts.0 (kept_free test ms parts.1)

-- ---- a token

module _ {JE JS GC : Type 0} (encryption_named : List ℕ → Option JE) (signing_named : List ℕ → Option JS) (gender_read : SeenMember → Result GC Refusal) (reading : Reading) where
  abbrev pub reads : List ℕ → Result (SeenToken JE JS (SeenIdTokenClaims Others GC)) Refusal
  reads = token_of encryption_named signing_named (id_token_claims_of read_others gender_read reading)

  pub token_free : (text : List ℕ) (token : SeenToken JE JS (SeenIdTokenClaims Others GC)) → reads text ≡ Ok token → any_float (list_of token.payload.additional_claims) ≡ false
  token_free text token h =
      let read = payload_said encryption_named signing_named (id_token_claims_of read_others gender_read reading) text token h in
      let parts = accepted_parts read_others gender_read reading read.0 token.payload read.2 in
      let kept = all_kept (additional_members read.0) (additional_stay read.0) in
      let same : kept.0 ≡ token.payload.additional_claims = same_ok kept.0 token.payload.additional_claims (sym kept.1 ∙ parts.2) in
      ap any_float (ap list_of (sym same) ∙ kept.2) ∙ kept_free _ read.0 read.1

  -- ---- a token response

  null_by : (answer : Result (SeenToken JE JS (SeenIdTokenClaims Others GC)) Refusal) (null : Bool) (token : SeenToken JE JS (SeenIdTokenClaims Others GC))
      → option_flatten (result_ok (cond null (Ok None) (there answer))) ≡ Some token → answer ≡ Ok token
  null_by answer true token h = absurd cc
  null_by (Ok given) false token h = cc
  null_by (Err refusal) false token h = absurd cc

  value_read : (ms : List SeenMember) (token : SeenToken JE JS (SeenIdTokenClaims Others GC)) → option_flatten (first_value (or_null (token_kind reads)) ms) ≡ Some token
      → (text : List ℕ) × (reads text ≡ Ok token)
  value_read [] token h = absurd cc
  value_read (m ∷ ms) token h =
      after (text_kind m) reads token (null_by (token_kind reads m) (is_some (as_null m.value)) token h) λ text _ read. (text, read)

  pub response_free : {Extra : Type 0} (extra_read : List SeenMember → Result Extra Refusal) (members : List SeenMember) (fields : SeenIdTokenFields (SeenToken JE JS (SeenIdTokenClaims Others GC)) Extra)
      (token : SeenToken JE JS (SeenIdTokenClaims Others GC)) → response_fields_of reads extra_read members ≡ Ok fields → fields.id_token ≡ Some token → any_float (list_of token.payload.additional_claims) ≡ false
  unfolding response_fields_of
  response_free extra_read members fields token h has =
      after (faultless (judged (id_token reads)) members) _ fields h λ _ _ faultless.
      after (extra_read members) _ fields faultless λ extra _ made.
      let given : optional (id_token reads) members ≡ fields.id_token = ap (λ f. f.id_token) (same_ok _ fields made) in
      let text = value_read (own (id_token reads) members) token (given ∙ has) in
      token_free text.0 token text.1
