-- Claims of an ID token that were written are read back.
use Rattle.std.proofs.Common.{◌≡◌, ℕ, ◌≤◌, List, [], ◌∷◌, ◌++◌, map, Bool, true, false, ◌&&◌, not, cond, Option, None, Some, option_map, Result, Ok, refl, sym, ap, subst, append_assoc, ◌∙◌, filter, All, is_some, arith, append-nil, suc, ℤ}
use Rattle.std.specs.Prelude.{IsFalse}
use Rattle.std.specs.List.{list_any, list_all}
use Rattle.std.specs.Str.{bytes_eq}
use Rattle.std.proofs.lemmas.Bool.{and_parts, and_from, false≢true, true≢false}
use Rattle.std.proofs.lemmas.List.{map-append}
use Rattle.std.proofs.lemmas.List.Elements.{All-nil, All-cons, All-append, All-weaker, filter-append}
use Rattle.std.proofs.lemmas.List.Folds.{list_all-append}
use Rattle.std.proofs.lemmas.List.Sums.{list_all-from_AllPass}
use Rattle.serde_json.specs.Data.{Data, string, items_depth}
use Rattle.serde_json.specs.View.{items_of}
use Rattle.oidc_members.specs.Seen.{SeenMember, OutSeen}
use Rattle.oidc_members.specs.Objects.{members_of}
use Rattle.oidc_members.specs.Write.{object_text}
use Rattle.oidc_members.specs.declared.reading.Reading.{Reading}
use Rattle.oidc_members.specs.declared.refusal.Refusal.{Refusal}
use Rattle.oidc_readers.specs.Moments.{seconds_data}
use Rattle.oidc_readers.specs.Passes.{first_by}
use Rattle.oidc_readers.specs.WrittenBack.{ItemsAreWhole, MayStand, IsUtf8Member, as_read}
use Rattle.oidc_readers.proofs.Theorems.{written_split_back}
use Rattle.oidc_claims.specs.Table.{base_of, claim_of}
use Rattle.oidc_claims.specs.Additional.{ReadsBack, StaysAdditional, are_written_additional, out_of}
use Rattle.oidc_claims.specs.Claims.{fault_at, first_fault}
use Rattle.oidc_claims.specs.Gender.{GenderReadsBack, GenderIsValue}
use Rattle.oidc_claims.specs.Home.{home_by, is_additional_home, id_token_fields, user_info_fields}
use Rattle.oidc_claims.specs.Standard.{claims_of, faultless_claims}
use Rattle.oidc_claims.specs.Write.{written, IsWholeSecond}
use Rattle.oidc_claims.proofs.Theorems.{EachStands, written_stands, split_reads_back, moment_stands, standard_name, is_claim, standard_same, fault_outside, fault_narrowed, claims_by, standard_named}
use Rattle.oidc_readers.specs.Writing.{texts_data}
use Rattle.oidc_id_token_claims.specs.TokenFields.{SeenOwnClaims, own_rule, own_of, own_members}
use Rattle.oidc_id_token_claims.specs.IdTokenClaims.{SeenIdTokenClaims, is_own_field, is_additional_claim, additional_members, id_token_rule, parts_in, id_token_claims_of, id_token_members}
use Rattle.oidc_id_token_claims.specs.Homes.{is_field, is_standard}
use Rattle.oidc_jwt.specs.Issuing.{ComesBack}
use Rattle.oidc_id_token_claims.specs.RoundTrip.{IsTokenInRange, GivesTokenClaims}
use Rattle.oidc_id_token_claims.proofs.Entries.{Entry, out_at, outs, Holds, EachHolds}
use Rattle.oidc_id_token_claims.proofs.OneHome.{own_same}
use Rattle.oidc_id_token_claims.proofs.PartsKept.{additional_by, fields_kept, standard_kept, additional_kept, standard_clean, standard_there, behind, before, each_stands, outs_back}
use Rattle.oidc_id_token_claims.proofs.FieldsBack.{entries, written_as, own_back, own_clean}
use Rattle.oidc_id_token_claims.proofs.FieldsRule.{rule_outside, rule_narrowed}
use Rattle.oidc_jwt.proofs.Theorems.{may_be_written}
use Rattle.oidc_id_token_claims.proofs.Passing.{passes_apart, passes_both, no_fault}

not_true : (b : Bool) → not b ≡ true → b ≡ false
not_true true h = absurd (false≢true h)
not_true false h = refl

true_not : (b : Bool) → b ≡ false → not b ≡ true
true_not b h = ap not h

-- ---- members of one home

abbrev are_fields : List OutSeen → Bool
are_fields ms = list_all (λ m. is_own_field m.name) ms

-- ---- the names of what is written

entry_named : (name : List ℕ) (o : Option Data) → is_own_field name ≡ true → are_fields (out_at name o) ≡ true
entry_named name None h = refl
entry_named name (Some value) h = and_from (is_own_field name) true h refl

entries_named : (es : List Entry) → list_all (λ e. is_own_field e.0) es ≡ true → are_fields (outs es) ≡ true
entries_named [] h = refl
entries_named (e ∷ es) h =
    let parts = and_parts (is_own_field e.0) (list_all (λ e. is_own_field e.0) es) h in
    list_all-append (λ m. is_own_field m.name) (out_at e.0 e.1) (outs es) ∙ (λ i. entry_named e.0 e.1 parts.0 i && entries_named es parts.1 i)

fields_named : (c : SeenOwnClaims) → are_fields (own_members c) ≡ true
fields_named c = ap are_fields (written_as c) ∙ entries_named (entries c) refl

-- what additional claims are written as is additional
neither_by : (field standard of_user : Bool) → field ≡ false → is_additional_home (home_by of_user standard) ≡ true → (not field && not standard) ≡ true
neither_by false false of_user is h = refl
neither_by false true true is h = absurd (false≢true h)
neither_by false true false is h = absurd (false≢true h)
neither_by true standard of_user is h = absurd (true≢false is)

additional_named : (ms : List OutSeen) → list_all (λ m. not (is_own_field m.name)) ms ≡ true → are_written_additional ms ≡ true → list_all (λ m. is_additional_claim m.name) ms ≡ true
additional_named [] h k = refl
additional_named (m ∷ ms) h k =
    let a = and_parts (not (is_own_field m.name)) (list_all (λ m. not (is_own_field m.name)) ms) h in
    let b = and_parts (is_additional_home (home_by (list_any (λ field. bytes_eq field m.name) user_info_fields) (is_some (claim_of (base_of m.name))))) (are_written_additional ms) k in
    and_from (is_additional_claim m.name) (list_all (λ m. is_additional_claim m.name) ms)
    (additional_by id_token_fields refl m.name
    ∙ neither_by (is_own_field m.name) (standard_name m.name) (list_any (λ field. bytes_eq field m.name) user_info_fields) (not_true (is_own_field m.name) a.0)
    (ap (λ standard. is_additional_home (home_by (list_any (λ field. bytes_eq field m.name) user_info_fields) standard)) (sym (is_claim (as_read m))) ∙ b.0))
    (additional_named ms a.1 b.1)

-- ---- values of the own fields

texts_whole : (texts : List (List ℕ)) → ItemsAreWhole (items_of (map string texts))
texts_whole [] = tt
texts_whole (text ∷ texts) = (tt, texts_whole texts)

texts_shallow : (texts : List (List ℕ)) → items_depth (items_of (map string texts)) ≤ 0
texts_shallow [] = omega arith
texts_shallow (text ∷ texts) = let rest = texts_shallow texts in omega arith

pub texts_stand : (texts : List (List ℕ)) → MayStand (texts_data texts)
texts_stand texts = (texts_whole texts, let shallow = texts_shallow texts in omega arith)

pub text_stands : (text : List ℕ) → MayStand (string text)
text_stands text = (tt, omega arith)

stand_out : (name : List ℕ) (o : Option Data) → Holds MayStand o → All (λ (m : OutSeen). MayStand m.value) (out_at name o)
stand_out name None h = All-nil (λ (m : OutSeen). MayStand m.value)
stand_out name (Some value) h = All-cons (λ (m : OutSeen). MayStand m.value) (record { name = name; value = value }) [] h (All-nil (λ (m : OutSeen). MayStand m.value))

stand_outs : (es : List Entry) → EachHolds MayStand es → All (λ (m : OutSeen). MayStand m.value) (outs es)
stand_outs [] h = All-nil (λ (m : OutSeen). MayStand m.value)
stand_outs (e ∷ es) h = All-append (λ (m : OutSeen). MayStand m.value) (out_at e.0 e.1) (outs es) (stand_out e.0 e.1 h.0) (stand_outs es h.1)

stand_text : (o : Option (List ℕ)) → Holds MayStand (option_map string o)
stand_text None = tt
stand_text (Some text) = text_stands text

stand_texts : (o : Option (List (List ℕ))) → Holds MayStand (option_map texts_data o)
stand_texts None = tt
stand_texts (Some texts) = texts_stand texts

stand_moment : (o : Option ℤ) → IsWholeSecond o → Holds MayStand (option_map seconds_data o)
stand_moment None h = tt
stand_moment (Some moment) h = moment_stands moment h

module _ (c : SeenOwnClaims) (expiration : IsWholeSecond (Some c.expiration)) (issue_time : IsWholeSecond (Some c.issue_time)) (authenticated : IsWholeSecond c.auth_time) where
  each_own_stands : EachHolds MayStand (entries c)
  each_own_stands = (
    text_stands c.issuer.text,
    (
      texts_stand c.audiences,
      (
        moment_stands c.expiration expiration,
        (
          moment_stands c.issue_time issue_time,
          (
            stand_moment c.auth_time authenticated,
            (stand_text c.nonce, (stand_text c.auth_context_ref, (stand_texts c.auth_method_refs, (stand_text c.authorized_party, (stand_text c.access_token_hash, (stand_text c.code_hash, tt)))))),
          ),
        ),
      ),
    ),
  )

  own_stand : All (λ (m : OutSeen). MayStand m.value) (own_members c)
  own_stand = subst (All (λ (m : OutSeen). MayStand m.value)) (sym (written_as c)) (stand_outs (entries c) each_own_stands)

-- ---- all claims

module _
    {AC GC : Type 0}
    (additional_read : List SeenMember → Result AC Refusal)
    (additional_out : AC → List OutSeen)
    (gender_read : SeenMember → Result GC Refusal)
    (gender_data : GC → Data)
    (additional_back : ReadsBack additional_read additional_out)
    (additional_stay : StaysAdditional additional_out)
    (gender_back : GenderReadsBack gender_read gender_data)
    (gender_there : GenderIsValue gender_data)
    (c : SeenIdTokenClaims AC GC)
    (range : IsTokenInRange additional_out c) where
  abbrev first_part : List OutSeen
  first_part = own_members c.own

  abbrev second_part : List OutSeen
  second_part = written gender_data c.standard_claims

  abbrev third_part : List OutSeen
  third_part = additional_out c.additional_claims

  abbrev all : List SeenMember
  all = map as_read (id_token_members additional_out gender_data c)

  seconds : list_all (λ m. standard_name m.name) second_part ≡ true
  seconds = standard_named gender_data c.standard_claims

  thirds : list_all (λ m. is_additional_claim m.name) third_part ≡ true
  thirds =
      additional_named third_part
      (list_all-from_AllPass (λ m. not (is_own_field m.name)) third_part
      (All-weaker (λ m. IsFalse (is_own_field m.name)) (λ m. not (is_own_field m.name) ≡ true) (λ m h. true_not (is_own_field m.name) h) third_part range.names))
      (additional_stay c.additional_claims)

  own_kept : filter (is_field id_token_fields) all ≡ map as_read first_part
  own_kept = fields_kept id_token_fields refl first_part second_part third_part (fields_named c.own) seconds thirds

  pub values_stand : All (λ (m : OutSeen). MayStand m.value) (id_token_members additional_out gender_data c)
  values_stand =
      All-append (λ (m : OutSeen). MayStand m.value) (first_part ++ second_part) third_part
      (All-append (λ (m : OutSeen). MayStand m.value) first_part second_part (own_stand c.own range.expiration range.issue_time range.auth_time)
      (each_stands second_part (written_stands gender_data gender_there c.standard_claims range.standard_claims))) range.values

  own_there : (reading : Reading) → own_of reading all ≡ Ok c.own
  own_there reading =
      sym (own_same reading all) ∙ ap (own_of reading) (own_kept ∙ ap (map as_read) (written_as c.own))
      ∙ own_back reading c.own range.issuer range.expiration range.issue_time range.auth_time

  clean_own : (reading : Reading) → first_by (own_rule reading) [] all ≡ None
  clean_own reading =
      passes_apart (own_rule reading) (is_field id_token_fields) (rule_outside reading) (rule_narrowed reading) all []
      (ap (first_by (own_rule reading) []) (own_kept ∙ ap (map as_read) (written_as c.own)) ∙ own_clean reading c.own range.issuer range.expiration range.issue_time range.auth_time)

  additional_there : additional_read (additional_members all) ≡ Ok c.additional_claims
  additional_there = ap additional_read (additional_kept id_token_fields refl first_part second_part third_part (fields_named c.own) seconds thirds) ∙ additional_back c.additional_claims (map as_read third_part) (outs_back third_part)

  module _ (texts : All IsUtf8Member (id_token_members additional_out gender_data c)) where
    standard_texts : All IsUtf8Member second_part
    standard_texts = behind IsUtf8Member first_part second_part (before IsUtf8Member (first_part ++ second_part) third_part texts)

    read_standard : (reading : Reading) → (first_by (fault_at gender_read reading) [] all ≡ None) × (faultless_claims gender_read reading all ≡ Ok c.standard_claims)
    read_standard reading =
        let kept = standard_kept id_token_fields refl first_part second_part third_part (fields_named c.own) seconds thirds in (
          standard_clean gender_read reading gender_data gender_back gender_there c.standard_claims range.standard_claims standard_texts all kept,
          standard_there gender_read reading gender_data gender_back gender_there c.standard_claims range.standard_claims standard_texts all kept,
        )

    pub read_again : (reading : Reading) → id_token_claims_of additional_read gender_read reading all ≡ Ok c
    unfolding id_token_claims_of parts_in
    read_again reading = rw (no_fault (id_token_rule gender_read reading) all (passes_both (own_rule reading) (fault_at gender_read reading) all [] (clean_own reading) (read_standard reading).0), own_there reading, (read_standard reading).1, additional_there) refl

    pub gives_claims : GivesTokenClaims additional_read gender_read (id_token_members additional_out gender_data c) c
    gives_claims reading =
        ap (option_map (id_token_claims_of additional_read gender_read reading)) (written_split_back (id_token_members additional_out gender_data c) (may_be_written (id_token_members additional_out gender_data c) values_stand texts))
        ∙ ap Some (read_again reading)

  pub comes_back : (reading : Reading) → ComesBack (id_token_claims_of additional_read gender_read reading) (id_token_members additional_out gender_data) c
  comes_back reading = record { values = values_stand; same = λ texts. read_again texts reading }
