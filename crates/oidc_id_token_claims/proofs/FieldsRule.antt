-- The rule of an ID token's own fields, over members of distinct names.
use Rattle.std.proofs.Common.{◌≡◌, ℕ, List, [], ◌∷◌, ◌++◌, map, Bool, true, false, not, cond, Option, None, Some, codes, refl, sym, ap, ◌∙◌, filter, length, append-nil}
use Rattle.std.specs.List.{list_any, list_all}
use Rattle.std.specs.Str.{bytes_eq}
use Rattle.std.proofs.lemmas.Bool.{and_parts, false≢true, true≢false}
use Rattle.std.proofs.lemmas.Slice.Eq.{bytes_eq-Decides}
use Rattle.serde_json.specs.Data.{Data}
use Rattle.oidc_members.specs.Seen.{SeenMember}
use Rattle.oidc_members.specs.declared.reading.Reading.{Reading}
use Rattle.oidc_readers.specs.Kinds.{Kind, url_kind, text_or_texts_kind, moment_kind, text_kind, texts_kind, or_null}
use Rattle.oidc_readers.specs.Fields.{field, judged, judged_among}
use Rattle.oidc_readers.specs.Passes.{placed, first_by}
use Rattle.oidc_readers.specs.WrittenBack.{as_read}
use Rattle.oidc_id_token_claims.specs.TokenFields.{own_rule}
use Rattle.oidc_claims.specs.Home.{id_token_fields}
use Rattle.oidc_id_token_claims.specs.Homes.{is_field}
use Rattle.oidc_id_token_claims.proofs.OneHome.{is_field_name, field_same}
use Rattle.oidc_id_token_claims.proofs.Entries.{Entry, out_at, seen, seen_cons, with_name, distinct, is_fresh, fresh_tail, next_fresh}

not_true : (b : Bool) → not b ≡ true → b ≡ false
not_true true h = absurd (false≢true h)
not_true false h = refl

-- ---- a member whose name didn't come before

none_before : (name : List ℕ) (before : List SeenMember) → list_all (λ m. not (bytes_eq m.name name)) before ≡ true → with_name name before ≡ []
none_before name [] h = refl
none_before name (m ∷ before) h =
    let parts = and_parts (not (bytes_eq m.name name)) (list_all (λ m. not (bytes_eq m.name name)) before) h in
    (λ i. cond (not_true (bytes_eq m.name name) parts.0 i) (m ∷ with_name name before) (with_name name before)) ∙ none_before name before parts.1

judged_by : {V : Type 0} (name : List ℕ) (kind : Kind V) (before : List SeenMember) (m : SeenMember) (b : Bool) → bytes_eq m.name name ≡ b → list_all (λ other. not (bytes_eq other.name m.name)) before ≡ true
    → cond b (judged_among kind (with_name name before) m) None ≡ cond b (judged_among kind [] m) None
judged_by name kind before m true is h =
    let same : m.name ≡ name = (bytes_eq-Decides m.name name).0 is in
    ap (λ came. judged_among kind came m) (ap (λ n. with_name n before) (sym same) ∙ none_before m.name before h)
judged_by name kind before m false is h = refl

judged_fresh : {V : Type 0} (name : List ℕ) (kind : Kind V) (before : List SeenMember) (m : SeenMember) → list_all (λ other. not (bytes_eq other.name m.name)) before ≡ true
    → judged (field name kind) before m ≡ judged (field name kind) [] m
unfolding judged
judged_fresh name kind before m h = judged_by name kind before m (bytes_eq m.name name) refl h

module _ (reading : Reading) (before : List SeenMember) (m : SeenMember) (h : list_all (λ other. not (bytes_eq other.name m.name)) before ≡ true) where
  pub rule_fresh : own_rule reading before m ≡ own_rule reading [] m
  rule_fresh = rw (
    judged_fresh (codes "iss") url_kind before m h,
    judged_fresh (codes "aud") text_or_texts_kind before m h,
    judged_fresh (codes "exp") (moment_kind reading) before m h,
    judged_fresh (codes "iat") (moment_kind reading) before m h,
    judged_fresh (codes "auth_time") (or_null (moment_kind reading)) before m h,
    judged_fresh (codes "nonce") (or_null text_kind) before m h,
    judged_fresh (codes "acr") (or_null text_kind) before m h,
    judged_fresh (codes "amr") (or_null texts_kind) before m h,
    judged_fresh (codes "azp") (or_null text_kind) before m h,
    judged_fresh (codes "at_hash") (or_null text_kind) before m h,
    judged_fresh (codes "c_hash") (or_null text_kind) before m h,
  ) refl

-- ---- entries of distinct names, each of its kind

abbrev pub Good : Reading → List ℕ → Option Data → Type 0
Good reading name None = Unit {0}
Good reading name (Some value) = own_rule reading [] (as_read (record { name = name; value = value })) ≡ None

abbrev pub AllGood : Reading → List Entry → Type 0
AllGood reading [] = Unit {0}
AllGood reading (e ∷ es) = Good reading e.0 e.1 × AllGood reading es

clean_at : (reading : Reading) (before : List SeenMember) (name : List ℕ) (o : Option Data) (rest : List SeenMember) → Good reading name o → list_all (λ m. not (bytes_eq m.name name)) before ≡ true
    → ((grown : List SeenMember) → grown ≡ before ++ map as_read (out_at name o) → first_by (own_rule reading) grown rest ≡ None)
    → first_by (own_rule reading) before (map as_read (out_at name o) ++ rest) ≡ None
clean_at reading before name None rest good fresh later = later before (sym (append-nil before))
clean_at reading before name (Some value) rest good fresh later =
    let m : SeenMember = as_read (record { name = name; value = value }) in
    ap (λ o. placed o (length before) (first_by (own_rule reading) (before ++ m ∷ []) rest)) (rule_fresh reading before m fresh ∙ good) ∙ later (before ++ m ∷ []) refl

grown_fresh : (before : List SeenMember) (e : Entry) (es : List Entry) (o : Option Data) → not (list_any (λ other. bytes_eq e.0 other.0) es) ≡ true → is_fresh before es ≡ true
    → is_fresh (before ++ map as_read (out_at e.0 o)) es ≡ true
grown_fresh before e es None new h = ap (λ l. is_fresh l es) (append-nil before) ∙ h
grown_fresh before e es (Some value) new h = next_fresh before (as_read (record { name = e.0; value = value })) e es refl new h

pub clean : (reading : Reading) (es : List Entry) (before : List SeenMember) → is_fresh before es ≡ true → distinct es ≡ true → AllGood reading es → first_by (own_rule reading) before (seen es) ≡ None
clean reading [] before fresh apart good = refl
clean reading (e ∷ es) before fresh apart good =
    let parts = and_parts (not (list_any (λ other. bytes_eq e.0 other.0) es)) (distinct es) apart in
    let tail = fresh_tail before e es fresh in
    ap (first_by (own_rule reading) before) (seen_cons e es)
    ∙ clean_at reading before e.0 e.1 (seen es) good.0 tail.0
    (λ grown is. clean reading es grown (ap (λ l. is_fresh l es) is ∙ grown_fresh before e es e.1 parts.0 tail.1) parts.1 good.1)

-- ---- members that are no field

outside_by : {V : Type 0} (fields : List (List ℕ)) (name : List ℕ) (kind : Kind V) (before : List SeenMember) (m : SeenMember) (b : Bool) → bytes_eq m.name name ≡ b
    → is_field_name fields name ≡ true → is_field fields m ≡ false → cond b (judged_among kind (with_name name before) m) None ≡ None
outside_by fields name kind before m true is known outside =
    absurd (true≢false (sym (ap (is_field_name fields) ((bytes_eq-Decides m.name name).0 is) ∙ known) ∙ outside))
outside_by fields name kind before m false is known outside = refl

-- a field says nothing of a member that is none of the fields
pub judged_outside : {V : Type 0} (fields : List (List ℕ)) (name : List ℕ) (kind : Kind V) (before : List SeenMember) (m : SeenMember) → is_field_name fields name ≡ true → is_field fields m ≡ false
    → judged (field name kind) before m ≡ None
unfolding judged
judged_outside fields name kind before m known outside = outside_by fields name kind before m (bytes_eq m.name name) refl known outside

-- and looks back at fields alone
pub judged_narrowed : {V : Type 0} (fields : List (List ℕ)) (name : List ℕ) (kind : Kind V) (before : List SeenMember) (m : SeenMember) → is_field_name fields name ≡ true
    → judged (field name kind) before m ≡ judged (field name kind) (filter (is_field fields) before) m
unfolding judged
judged_narrowed fields name kind before m known = ap (λ came. cond (bytes_eq m.name name) (judged_among kind came m) None) (sym (field_same fields before name known))

-- ---- those of an ID token

pub rule_outside : (reading : Reading) (before : List SeenMember) (m : SeenMember) → is_field id_token_fields m ≡ false → own_rule reading before m ≡ None
rule_outside reading before m h = rw (
  judged_outside id_token_fields (codes "iss") url_kind before m refl h,
  judged_outside id_token_fields (codes "aud") text_or_texts_kind before m refl h,
  judged_outside id_token_fields (codes "exp") (moment_kind reading) before m refl h,
  judged_outside id_token_fields (codes "iat") (moment_kind reading) before m refl h,
  judged_outside id_token_fields (codes "auth_time") (or_null (moment_kind reading)) before m refl h,
  judged_outside id_token_fields (codes "nonce") (or_null text_kind) before m refl h,
  judged_outside id_token_fields (codes "acr") (or_null text_kind) before m refl h,
  judged_outside id_token_fields (codes "amr") (or_null texts_kind) before m refl h,
  judged_outside id_token_fields (codes "azp") (or_null text_kind) before m refl h,
  judged_outside id_token_fields (codes "at_hash") (or_null text_kind) before m refl h,
  judged_outside id_token_fields (codes "c_hash") (or_null text_kind) before m refl h,
) refl

pub rule_narrowed : (reading : Reading) (before : List SeenMember) (m : SeenMember) → own_rule reading before m ≡ own_rule reading (filter (is_field id_token_fields) before) m
rule_narrowed reading before m = rw (
  judged_narrowed id_token_fields (codes "iss") url_kind before m refl,
  judged_narrowed id_token_fields (codes "aud") text_or_texts_kind before m refl,
  judged_narrowed id_token_fields (codes "exp") (moment_kind reading) before m refl,
  judged_narrowed id_token_fields (codes "iat") (moment_kind reading) before m refl,
  judged_narrowed id_token_fields (codes "auth_time") (or_null (moment_kind reading)) before m refl,
  judged_narrowed id_token_fields (codes "nonce") (or_null text_kind) before m refl,
  judged_narrowed id_token_fields (codes "acr") (or_null text_kind) before m refl,
  judged_narrowed id_token_fields (codes "amr") (or_null texts_kind) before m refl,
  judged_narrowed id_token_fields (codes "azp") (or_null text_kind) before m refl,
  judged_narrowed id_token_fields (codes "at_hash") (or_null text_kind) before m refl,
  judged_narrowed id_token_fields (codes "c_hash") (or_null text_kind) before m refl,
) refl
