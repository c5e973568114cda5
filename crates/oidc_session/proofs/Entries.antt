-- How changes of the hashed maps change what they keep.
use Rattle.std.proofs.Common.{◌≡◌, ℕ, suc, ◌+◌, List, [], ◌∷◌, map, length, Option, None, Some, Bool, true, false, cond, refl, sym, ap, subst, ◌∙◌, arith, String}
use Rattle.std.specs.Prelude.{is_some, ◌||◌, not, filter}
use Rattle.std.specs.Option.{option_map_or}
use Rattle.std.specs.List.{IsDistinct, AllByRecursion, list_any}
use Rattle.std.specs.FinMap as finite
use Rattle.std.specs.FinSet as set
use Rattle.std.specs.HashMap as hash
use Rattle.std.specs.HashSet as bag
use Rattle.std.specs.Map.{lookup, keys_of}
use Rattle.std.specs.Ordering.{nat_cmp, eq_by_cmp}
use Rattle.std.specs.Cmp.{nat_eq_equiv}
use Rattle.std.specs.Cmp.Lexicographic.{slice_cmp, lists_equiv, bytes_decides, nat_list_eq_equiv}
use Rattle.std.specs.Str.{bytes_eq}
use Rattle.std.specs.String.{string_bytes, string_eq}
use Rattle.std.proofs.lemmas.Cmp.{nat_list_cmp_total}
use Rattle.std.proofs.lemmas.Map.Text.{is_eq-slice_cmp, hash_map_updates_text, hash_set_updates_text}
use Rattle.oidc_session.specs.Sessions.{SeenSession, Sessions, without}
use Rattle.oidc_session.specs.Stored.{by_id, kept_sessions, kept_ids}

-- whether the order has two ids in one place
abbrev pub ties : List ℕ → List ℕ → Bool
ties x y = eq_by_cmp (slice_cmp nat_cmp) x y

pub same_test : (bs q : List ℕ) → ties q bs ≡ bytes_eq bs q
same_test bs q = is_eq-slice_cmp q bs ∙ (lists_equiv nat_eq_equiv).symm q bs

-- two maps that answer alike are one
pub same_sessions : (m n : Sessions) → ((q : List ℕ) → finite.get m q ≡ finite.get n q) → m ≡ n
same_sessions m n = finite.same_map nat_list_cmp_total (finite.slice_cmp-IsAntisymmetric finite.nat_cmp-IsAntisymmetric) m n

pub get_inserted : (m : Sessions) (k : List ℕ) (s : SeenSession) (q : List ℕ) → finite.get (finite.insert m k s) q ≡ cond (bytes_eq k q) (Some s) (finite.get m q)
get_inserted m k s q = finite.get-insert nat_list_cmp_total m k s q ∙ (λ i. cond (same_test k q i) (Some s) (finite.get m q))

pub get_removed : (m : Sessions) (k q : List ℕ) → finite.get (finite.remove m k) q ≡ cond (bytes_eq k q) None (finite.get m q)
get_removed m k q = finite.get-remove nat_list_cmp_total m k q ∙ (λ i. cond (same_test k q i) None (finite.get m q))

unmoved : (a : Bool) (y : Option SeenSession) → (a ≡ true → y ≡ None) → cond a None y ≡ y
unmoved true y e = sym (e refl)
unmoved false y e = refl

-- to take an id that is absent out leaves the map as it is
pub remove_absent : (q : List ℕ) (m : Sessions) → finite.get m q ≡ None → finite.remove m q ≡ m
remove_absent q m absent =
    same_sessions _ _ (λ k. get_removed m q k ∙ unmoved (bytes_eq q k) (finite.get m k) (λ t. subst (λ z. finite.get m z ≡ None) ((bytes_decides q k).0 t) absent))

one_more : (a b : ℕ) → a ≡ b → a + 1 ≡ suc b
one_more a b e = omega arith

or_cond : (a b : Bool) → (a || b) ≡ cond a true b
or_cond true b = refl
or_cond false b = refl

-- ---- sessions that are gone

-- what passes a test
abbrev pub passing : (SeenSession → Bool) → Option SeenSession → Option SeenSession
passing p None = None
passing p (Some s) = cond (p s) (Some s) None

abbrev pub left_of : (SeenSession → Bool) → Option SeenSession → Option SeenSession
left_of gone found = cond (not (option_map_or gone found false)) found None

pub get_without : (gone : SeenSession → Bool) (m : Sessions) (q : List ℕ) → finite.get (without gone m) q ≡ left_of gone (finite.get m q)
get_without gone m q =
    finite.get-retain_keys m (λ id. not (option_map_or gone (finite.get m id) false)) q
    (λ x e. ap (λ o. not (option_map_or gone o false)) (finite.get_tied nat_list_cmp_total m q x e))

twice_not : (b : Bool) (x : Option SeenSession) → cond (not (not b)) x None ≡ cond b x None
twice_not true x = refl
twice_not false x = refl

pub left_passing : (p : SeenSession → Bool) (found : Option SeenSession) → left_of (λ s. not (p s)) found ≡ passing p found
left_passing p None = refl
left_passing p (Some s) = twice_not (p s) (Some s)

module _ {Y : Type 0} where
  abbrev without_pair : (p : SeenSession → Bool) → List (String Y × SeenSession) → List (String Y × SeenSession)
  without_pair p es = filter (λ e. p e.1) es

  none_step : (p : SeenSession → Bool) (test : String Y → Bool) (x : String Y) (e : String Y × SeenSession) (es : List (String Y × SeenSession))
      → ((y : String Y) → test y ≡ string_eq x y) → string_eq x e.0 ≡ false → lookup test (without_pair p es) ≡ None
      → (b : Bool) → lookup test (cond b (e ∷ without_pair p es) (without_pair p es)) ≡ None
  none_step p test x e es same other rest true = ap (λ b. cond b (Some e.1) (lookup test (without_pair p es))) (same e.0 ∙ other) ∙ rest
  none_step p test x e es same other rest false = rest

  none_passes : (p : SeenSession → Bool) (test : String Y → Bool) (x : String Y) (es : List (String Y × SeenSession))
      → ((y : String Y) → test y ≡ string_eq x y) → AllByRecursion (λ y. string_eq x y ≡ false) (keys_of es) → lookup test (filter (λ e. p e.1) es) ≡ None
  none_passes p test x [] same d = refl
  none_passes p test x (e ∷ es) same d = none_step p test x e es same d.0 (none_passes p test x es same d.1) (p e.1)

-- ---- the sessions

module _ {Y : Type 0} where
  find_lookup : (q : List ℕ) (es : List (String Y × SeenSession)) → finite.find (slice_cmp nat_cmp) q (by_id es) ≡ lookup (λ k. bytes_eq q (string_bytes k)) es
  find_lookup q [] = refl
  find_lookup q (e ∷ es) = λ i. cond (is_eq-slice_cmp q (string_bytes e.0) i) (Some e.1) (find_lookup q es i)

  -- a key that differs from all others isn't found among them
  unfound : (k : String Y) (es : List (String Y × SeenSession)) → AllByRecursion (λ y. string_eq k y ≡ false) (keys_of es) → finite.find (slice_cmp nat_cmp) (string_bytes k) (by_id es) ≡ None
  unfound k [] d = refl
  unfound k (e ∷ es) d = (λ i. cond ((is_eq-slice_cmp (string_bytes k) (string_bytes e.0) ∙ d.0) i) (Some e.1) (finite.find (slice_cmp nat_cmp) (string_bytes k) (by_id es))) ∙ unfound k es d.1

  len_entries : (es : List (String Y × SeenSession)) → IsDistinct string_eq (keys_of es) → finite.len (finite.from_entries {R = slice_cmp nat_cmp} (by_id es)) ≡ length es
  unfolding IsDistinct
  len_entries [] d = finite.len-empty (slice_cmp nat_cmp) SeenSession
  len_entries (e ∷ es) d =
      finite.len-insert nat_list_cmp_total (finite.from_entries (by_id es)) (string_bytes e.0) e.1
      ∙ ap (λ o. cond (is_some o) (finite.len (finite.from_entries {R = slice_cmp nat_cmp} (by_id es))) (finite.len (finite.from_entries {R = slice_cmp nat_cmp} (by_id es)) + 1))
      (finite.get-from_entries nat_list_cmp_total (by_id es) (string_bytes e.0) ∙ unfound e.0 es d.0)
      ∙ one_more _ _ (len_entries es d.1)

  pub len_kept : {S : Type 0} (m : hash.HashMap (String Y) SeenSession S) → hash.IsUnique string_eq m → finite.len (kept_sessions m) ≡ length m.entries
  len_kept m d = len_entries m.entries d

  pub nothing_kept : {S : Type 0} (m : hash.HashMap (String Y) SeenSession S) → m.entries ≡ [] → kept_sessions m ≡ finite.empty
  nothing_kept m e = ap (λ es. finite.from_entries {R = slice_cmp nat_cmp} (by_id {Y = Y} es)) e

  pub get_kept : {S : Type 0} (m : hash.HashMap (String Y) SeenSession S) (q : List ℕ) → finite.get (kept_sessions m) q ≡ hash.get_by_text m q
  get_kept m q = finite.get-from_entries nat_list_cmp_total (by_id m.entries) q ∙ find_lookup q m.entries

  pub shown_at : {S : Type 0} (m : hash.HashMap (String Y) SeenSession S) (k : String Y) (v : SeenSession) → hash.get string_eq m k ≡ Some v
      → finite.get (kept_sessions m) (string_bytes k) ≡ Some v
  shown_at m k v h = get_kept m (string_bytes k) ∙ h

  pub kept_insert : {S : Type 0} (bs : List ℕ) (m n : hash.HashMap (String Y) SeenSession S) (v : SeenSession)
      → hash.UpdatesBy string_eq (λ k. bytes_eq bs (string_bytes k)) m n (Some v) → kept_sessions n ≡ finite.insert (kept_sessions m) bs v
  kept_insert bs m n v u =
      same_sessions _ _ (λ q.
      get_kept n q ∙ hash_map_updates_text bs m n (Some v) u q
      ∙ sym (get_inserted (kept_sessions m) bs v q ∙ (λ i. cond (bytes_eq bs q) (Some v) (get_kept m q i))))

  pub kept_remove : {S : Type 0} (bs : List ℕ) (m n : hash.HashMap (String Y) SeenSession S)
      → hash.UpdatesBy string_eq (λ k. bytes_eq bs (string_bytes k)) m n None → kept_sessions n ≡ finite.remove (kept_sessions m) bs
  kept_remove bs m n u =
      same_sessions _ _ (λ q.
      get_kept n q ∙ hash_map_updates_text bs m n None u q
      ∙ sym (get_removed (kept_sessions m) bs q ∙ (λ i. cond (bytes_eq bs q) None (get_kept m q i))))

  pub kept_same : {S : Type 0} (m n : hash.HashMap (String Y) SeenSession S) → n.entries ≡ m.entries → kept_sessions n ≡ kept_sessions m
  kept_same m n e = ap (λ es. finite.from_entries {R = slice_cmp nat_cmp} (by_id {Y = Y} es)) e

  -- ---- those that pass a test

  passing_step : (p : SeenSession → Bool) (test : String Y → Bool) (e : String Y × SeenSession) (es : List (String Y × SeenSession))
      → ((x y : String Y) → test x ≡ true → test y ≡ string_eq x y) → AllByRecursion (λ y. string_eq e.0 y ≡ false) (keys_of es)
      → lookup test (filter (λ e. p e.1) es) ≡ passing p (lookup test es)
      → (t : Bool) → test e.0 ≡ t → (b : Bool) → p e.1 ≡ b
      → lookup test (cond b (e ∷ filter (λ e. p e.1) es) (filter (λ e. p e.1) es)) ≡ passing p (cond t (Some e.1) (lookup test es))
  passing_step p test e es one d rest true at true is = ap (λ t. cond t (Some e.1) (lookup test (filter (λ e. p e.1) es))) at ∙ sym (ap (λ b. cond b (Some e.1) None) is)
  passing_step p test e es one d rest true at false is = none_passes p test e.0 es (λ y. one e.0 y at) d ∙ sym (ap (λ b. cond b (Some e.1) None) is)
  passing_step p test e es one d rest false at true is = ap (λ t. cond t (Some e.1) (lookup test (filter (λ e. p e.1) es))) at ∙ rest
  passing_step p test e es one d rest false at false is = rest

  passing_at : (p : SeenSession → Bool) (test : String Y → Bool) (es : List (String Y × SeenSession)) → ((x y : String Y) → test x ≡ true → test y ≡ string_eq x y)
      → IsDistinct string_eq (keys_of es) → lookup test (filter (λ e. p e.1) es) ≡ passing p (lookup test es)
  unfolding IsDistinct
  passing_at p test [] one d = refl
  passing_at p test (e ∷ es) one d = passing_step p test e es one d.0 (passing_at p test es one d.1) (test e.0) refl (p e.1) refl

  -- what a filter of the entries leaves are the sessions that pass
  pub kept_retained : {S : Type 0} (p : SeenSession → Bool) (m n : hash.HashMap (String Y) SeenSession S) → hash.IsUnique string_eq m
      → n.entries ≡ filter (λ e. p e.1) m.entries → kept_sessions n ≡ without (λ s. not (p s)) (kept_sessions m)
  kept_retained p m n d e =
      same_sessions _ _ (λ q.
      get_kept n q
      ∙ ap (lookup (λ k. bytes_eq q (string_bytes k))) e
      ∙ passing_at p (λ k. bytes_eq q (string_bytes k)) m.entries (λ x y. nat_list_eq_equiv.congr q (string_bytes x) (string_bytes y)) d
      ∙ sym (get_without (λ s. not (p s)) (kept_sessions m) q ∙ left_passing p (finite.get (kept_sessions m) q) ∙ ap (passing p) (get_kept m q)))

  -- ---- the ids of tokens

  any_ties : (q : List ℕ) (ks : List (String Y)) → list_any (eq_by_cmp (slice_cmp nat_cmp) q) (map (λ k. string_bytes k) ks) ≡ list_any (λ k. bytes_eq q (string_bytes k)) ks
  any_ties q [] = refl
  any_ties q (k ∷ ks) = λ i. is_eq-slice_cmp q (string_bytes k) i || any_ties q ks i

  pub no_ids : {S : Type 0} (s : bag.HashSet (String Y) S) → s.keys ≡ [] → kept_ids s ≡ set.empty
  no_ids s e = ap (λ ks. set.from_list {R = slice_cmp nat_cmp} (map (λ k. string_bytes {Z = Y} k) ks)) e

  pub contains_kept : {S : Type 0} (s : bag.HashSet (String Y) S) (q : List ℕ) → set.contains (kept_ids s) q ≡ bag.contains_text s q
  contains_kept s q = set.contains-from_list nat_list_cmp_total (map (λ k. string_bytes k) s.keys) q ∙ any_ties q s.keys

  pub ids_insert : {S : Type 0} (bs : List ℕ) (s n : bag.HashSet (String Y) S)
      → bag.UpdatesBy string_eq (λ k. bytes_eq bs (string_bytes k)) s n true → kept_ids n ≡ set.insert (kept_ids s) bs
  ids_insert bs s n u =
      set.same_set nat_list_cmp_total (set.slice_cmp-IsAntisymmetric set.nat_cmp-IsAntisymmetric) _ _ (λ q.
      contains_kept n q ∙ hash_set_updates_text bs s n true u q
      ∙ sym (set.contains-insert nat_list_cmp_total (kept_ids s) bs q ∙ (λ i. same_test bs q i || contains_kept s q i) ∙ or_cond (bytes_eq bs q) (bag.contains_text s q)))

  pub ids_stay : {S : Type 0} (s n : bag.HashSet (String Y) S) → n.keys ≡ s.keys → kept_ids n ≡ kept_ids s
  ids_stay s n e = ap (λ ks. set.from_list {R = slice_cmp nat_cmp} (map (λ k. string_bytes {Z = Y} k) ks)) e
