-- How changes of a hashed map change the map that it keeps.
use Rattle.std.proofs.Common.{◌≡◌, ℕ, List, [], ◌∷◌, map, Option, None, Some, Bool, true, false, cond, refl, sym, ap, ◌∙◌, String}
use Rattle.std.specs.Prelude.{is_some}
use Rattle.std.specs.FinMap as finite
use Rattle.std.specs.HashMap as hash
use Rattle.std.specs.Map.{lookup}
use Rattle.std.specs.Ordering.{nat_cmp, eq_by_cmp}
use Rattle.std.specs.Cmp.{nat_eq_equiv}
use Rattle.std.specs.Cmp.Lexicographic.{slice_cmp, lists_equiv, bytes_decides}
use Rattle.std.specs.Option.{option_map}
use Rattle.std.specs.Str.{bytes_eq}
use Rattle.std.specs.String.{string_bytes, string_eq}
use Rattle.std.proofs.lemmas.Cmp.{nat_list_cmp_total}
use Rattle.std.proofs.lemmas.Map.Text.{is_eq-slice_cmp, hash_map_updates_text}
use Rattle.oidc_provider.specs.Store.{TextMap, by_text, kept, kept_texts}

-- whether the map's order has two texts in one place
abbrev pub ties : List ℕ → List ℕ → Bool
ties x y = eq_by_cmp (slice_cmp nat_cmp) x y

same_test : (bs q : List ℕ) → ties q bs ≡ bytes_eq bs q
same_test bs q = is_eq-slice_cmp q bs ∙ (lists_equiv nat_eq_equiv).symm q bs

same : (x y : List ℕ) → ties x y ≡ true → x ≡ y
same x y e = (bytes_decides x y).0 (sym (is_eq-slice_cmp x y) ∙ e)

-- ---- an entry that is added and taken out again

absent : {X : Type 0} (o : Option X) → is_some o ≡ false → o ≡ None
absent None e = refl
absent (Some x) e = absurd cc

unmoved : {X : Type 0} (tied : Bool) (v : X) (y : Option X) → (tied ≡ true → y ≡ None) → cond tied None (cond tied (Some v) y) ≡ y
unmoved true v y e = sym (e refl)
unmoved false v y e = refl

pub taken_back : {X : Type 0} (m : TextMap X) (k : List ℕ) (v : X) → finite.contains_key m k ≡ false → finite.remove (finite.insert m k v) k ≡ m
taken_back m k v new =
    finite.same_map nat_list_cmp_total (finite.slice_cmp-IsAntisymmetric finite.nat_cmp-IsAntisymmetric) _ _ (λ q.
    finite.get-remove nat_list_cmp_total (finite.insert m k v) k q
    ∙ ap (λ o. cond (ties q k) None o) (finite.get-insert nat_list_cmp_total m k v q)
    ∙ unmoved (ties q k) v (finite.get m q) (λ tied. ap (finite.get m) (same q k tied) ∙ absent (finite.get m k) new))

module _ {X Y : Type 0} where
  find_lookup : (q : List ℕ) (es : List (String Y × X)) → finite.find (slice_cmp nat_cmp) q (by_text es) ≡ lookup (λ k. bytes_eq q (string_bytes k)) es
  find_lookup q [] = refl
  find_lookup q (e ∷ es) = λ i. cond (is_eq-slice_cmp q (string_bytes e.0) i) (Some e.1) (find_lookup q es i)

  pub nothing_kept : {S : Type 0} (m : hash.HashMap (String Y) X S) → m.entries ≡ [] → kept m ≡ finite.empty
  nothing_kept m e = ap (λ es. finite.from_entries {R = slice_cmp nat_cmp} (by_text {X = X} {Y = Y} es)) e

  pub get_kept : {S : Type 0} (m : hash.HashMap (String Y) X S) (q : List ℕ) → finite.get (kept m) q ≡ hash.get_by_text m q
  get_kept m q = finite.get-from_entries nat_list_cmp_total (by_text m.entries) q ∙ find_lookup q m.entries

  pub kept_insert : {S : Type 0} (bs : List ℕ) (m n : hash.HashMap (String Y) X S) (v : X)
      → hash.UpdatesBy string_eq (λ k. bytes_eq bs (string_bytes k)) m n (Some v) → kept n ≡ finite.insert (kept m) bs v
  kept_insert bs m n v u =
      finite.same_map nat_list_cmp_total (finite.slice_cmp-IsAntisymmetric finite.nat_cmp-IsAntisymmetric) _ _ (λ q.
      get_kept n q ∙ hash_map_updates_text bs m n (Some v) u q
      ∙ sym (finite.get-insert nat_list_cmp_total (kept m) bs v q ∙ (λ i. cond (same_test bs q i) (Some v) (get_kept m q i))))

-- ---- the same of texts under texts

abbrev texts : {Z : Type 0} → Option (String Z) → Option (List ℕ)
texts found = option_map string_bytes found

map_cond : {A B : Type 0} (f : A → B) (b : Bool) (x y : Option A) → option_map f (cond b x y) ≡ cond b (option_map f x) (option_map f y)
map_cond f true x y = refl
map_cond f false x y = refl

module _ {Y Z : Type 0} where
  abbrev text_entries : List (String Y × String Z) → List (List ℕ × List ℕ)
  text_entries es = map (λ e. (string_bytes e.0, string_bytes e.1)) es

  find_text : (q : List ℕ) (es : List (String Y × String Z)) → finite.find (slice_cmp nat_cmp) q (text_entries es) ≡ texts (lookup (λ k. bytes_eq q (string_bytes k)) es)
  find_text q [] = refl
  find_text q (e ∷ es) =
      (λ i. cond (is_eq-slice_cmp q (string_bytes e.0) i) (Some (string_bytes e.1)) (find_text q es i))
      ∙ sym (map_cond string_bytes (bytes_eq q (string_bytes e.0)) (Some e.1) (lookup (λ k. bytes_eq q (string_bytes k)) es))

  pub no_texts_kept : {S : Type 0} (m : hash.HashMap (String Y) (String Z) S) → m.entries ≡ [] → kept_texts m ≡ finite.empty
  no_texts_kept m e = ap (λ es. finite.from_entries {R = slice_cmp nat_cmp} (text_entries es)) e

  pub get_kept_text : {S : Type 0} (m : hash.HashMap (String Y) (String Z) S) (q : List ℕ) → finite.get (kept_texts m) q ≡ texts (hash.get_by_text m q)
  get_kept_text m q = finite.get-from_entries nat_list_cmp_total (text_entries m.entries) q ∙ find_text q m.entries

  updated : {S : Type 0} (bs : List ℕ) (m n : hash.HashMap (String Y) (String Z) S) (w : Option (String Z))
      → hash.UpdatesBy string_eq (λ k. bytes_eq bs (string_bytes k)) m n w
      → (q : List ℕ) → finite.get (kept_texts n) q ≡ cond (ties q bs) (texts w) (finite.get (kept_texts m) q)
  updated bs m n w u q =
      get_kept_text n q ∙ ap texts (hash_map_updates_text bs m n w u q)
      ∙ map_cond string_bytes (bytes_eq bs q) w (hash.get_by_text m q)
      ∙ sym (λ i. cond (same_test bs q i) (texts w) (get_kept_text m q i))

  pub kept_text_insert : {S : Type 0} (bs : List ℕ) (m n : hash.HashMap (String Y) (String Z) S) (v : String Z)
      → hash.UpdatesBy string_eq (λ k. bytes_eq bs (string_bytes k)) m n (Some v) → kept_texts n ≡ finite.insert (kept_texts m) bs (string_bytes v)
  kept_text_insert bs m n v u =
      finite.same_map nat_list_cmp_total (finite.slice_cmp-IsAntisymmetric finite.nat_cmp-IsAntisymmetric) _ _ (λ q.
      updated bs m n (Some v) u q ∙ sym (finite.get-insert nat_list_cmp_total (kept_texts m) bs (string_bytes v) q))

  pub kept_text_remove : {S : Type 0} (bs : List ℕ) (m n : hash.HashMap (String Y) (String Z) S)
      → hash.UpdatesBy string_eq (λ k. bytes_eq bs (string_bytes k)) m n None → kept_texts n ≡ finite.remove (kept_texts m) bs
  kept_text_remove bs m n u =
      finite.same_map nat_list_cmp_total (finite.slice_cmp-IsAntisymmetric finite.nat_cmp-IsAntisymmetric) _ _ (λ q.
      updated bs m n None u q ∙ sym (finite.get-remove nat_list_cmp_total (kept_texts m) bs q))
