-- how changes of the hashed map change the map that it keeps
use Rattle.std.proofs.Common.{◌≡◌, ◌≢◌, ℕ, suc, ◌+◌, List, [], ◌∷◌, length, Option, None, Some, Bool, true, false, cond, refl, sym, ap, subst, ◌∙◌, arith, String}
use Rattle.std.specs.Prelude.{unwrap_or, IsTrue, is_some}
use Rattle.std.specs.List.{IsDistinct, AllByRecursion}
use Rattle.std.specs.FinMap as finite
use Rattle.std.specs.HashMap as hash
use Rattle.std.specs.Map.{lookup, keys_of}
use Rattle.std.specs.Ordering.{nat_cmp, eq_by_cmp}
use Rattle.std.specs.Cmp.{nat_eq_equiv}
use Rattle.std.specs.Cmp.Lexicographic.{slice_cmp, lists_equiv, bytes_decides}
use Rattle.std.specs.Str.{bytes_eq}
use Rattle.std.specs.String.{string_bytes, string_eq}
use Rattle.std.proofs.lemmas.Bool.{false≢true}
use Rattle.std.proofs.lemmas.Cmp.{nat_list_cmp_total}
use Rattle.std.proofs.lemmas.Map.Text.{is_eq-slice_cmp, hash_map_updates_text}
use Rattle.oidc_oauth2.specs.Pkce.{is_verifier}
use Rattle.oidc_login.specs.Logins.{SeenLogin, Pending, HasVerifiers}
use Rattle.oidc_login.specs.Store.{by_state, kept}

-- whether the map's order has two states in one place
abbrev pub ties : List ℕ → List ℕ → Bool
ties x y = eq_by_cmp (slice_cmp nat_cmp) x y

same_test : (bs q : List ℕ) → ties q bs ≡ bytes_eq bs q
same_test bs q = is_eq-slice_cmp q bs ∙ (lists_equiv nat_eq_equiv).symm q bs

not_None : {A : Type 0} (x : A) → Some x ≢ None
not_None x e = false≢true (sym (ap is_some e))

same_Some : {A : Type 0} (x y : A) → Some x ≡ Some y → x ≡ y
same_Some x y e = ap (λ o. unwrap_or o x) e

-- ---- what holds of a map's logins after a change at one state

pub chosen : (P : SeenLogin → Type 0) (b : Bool) (x : SeenLogin) (y : Option SeenLogin) (l : SeenLogin) → P x → (y ≡ Some l → P l) → cond b (Some x) y ≡ Some l → P l
chosen P true x y l p q e = subst P (same_Some x l e) p
chosen P false x y l p q e = q e

pub unchosen : (P : SeenLogin → Type 0) (b : Bool) (y : Option SeenLogin) (l : SeenLogin) → (y ≡ Some l → P l) → cond b None y ≡ Some l → P l
unchosen P true y l q e = absurd (not_None l (sym e))
unchosen P false y l q e = q e

pub verifiers_insert : (m : Pending) (k : List ℕ) (v : SeenLogin) → HasVerifiers m → IsTrue (is_verifier v.verifier) → HasVerifiers (finite.insert m k v)
verifiers_insert m k v h p q l e = chosen (λ x. IsTrue (is_verifier x.verifier)) (ties q k) v (finite.get m q) l p (h q l) (sym (finite.get-insert nat_list_cmp_total m k v q) ∙ e)

pub verifiers_remove : (m : Pending) (k : List ℕ) → HasVerifiers m → HasVerifiers (finite.remove m k)
verifiers_remove m k h q l e = unchosen (λ x. IsTrue (is_verifier x.verifier)) (ties q k) (finite.get m q) l (h q l) (sym (finite.get-remove nat_list_cmp_total m k q) ∙ e)

pub verifiers_empty : HasVerifiers finite.empty
verifiers_empty q l e = absurd (not_None l (sym e ∙ finite.get-empty (slice_cmp nat_cmp) q))

pub same : (x y : List ℕ) → ties x y ≡ true → x ≡ y
same x y e = (bytes_decides x y).0 (sym (is_eq-slice_cmp x y) ∙ e)

unmoved : (a : Bool) (y : Option SeenLogin) → (a ≡ true → y ≡ None) → cond a None y ≡ y
unmoved true y e = sym (e refl)
unmoved false y e = refl

-- to take a state that is absent out leaves the map as it is
pub remove_absent : (q : List ℕ) (m : Pending) → finite.get m q ≡ None → m ≡ finite.remove m q
remove_absent q m absent =
    finite.same_map nat_list_cmp_total (finite.slice_cmp-IsAntisymmetric finite.nat_cmp-IsAntisymmetric) _ _ (λ k.
    sym (finite.get-remove nat_list_cmp_total m q k ∙ unmoved (ties k q) (finite.get m k) (λ t. subst (λ z. finite.get m z ≡ None) (sym (same k q t)) absent)))

one_more : (a b : ℕ) → a ≡ b → a + 1 ≡ suc b
one_more a b e = omega arith

-- ---- the map that is kept

module _ {Y : Type 0} where
  find_lookup : (q : List ℕ) (es : List (String Y × SeenLogin)) → finite.find (slice_cmp nat_cmp) q (by_state es) ≡ lookup (λ k. bytes_eq q (string_bytes k)) es
  find_lookup q [] = refl
  find_lookup q (e ∷ es) = λ i. cond (is_eq-slice_cmp q (string_bytes e.0) i) (Some e.1) (find_lookup q es i)

  -- a key that differs from all others isn't found among them
  unfound : (k : String Y) (es : List (String Y × SeenLogin)) → AllByRecursion (λ y. string_eq k y ≡ false) (keys_of es) → finite.find (slice_cmp nat_cmp) (string_bytes k) (by_state es) ≡ None
  unfound k [] d = refl
  unfound k (e ∷ es) d = (λ i. cond ((is_eq-slice_cmp (string_bytes k) (string_bytes e.0) ∙ d.0) i) (Some e.1) (finite.find (slice_cmp nat_cmp) (string_bytes k) (by_state es))) ∙ unfound k es d.1

  len_entries : (es : List (String Y × SeenLogin)) → IsDistinct string_eq (keys_of es) → finite.len (finite.from_entries {R = slice_cmp nat_cmp} (by_state es)) ≡ length es
  unfolding IsDistinct
  len_entries [] d = finite.len-empty (slice_cmp nat_cmp) SeenLogin
  len_entries (e ∷ es) d =
      finite.len-insert nat_list_cmp_total (finite.from_entries (by_state es)) (string_bytes e.0) e.1
      ∙ ap (λ o. cond (is_some o) (finite.len (finite.from_entries {R = slice_cmp nat_cmp} (by_state es))) (finite.len (finite.from_entries {R = slice_cmp nat_cmp} (by_state es)) + 1))
      (finite.get-from_entries nat_list_cmp_total (by_state es) (string_bytes e.0) ∙ unfound e.0 es d.0)
      ∙ one_more _ _ (len_entries es d.1)

  pub len_kept : {S : Type 0} (m : hash.HashMap (String Y) SeenLogin S) → hash.IsUnique string_eq m → finite.len (kept m) ≡ length m.entries
  len_kept m d = len_entries m.entries d

  pub nothing_kept : {S : Type 0} (m : hash.HashMap (String Y) SeenLogin S) → m.entries ≡ [] → kept m ≡ finite.empty
  nothing_kept m e = ap (λ es. finite.from_entries {R = slice_cmp nat_cmp} (by_state {Y = Y} es)) e

  pub get_kept : {S : Type 0} (m : hash.HashMap (String Y) SeenLogin S) (q : List ℕ) → finite.get (kept m) q ≡ hash.get_by_text m q
  get_kept m q = finite.get-from_entries nat_list_cmp_total (by_state m.entries) q ∙ find_lookup q m.entries

  pub kept_insert : {S : Type 0} (bs : List ℕ) (m n : hash.HashMap (String Y) SeenLogin S) (v : SeenLogin)
      → hash.UpdatesBy string_eq (λ k. bytes_eq bs (string_bytes k)) m n (Some v) → kept n ≡ finite.insert (kept m) bs v
  kept_insert bs m n v u =
      finite.same_map nat_list_cmp_total (finite.slice_cmp-IsAntisymmetric finite.nat_cmp-IsAntisymmetric) _ _ (λ q.
      get_kept n q ∙ hash_map_updates_text bs m n (Some v) u q
      ∙ sym (finite.get-insert nat_list_cmp_total (kept m) bs v q ∙ (λ i. cond (same_test bs q i) (Some v) (get_kept m q i))))

  pub kept_remove : {S : Type 0} (bs : List ℕ) (m n : hash.HashMap (String Y) SeenLogin S)
      → hash.UpdatesBy string_eq (λ k. bytes_eq bs (string_bytes k)) m n None → kept n ≡ finite.remove (kept m) bs
  kept_remove bs m n u =
      finite.same_map nat_list_cmp_total (finite.slice_cmp-IsAntisymmetric finite.nat_cmp-IsAntisymmetric) _ _ (λ q.
      get_kept n q ∙ hash_map_updates_text bs m n None u q
      ∙ sym (finite.get-remove nat_list_cmp_total (kept m) bs q ∙ (λ i. cond (same_test bs q i) None (get_kept m q i))))
