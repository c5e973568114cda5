-- how the parts of a localized claim answer for its map
use Rattle.std.proofs.Common.{◌≡◌, ℕ, List, [], ◌∷◌, Option, None, Some, refl, ap, sym, ◌∙◌, cond, Bool, true, false, subst}
use Rattle.std.specs.FinMap as finite
use Rattle.std.specs.declared.cmp.Ordering.{Ordering}
use Rattle.std.specs.declared.cmp.Ordering.TheVariants.{Equal, Less}
use Rattle.std.specs.Ordering.{nat_cmp, eq_by_cmp}
use Rattle.std.specs.Cmp.{IsTotalOrder, eq_by_cmp_equiv}
use Rattle.std.specs.Cmp.Lexicographic.{slice_cmp, options_total}
use Rattle.std.specs.Map.{lookup, keys_of}
use Rattle.std.specs.List.{AllByRecursion}
use Rattle.std.specs.List.Sorted.{IsStrictlySortedBy}
use Rattle.std.specs.FinMap.Entries.{is_sorted, below_all}
use Rattle.std.specs.Prelude.{T, ◌&&◌}
use Rattle.std.specs.Ordering.{is_lt}
use Rattle.std.specs.BTreeMap.{BTreeMap, is_at, UpdatesBy}
use Rattle.std.proofs.lemmas.Cmp.{nat_list_cmp_total}
use Rattle.oidc_types.specs.Localized.{Variants, entries_of, tagged_entries, variants_of, tag_cmp}

abbrev text_cmp : List ℕ → List ℕ → Ordering
text_cmp = slice_cmp nat_cmp

pub tags_total : IsTotalOrder tag_cmp
tags_total = options_total nat_list_cmp_total

pub exact_tags : (a b : Option (List ℕ)) → tag_cmp a b ≡ Equal → a ≡ b
exact_tags None None h = refl
exact_tags None (Some b) h = absurd (cc)
exact_tags (Some a) None h = absurd (cc)
exact_tags (Some a) (Some b) h = ap Some (finite.slice_cmp-IsAntisymmetric finite.nat_cmp-IsAntisymmetric a b h)

turned : (k t : List ℕ) → is_at (text_cmp k) t ≡ eq_by_cmp tag_cmp (Some t) (Some k)
turned k t = (eq_by_cmp_equiv nat_list_cmp_total).symm k t

module _ {T : Type 0} where
  none_tagged : (es : List (List ℕ × T)) → finite.find tag_cmp None (tagged_entries es) ≡ None
  none_tagged [] = refl
  none_tagged (e ∷ es) = none_tagged es

  some_tagged : (t : List ℕ) (es : List (List ℕ × T)) → finite.find tag_cmp (Some t) (tagged_entries es) ≡ lookup (is_at (text_cmp t)) es
  some_tagged t [] = refl
  some_tagged t (e ∷ es) = ap (cond (is_at (text_cmp t) e.0) (Some e.1)) (some_tagged t es)

  found_none : (u : Option T) (es : List (List ℕ × T)) → finite.find tag_cmp None (entries_of u es) ≡ u
  found_none None es = none_tagged es
  found_none (Some v) es = refl

  found_some : (t : List ℕ) (u : Option T) (es : List (List ℕ × T)) → finite.find tag_cmp (Some t) (entries_of u es) ≡ lookup (is_at (text_cmp t)) es
  found_some t None es = some_tagged t es
  found_some t (Some v) es = some_tagged t es

  get_none : (u : Option T) (es : List (List ℕ × T)) → finite.get (variants_of u es) None ≡ u
  get_none u es = finite.get-from_entries tags_total (entries_of u es) None ∙ found_none u es

  get_some : (t : List ℕ) (u : Option T) (es : List (List ℕ × T)) → finite.get (variants_of u es) (Some t) ≡ lookup (is_at (text_cmp t)) es
  get_some t u es = finite.get-from_entries tags_total (entries_of u es) (Some t) ∙ found_some t u es

  -- a map that answers so at each tag
  is_map : (u : Option T) (es : List (List ℕ × T)) (m : Variants T) → u ≡ finite.get m None → ((t : List ℕ) → lookup (is_at (text_cmp t)) es ≡ finite.get m (Some t)) → variants_of u es ≡ m
  is_map u es m none some = finite.same_map tags_total exact_tags _ _ (each u es m none some)
    where
      each : (u : Option T) (es : List (List ℕ × T)) (m : Variants T) → u ≡ finite.get m None → ((t : List ℕ) → lookup (is_at (text_cmp t)) es ≡ finite.get m (Some t))
          → (q : Option (List ℕ)) → finite.get (variants_of u es) q ≡ finite.get m q
      each u es m none some None = get_none u es ∙ none
      each u es m none some (Some t) = get_some t u es ∙ some t

  pub is_empty : variants_of {T = T} None [] ≡ finite.empty
  is_empty = is_map None [] finite.empty (sym (finite.get-empty tag_cmp None)) (λ t. sym (finite.get-empty tag_cmp (Some t)))

  module _ (u : Option T) (es : List (List ℕ × T)) (all : Variants T) (is : variants_of u es ≡ all) where
    pub gets_none : finite.get all None ≡ u
    gets_none = ap (λ a. finite.get a None) (sym is) ∙ get_none u es

    pub gets_some : (t : List ℕ) → finite.get all (Some t) ≡ lookup (is_at (text_cmp t)) es
    gets_some t = ap (λ a. finite.get a (Some t)) (sym is) ∙ get_some t u es

    pub puts_none : (v : T) → variants_of (Some v) es ≡ finite.insert all None v
    puts_none v = is_map (Some v) es (finite.insert all None v) (sym (finite.get-insert tags_total all None v None))
        (λ t. sym (finite.get-insert tags_total all None v (Some t) ∙ gets_some t))

    pub takes_none : variants_of None es ≡ finite.remove all None
    takes_none = is_map None es (finite.remove all None) (sym (finite.get-remove tags_total all None None))
        (λ t. sym (finite.get-remove tags_total all None (Some t) ∙ gets_some t))

    module _ (m n : BTreeMap (List ℕ) T) (k : List ℕ) (same : es ≡ m.entries) where
      pub puts_some : (v : T) → UpdatesBy text_cmp (text_cmp k) m n (Some v) → variants_of u n.entries ≡ finite.insert all (Some k) v
      puts_some v up = is_map u n.entries (finite.insert all (Some k) v) (sym (finite.get-insert tags_total all (Some k) v None ∙ gets_none))
          (λ t. up.0 t ∙ (λ i. cond (turned k t i) (Some v) (sym (gets_some t ∙ ap (lookup (is_at (text_cmp t))) same) i)) ∙ sym (finite.get-insert tags_total all (Some k) v (Some t)))

      pub takes_some : UpdatesBy text_cmp (text_cmp k) m n None → variants_of u n.entries ≡ finite.remove all (Some k)
      takes_some up = is_map u n.entries (finite.remove all (Some k)) (sym (finite.get-remove tags_total all (Some k) None ∙ gets_none))
          (λ t. up.0 t ∙ (λ i. cond (turned k t i) None (sym (gets_some t ∙ ap (lookup (is_at (text_cmp t))) same) i)) ∙ sym (finite.get-remove tags_total all (Some k) (Some t)))

-- ---- the entries in order

both : (a b : Bool) → T a → T b → T (a && b)
both true b p q = q
both false b p q = p

is_less : (o : Ordering) → o ≡ Less → T (is_lt o)
is_less o h = subst (λ o. T (is_lt o)) (sym h) tt

module _ {T' : Type 0} where
  above : (k : List ℕ) (es : List (List ℕ × T')) → AllByRecursion (λ y. text_cmp k y ≡ Less) (keys_of es) → T (below_all tag_cmp (Some k) (tagged_entries es))
  above k [] h = tt
  above k (e ∷ es) h = both _ _ (is_less (text_cmp k e.0) h.0) (above k es h.1)

  all_above : (es : List (List ℕ × T')) → T (below_all tag_cmp None (tagged_entries es))
  all_above [] = tt
  all_above (e ∷ es) = all_above es

  tagged_sorted : (es : List (List ℕ × T')) → IsStrictlySortedBy text_cmp (keys_of es) → T (is_sorted tag_cmp (tagged_entries es))
  unfolding IsStrictlySortedBy
  tagged_sorted [] h = tt
  tagged_sorted (e ∷ es) h = both _ _ (above e.0 es h.0) (tagged_sorted es h.1)

  sorted : (u : Option T') (es : List (List ℕ × T')) → IsStrictlySortedBy text_cmp (keys_of es) → T (is_sorted tag_cmp (entries_of u es))
  sorted None es h = tagged_sorted es h
  sorted (Some v) es h = both _ _ (all_above es) (tagged_sorted es h)

  in_order : (es : List (Option (List ℕ) × T')) → T (is_sorted tag_cmp es) → finite.entries (finite.from_entries {R = tag_cmp} es) ≡ es
  in_order es h =
      ap finite.entries (finite.same_map tags_total exact_tags (finite.from_entries es) (finite.from_sorted es)
      (λ q. finite.get-from_entries tags_total es q ∙ sym (finite.get-from_sorted tag_cmp es q h)))
      ∙ finite.entries-from_sorted tag_cmp es h

  pub entries_are : (u : Option T') (es : List (List ℕ × T')) (all : Variants T') → variants_of u es ≡ all → IsStrictlySortedBy text_cmp (keys_of es) → entries_of u es ≡ finite.entries all
  entries_are u es all is h = sym (in_order (entries_of u es) (sorted u es h)) ∙ ap finite.entries is
