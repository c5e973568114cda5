-- a map that is made anew of the entries of another
use Rattle.std.proofs.Common.{◌≡◌, ℕ, List, [], ◌∷◌, ◌++◌, Option, None, Some, refl, ap, sym, ◌∙◌, cond, Bool, true, false, subst, append_assoc, append-nil}
use Rattle.std.specs.FinMap as finite
use Rattle.std.specs.FinMap.Entries.{is_sorted, below_all, find}
use Rattle.std.specs.declared.cmp.Ordering.{Ordering}
use Rattle.std.specs.declared.cmp.Ordering.TheVariants.{Equal, Less, Greater}
use Rattle.std.specs.Ordering.{is_lt, is_eq}
use Rattle.std.specs.Cmp.{eq_by_cmp_equiv}
use Rattle.std.specs.Prelude.{T, ◌&&◌}
use Rattle.oidc_types.specs.Localized.{Variants, tag_cmp}
use Rattle.oidc_types.proofs.Entries.{tags_total, exact_tags}

Tag : Type 0
Tag = Option (List ℕ)

left_of : (a b : Bool) → T (a && b) → T a
left_of true b h = tt
left_of false b h = absurd h

right_of : (a b : Bool) → T (a && b) → T b
right_of true b h = h
right_of false b h = absurd h

-- a lesser key does not tie
no_tie : (o : Ordering) → T (is_lt o) → is_eq o ≡ false
no_tie Less h = refl
no_tie Equal h = absurd h
no_tie Greater h = absurd h

module _ {X : Type 0} where
  below_later : (x k : Option (List ℕ)) (v : X) (es rest : List (Option (List ℕ) × X)) → T (below_all tag_cmp x (es ++ (k, v) ∷ rest)) → T (is_lt (tag_cmp x k))
  below_later x k v [] rest h = left_of _ _ h
  below_later x k v (e ∷ es) rest h = below_later x k v es rest (right_of _ _ h)

  -- the keys before a place differ from the key there
  new_key : (k : Option (List ℕ)) (v : X) (es rest : List (Option (List ℕ) × X)) → T (is_sorted tag_cmp (es ++ (k, v) ∷ rest)) → find tag_cmp k es ≡ None
  new_key k v [] rest h = refl
  new_key k v (e ∷ es) rest h =
      ap (λ b. cond b (Some e.1) (find tag_cmp k es)) ((eq_by_cmp_equiv tags_total).symm k e.0 ∙ no_tie (tag_cmp e.0 k) (below_later e.0 k v es rest (left_of _ _ h)))
      ∙ new_key k v es rest (right_of _ _ h)

  -- one more entry
  pub from_entries-append : (all : Variants X) (done rest left : List (Option (List ℕ) × X)) (e : Option (List ℕ) × X) → finite.entries all ≡ done ++ left → left ≡ e ∷ rest
      → finite.from_entries {R = tag_cmp} (done ++ e ∷ []) ≡ finite.insert (finite.from_entries done) e.0 e.1
  from_entries-append all done rest left e is next =
      finite.from_entries_push tags_total exact_tags done e.0 e.1
      (new_key e.0 e.1 done rest (subst (λ es. T (is_sorted tag_cmp es)) (is ∙ ap (λ l. done ++ l) next) (finite.entries_sorted all)))

  pub append-next : (done rest left : List (Option (List ℕ) × X)) (all : List (Option (List ℕ) × X)) (e : Option (List ℕ) × X) → all ≡ done ++ left → left ≡ e ∷ rest
      → all ≡ (done ++ e ∷ []) ++ rest
  append-next done rest left all e is next = is ∙ ap (λ l. done ++ l) next ∙ sym (append_assoc done (e ∷ []) rest)

  -- the map of all entries of a map is that map
  pub from_entries-entries : (all : Variants X) → finite.from_entries {R = tag_cmp} (finite.entries all) ≡ all
  from_entries-entries all = finite.same_map tags_total exact_tags _ all (λ q. finite.get-from_entries tags_total (finite.entries all) q ∙ sym (finite.get-entries all q))

  -- the copy after one more entry
  pub pushed : (all copy copy' : Variants X) (done rest left : List (Option (List ℕ) × X)) (e : Option (List ℕ) × X) (tag : Option (List ℕ)) (value : X)
      → finite.entries all ≡ done ++ left → left ≡ e ∷ rest → copy ≡ finite.from_entries done → copy' ≡ finite.insert copy tag value → tag ≡ e.0 → value ≡ e.1
      → copy' ≡ finite.from_entries (done ++ e ∷ [])
  pushed all copy copy' done rest left e tag value is next made put t v =
      put ∙ (λ i. finite.insert (made i) (t i) (v i)) ∙ sym (from_entries-append all done rest left e is next)

  -- the copy at the end
  pub finished : (all copy : Variants X) (done left : List (Option (List ℕ) × X)) → finite.entries all ≡ done ++ left → left ≡ [] → copy ≡ finite.from_entries done → copy ≡ all
  finished all copy done left is end made =
      made ∙ ap finite.from_entries (sym (is ∙ ap (λ l. done ++ l) end ∙ append-nil done)) ∙ from_entries-entries all
