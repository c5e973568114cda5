-- The members of one name in a table: by their names, and by what the table finds of their names.
use Rattle.std.proofs.Common.{◌≡◌, ℕ, List, [], ◌∷◌, Option, None, Some, Bool, true, false, cond, refl, sym, ap, ◌∙◌}
use Rattle.std.specs.List.{find}
use Rattle.std.specs.Option.{option_map_or}
use Rattle.std.specs.Str.{bytes_eq}
use Rattle.std.proofs.lemmas.Slice.Eq.{bytes_eq-Decides}

same_bytes : (xs ys : List ℕ) → bytes_eq xs ys ≡ true → xs ≡ ys
same_bytes xs ys = (bytes_eq-Decides xs ys).0

turned : (xs ys : List ℕ) → bytes_eq xs ys ≡ bytes_eq ys xs
turned xs ys = go (bytes_eq xs ys) (bytes_eq ys xs) refl refl
  where
    go : (b c : Bool) → bytes_eq xs ys ≡ b → bytes_eq ys xs ≡ c → bytes_eq xs ys ≡ bytes_eq ys xs
    go true c p q = p ∙ sym ((bytes_eq-Decides ys xs).1 (sym (same_bytes xs ys p)))
    go false true p q = (bytes_eq-Decides xs ys).1 (sym (same_bytes ys xs q)) ∙ sym q
    go false false p q = p ∙ sym q

module _ {K : Type 0} (name_of : K → List ℕ) (all : List K) where
  abbrev pub found : List ℕ → Option K
  found name = find (λ k. bytes_eq (name_of k) name) all

  named : (name : List ℕ) (c : K) (ks : List K) → find (λ k. bytes_eq (name_of k) name) ks ≡ Some c → name_of c ≡ name
  named name c [] h = absurd (cc)
  named name c (k ∷ ks) h = go (named name c ks) (bytes_eq (name_of k) name) refl h
    where
      go : (find (λ k. bytes_eq (name_of k) name) ks ≡ Some c → name_of c ≡ name) → (b : Bool) → bytes_eq (name_of k) name ≡ b → cond b (Some k) (find (λ k. bytes_eq (name_of k) name) ks) ≡ Some c → name_of c ≡ name
      go rest true e h = let is : k ≡ c = cc in ap name_of (sym is) ∙ same_bytes (name_of k) name e
      go rest false e h = rest h

  -- a name is that of an entry where the table finds an entry of the same name
  pub by_name : ((d : K) → found (name_of d) ≡ Some d) → (name : List ℕ) (d : K)
      → bytes_eq name (name_of d) ≡ option_map_or (λ other. bytes_eq (name_of d) (name_of other)) (found name) false
  by_name each name d = go (found name) refl
    where
      none : found name ≡ None → (b : Bool) → bytes_eq name (name_of d) ≡ b → bytes_eq name (name_of d) ≡ false
      none e false p = p
      none e true p = let some : None ≡ Some d = sym e ∙ ap found (same_bytes name (name_of d) p) ∙ each d in absurd (cc)

      go : (o : Option K) → found name ≡ o → bytes_eq name (name_of d) ≡ option_map_or (λ other. bytes_eq (name_of d) (name_of other)) o false
      go None e = none e (bytes_eq name (name_of d)) refl
      go (Some c) e = (λ i. bytes_eq (sym (named name c all e) i) (name_of d)) ∙ turned (name_of c) (name_of d)
