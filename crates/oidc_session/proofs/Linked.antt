-- How changes of an index change what stands under its names.
use Rattle.std.proofs.Common.{◌≡◌, ℕ, List, Option, None, Some, Bool, true, false, cond, refl, sym, subst, ◌∙◌, String}
use Rattle.std.specs.Prelude.{◌≢◌, is_some, ◌||◌, [], ◌∷◌, filter}
use Rattle.std.specs.List.{list_any}
use Rattle.std.specs.Option.{option_map_or}
use Rattle.std.specs.HashMap as hash
use Rattle.std.specs.HashSet as bag
use Rattle.std.specs.Cmp.Lexicographic.{bytes_decides}
use Rattle.std.specs.Str.{bytes_eq}
use Rattle.std.specs.String.{string_bytes, string_eq}
use Rattle.std.proofs.lemmas.Bool.{false≢true}
use Rattle.std.proofs.lemmas.Map.Text.{hash_map_updates_text, hash_set_updates_text}
use Rattle.oidc_session.specs.Stored.{Names, holds}

or_left : (a b c : Bool) → (b ≡ true → c ≡ true) → (a || b) ≡ true → (a || c) ≡ true
or_left true b c more h = refl
or_left false b c more h = more h

or_right : (a b c : Bool) → (a ≡ true → ⊥) → (b ≡ true → c ≡ true) → (a || b) ≡ true → c ≡ true
or_right true b c none more h = absurd (none refl)
or_right false b c none more h = more h

or_true : (b : Bool) (c : Bool) → c ≡ true → cond b true c ≡ true
or_true true c e = refl
or_true false c e = e

unless_same : (b c : Bool) → (b ≡ true → ⊥) → c ≡ true → cond b false c ≡ true
unless_same true c n e = absurd (n refl)
unless_same false c n e = e

module _ {Z : Type 0} (p : List ℕ → Bool) (i : List ℕ) (passes : p i ≡ true) where
  abbrev is_id : String Z → Bool
  is_id k = bytes_eq i (string_bytes k)

  filtered_at : (k : String Z) (ks kept : List (String Z)) → (list_any is_id ks ≡ true → list_any is_id kept ≡ true) → list_any is_id (k ∷ ks) ≡ true
      → (b : Bool) → p (string_bytes k) ≡ b → list_any is_id (cond b (k ∷ kept) kept) ≡ true
  filtered_at k ks kept more h true is = or_left (is_id k) (list_any is_id ks) (list_any is_id kept) more h
  filtered_at k ks kept more h false is =
      or_right (is_id k) (list_any is_id ks) (list_any is_id kept) (λ t. false≢true (sym is ∙ subst (λ z. p z ≡ true) ((bytes_decides i (string_bytes k)).0 t) passes)) more h

  filtered_any : (ks : List (String Z)) → list_any is_id ks ≡ true → list_any is_id (filter (λ k. p (string_bytes k)) ks) ≡ true
  filtered_any [] h = h
  filtered_any (k ∷ ks) h = filtered_at k ks (filter (λ k. p (string_bytes k)) ks) (filtered_any ks) h (p (string_bytes k)) refl

module _ {Z S : Type 0} where
  -- an id is in a set, where there is one
  abbrev pub has : Option (bag.HashSet (String Z) S) → List ℕ → Bool
  has ids i = option_map_or (λ ids. bag.contains_text ids i) ids false

  chosen : (b : Bool) (w o : Option (bag.HashSet (String Z) S)) (i : List ℕ) → (b ≡ true → has w i ≡ true) → has o i ≡ true → has (cond b w o) i ≡ true
  chosen true w o i own h = own refl
  chosen false w o i own h = h

  none_had : (o : Option (bag.HashSet (String Z) S)) (i : List ℕ) → is_some o ≡ false → has o i ≡ true → ⊥
  none_had None i e h = false≢true h
  none_had (Some ids) i e h = false≢true (sym e)

  -- ---- sets of ids

  -- a set whose texts stay
  pub same_ids : (s n : bag.HashSet (String Z) S) → n.keys ≡ s.keys → (i : List ℕ) → bag.contains_text s i ≡ true → bag.contains_text n i ≡ true
  same_ids s n e i h = subst (λ ks. list_any (λ k. bytes_eq i (string_bytes k)) ks ≡ true) (sym e) h

  -- one that gets a text
  pub one_more_id : (bs : List ℕ) (s n : bag.HashSet (String Z) S) → bag.UpdatesBy string_eq (λ k. bytes_eq bs (string_bytes k)) s n true
      → (i : List ℕ) → bag.contains_text s i ≡ true → bag.contains_text n i ≡ true
  one_more_id bs s n u i h = hash_set_updates_text bs s n true u i ∙ or_true (bytes_eq bs i) (bag.contains_text s i) h

  pub new_id : (bs : List ℕ) (s n : bag.HashSet (String Z) S) → bag.UpdatesBy string_eq (λ k. bytes_eq bs (string_bytes k)) s n true
      → bag.contains_text n bs ≡ true
  new_id bs s n u = u.1

  -- one that loses a text
  pub one_less_id : (bs : List ℕ) (s n : bag.HashSet (String Z) S) → bag.UpdatesBy string_eq (λ k. bytes_eq bs (string_bytes k)) s n false
      → (i : List ℕ) → i ≢ bs → bag.contains_text s i ≡ true → bag.contains_text n i ≡ true
  one_less_id bs s n u i other h =
      hash_set_updates_text bs s n false u i ∙ unless_same (bytes_eq bs i) (bag.contains_text s i) (λ t. other (sym ((bytes_decides bs i).0 t))) h

  -- one whose texts are filtered
  pub filtered_ids : (p : List ℕ → Bool) (s n : bag.HashSet (String Z) S) → n.keys ≡ filter (λ k. p (string_bytes k)) s.keys
      → (i : List ℕ) → p i ≡ true → bag.contains_text s i ≡ true → bag.contains_text n i ≡ true
  filtered_ids p s n e i passes h = subst (λ ks. list_any (λ k. bytes_eq i (string_bytes k)) ks ≡ true) (sym e) (filtered_any p i passes s.keys h)

module _ {Y Z S T : Type 0} where
  -- after a change at one name an id stands where it stood, if it does so under that name
  pub keeps : (bs : List ℕ) (m n : Names Y Z S T) (w : Option (bag.HashSet (String Z) S))
      → hash.UpdatesBy string_eq (λ k. bytes_eq bs (string_bytes k)) m n w
      → (q i : List ℕ) → (q ≡ bs → has (hash.get_by_text m bs) i ≡ true → has w i ≡ true) → holds m q i ≡ true → holds n q i ≡ true
  keeps bs m n w u q i own h =
      subst (λ o. has o i ≡ true) (sym (hash_map_updates_text bs m n w u q))
      (chosen (bytes_eq bs q) w (hash.get_by_text m q) i
      (λ t. let e = (bytes_decides bs q).0 t in own (sym e) (subst (λ z. has (hash.get_by_text m z) i ≡ true) (sym e) h)) h)

  -- what stands under a name is the set that is found there
  pub under_name : (name : List ℕ) (m : Names Y Z S T) (o : Option (bag.HashSet (String Z) S)) → o ≡ hash.get_by_text m name
      → (q : List ℕ) → has o q ≡ holds m name q
  under_name name m o e q = λ i. has (e i) q

  -- and what is under that name is what it was changed to
  pub found : (bs : List ℕ) (m n : Names Y Z S T) (w : Option (bag.HashSet (String Z) S))
      → hash.UpdatesBy string_eq (λ k. bytes_eq bs (string_bytes k)) m n w → hash.get_by_text n bs ≡ w
  found bs m n w u = u.1

  -- ---- a set that was written through

  pub written : (bs : List ℕ) (m n : Names Y Z S T) (ids new : bag.HashSet (String Z) S)
      → hash.get_by_text m bs ≡ Some ids → hash.UpdatesBy string_eq (λ k. bytes_eq bs (string_bytes k)) m n (Some new)
      → (q i : List ℕ) → (q ≡ bs → bag.contains_text ids i ≡ true → bag.contains_text new i ≡ true) → holds m q i ≡ true → holds n q i ≡ true
  written bs m n ids new was u q i own h = keeps bs m n (Some new) u q i (λ e had. own e (subst (λ o. has o i ≡ true) was had)) h

  pub written_there : (bs : List ℕ) (m n : Names Y Z S T) (new : bag.HashSet (String Z) S)
      → hash.UpdatesBy string_eq (λ k. bytes_eq bs (string_bytes k)) m n (Some new) → (i : List ℕ) → bag.contains_text new i ≡ true → holds n bs i ≡ true
  written_there bs m n new u i h = subst (λ o. has o i ≡ true) (sym u.1) h

  -- a name that is new
  pub keeps_new : (bs : List ℕ) (m n : Names Y Z S T) (w : Option (bag.HashSet (String Z) S))
      → hash.UpdatesBy string_eq (λ k. bytes_eq bs (string_bytes k)) m n w → is_some (hash.get_by_text m bs) ≡ false
      → (q i : List ℕ) → holds m q i ≡ true → holds n q i ≡ true
  keeps_new bs m n w u absent q i h = keeps bs m n w u q i (λ e own. absurd (none_had (hash.get_by_text m bs) i absent own)) h

  -- a name under which nothing stands
  pub keeps_dropped : (bs : List ℕ) (m n : Names Y Z S T)
      → hash.UpdatesBy string_eq (λ k. bytes_eq bs (string_bytes k)) m n None → ((i : List ℕ) → holds m bs i ≡ false)
      → (q i : List ℕ) → holds m q i ≡ true → holds n q i ≡ true
  keeps_dropped bs m n u empty q i h = keeps bs m n None u q i (λ e own. absurd (false≢true (sym (empty i) ∙ own))) h
