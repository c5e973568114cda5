-- A set that is written is read as the same.
use Rattle.std.proofs.Common.{◌≡◌, ◌≢◌, ℕ, ◌+◌, ◌≤◌, Bool, true, false, List, [], ◌∷◌, ◌++◌, length, map, All, Option, Some, None, Ok, refl, ap, ◌∙◌, option_map, codes}
use Rattle.std.proofs.Common.{nat_lt, add-one, arith, not, ◌&&◌, slice_index_or}
use Rattle.std.specs.List.{list_all}
use Rattle.std.specs.Str.{bytes_eq}
use Rattle.std.proofs.lemmas.Bool.Decides.{nat_tests}
use Rattle.std.proofs.lemmas.List.Elements.{All-head, All-tail}
use Rattle.std.proofs.lemmas.List.Kept.{AllPairs-cons}
use Rattle.std.proofs.lemmas.List.Sums.{AllPass-from_list_all}
use Rattle.std.proofs.lemmas.Slice.Eq.{bytes_eq-Decides}
use Rattle.json.specs.Json.{Json, string, max_depth}
use Rattle.json.specs.Strict.{keys, AreDistinct, HasUniqueKeys, ItemsHaveUniqueKeys, MembersHaveUniqueKeys}
use Rattle.json.specs.Tree as tree
use Rattle.json.specs.Value.{items_of}
use Rattle.oidc_key_sets.specs.declared.errors.KeyMember.{KeyMember}
use Rattle.oidc_key_sets.specs.declared.errors.KeyMember.TheVariants as named
use Rattle.oidc_key_sets.specs.Numbers.{octets_of, encoded}
use Rattle.oidc_key_sets.specs.Keys.{SeenRsaKey, texts_in, key_in, rsa_key_in}
use Rattle.oidc_key_sets.specs.KeySets.{set_in, keys_from, count_of}
use Rattle.oidc_key_sets.specs.Written.{Named, written_key, written_set, members_of, key_members, text_member, text_member_if, texts_array, texts_member_if}
use Rattle.oidc_key_sets.specs.Codes.{HasNumbers}

-- the texts of an array come back
texts_back : (texts : List (List ℕ)) → texts_in (items_of (map string texts)) ≡ Some texts
texts_back [] = refl
texts_back (text ∷ texts) = ap (λ rest. option_map (λ texts. text ∷ texts) rest) (texts_back texts)

-- a key whose numbers are read back, by what it has
abbrev key : List ℕ → List ℕ → Option (List ℕ) → Option (List (List ℕ)) → Option (List ℕ) → Option (List ℕ) → SeenRsaKey
key m e purpose operations algorithm id = record { modulus = m; exponent = e; purpose = purpose; operations = operations; algorithm = algorithm; id = id }

module _ (m e : List ℕ) (of_m : octets_of (encoded m) ≡ Some m) (of_e : octets_of (encoded e) ≡ Some e) where
  rsa_back : (u : Option (List ℕ)) (o : Option (List (List ℕ))) (a i : Option (List ℕ))
      → key_in (written_key (key m e u o a i)) ≡ Ok (Some (key m e u o a i))
  unfolding key_in rsa_key_in written_key
  rsa_back None None None None = rw (of_m, of_e) refl
  rsa_back None None None (Some i) = rw (of_m, of_e) refl
  rsa_back None None (Some a) None = rw (of_m, of_e) refl
  rsa_back None None (Some a) (Some i) = rw (of_m, of_e) refl
  rsa_back None (Some o) None None = rw (of_m, of_e, texts_back o) refl
  rsa_back None (Some o) None (Some i) = rw (of_m, of_e, texts_back o) refl
  rsa_back None (Some o) (Some a) None = rw (of_m, of_e, texts_back o) refl
  rsa_back None (Some o) (Some a) (Some i) = rw (of_m, of_e, texts_back o) refl
  rsa_back (Some u) None None None = rw (of_m, of_e) refl
  rsa_back (Some u) None None (Some i) = rw (of_m, of_e) refl
  rsa_back (Some u) None (Some a) None = rw (of_m, of_e) refl
  rsa_back (Some u) None (Some a) (Some i) = rw (of_m, of_e) refl
  rsa_back (Some u) (Some o) None None = rw (of_m, of_e, texts_back o) refl
  rsa_back (Some u) (Some o) None (Some i) = rw (of_m, of_e, texts_back o) refl
  rsa_back (Some u) (Some o) (Some a) None = rw (of_m, of_e, texts_back o) refl
  rsa_back (Some u) (Some o) (Some a) (Some i) = rw (of_m, of_e, texts_back o) refl

pub key_back : (k : SeenRsaKey) → HasNumbers k → key_in (written_key k) ≡ Ok (Some k)
key_back k h = rsa_back k.modulus k.exponent h.modulus h.exponent k.purpose k.operations k.algorithm k.id

-- ---- sets

keys_back : (place : ℕ) (ks : List SeenRsaKey) → All HasNumbers ks
    → keys_from place (items_of (map written_key ks)) ≡ Ok ks
keys_back place [] all = refl
keys_back place (k ∷ ks) all =
    rw (key_back k (All-head HasNumbers k ks all), keys_back (place + 1) ks (All-tail HasNumbers k ks all)) refl

count_back : (ks : List SeenRsaKey) → count_of (items_of (map written_key ks)) ≡ length ks
count_back [] = refl
count_back (k ∷ ks) = ap (λ n. n + 1) (count_back ks) ∙ add-one (length ks)

not_above : (bound n : ℕ) → n ≤ bound → nat_lt bound n ≡ false
not_above bound n h = grind (arith, nat_tests)

pub set_back : (ks : List SeenRsaKey) → All HasNumbers ks → length ks ≤ 256 → set_in (written_set ks) ≡ Ok ks
unfolding set_in
set_back ks all few =
    rw (count_back ks) (rw (not_above 256 (length ks) few) (keys_back 0 ks all))

-- ---- names

-- no text is one of those behind it
abbrev differ : List (List ℕ) → Bool
differ [] = true
differ (x ∷ xs) = list_all (λ y. not (bytes_eq x y)) xs && differ xs

of_bool : (b : Bool) → b ≡ true → not b ≡ true → ⊥
of_bool true e f = cc
of_bool false e f = cc

apart : (x y : List ℕ) → not (bytes_eq x y) ≡ true → x ≢ y
apart x y e same = of_bool (bytes_eq x y) ((bytes_eq-Decides x y).1 same) e

both : (a b : Bool) → (a && b) ≡ true → (a ≡ true) × (b ≡ true)
both true b e = (refl, e)
both false b e = cc

differ_apart : (xs : List (List ℕ)) → differ xs ≡ true → AreDistinct xs
differ_apart [] e = λ i j d h g. absurd (omega arith)
differ_apart (x ∷ xs) e =
    let parts = both (list_all (λ y. not (bytes_eq x y)) xs) (differ xs) e in
    let passes = AllPass-from_list_all (λ y. not (bytes_eq x y)) xs parts.0 in
    AllPairs-cons (λ a b. a ≢ b) x xs (λ k d h. apart x (slice_index_or xs k d) (passes k d h)) (differ_apart xs parts.1)

module _ (m e : List ℕ) where
  names : (u : Option (List ℕ)) (o : Option (List (List ℕ))) (a i : Option (List ℕ))
      → differ (keys (members_of (key_members (key m e u o a i)))) ≡ true
  names None None None None = refl
  names None None None (Some i) = refl
  names None None (Some a) None = refl
  names None None (Some a) (Some i) = refl
  names None (Some o) None None = refl
  names None (Some o) None (Some i) = refl
  names None (Some o) (Some a) None = refl
  names None (Some o) (Some a) (Some i) = refl
  names (Some u) None None None = refl
  names (Some u) None None (Some i) = refl
  names (Some u) None (Some a) None = refl
  names (Some u) None (Some a) (Some i) = refl
  names (Some u) (Some o) None None = refl
  names (Some u) (Some o) None (Some i) = refl
  names (Some u) (Some o) (Some a) None = refl
  names (Some u) (Some o) (Some a) (Some i) = refl

-- ---- values

-- a fact holds of the value of each member
abbrev EachValue : (Json → Type 0) → List Named → Type 0
EachValue P [] = Unit {0}
EachValue P (m ∷ ms) = P m.1 × EachValue P ms

each_join : (P : Json → Type 0) (a b : List Named) → EachValue P a → EachValue P b → EachValue P (a ++ b)
each_join P [] b of_a of_b = of_b
each_join P (m ∷ a) b of_a of_b = (of_a.0, each_join P a b of_a.1 of_b)

-- a fact that holds of texts and of arrays of them holds of all values of a key
module _ (P : Json → Type 0) (of_text : (text : List ℕ) → P (string text)) (of_texts : (texts : List (List ℕ)) → P (texts_array texts)) where
  text_if : (name : KeyMember) (text : Option (List ℕ)) → EachValue P (text_member_if name text)
  text_if name None = tt
  text_if name (Some text) = (of_text text, tt)

  texts_if : (name : KeyMember) (texts : Option (List (List ℕ))) → EachValue P (texts_member_if name texts)
  texts_if name None = tt
  texts_if name (Some texts) = (of_texts texts, tt)

  each_of_key : (k : SeenRsaKey) → EachValue P (key_members k)
  each_of_key k =
      let kty = text_member named.Kty (codes "RSA") in
      let purpose = text_member_if named.Use k.purpose in
      let ops = texts_member_if named.KeyOps k.operations in
      let alg = text_member_if named.Alg k.algorithm in
      let id = text_member_if named.Kid k.id in
      let n = text_member named.N (encoded k.modulus) in
      let e = text_member named.E (encoded k.exponent) in
      let with_purpose = each_join P kty purpose (of_text (codes "RSA"), tt) (text_if named.Use k.purpose) in
      let with_ops = each_join P (kty ++ purpose) ops with_purpose (texts_if named.KeyOps k.operations) in
      let with_alg = each_join P (kty ++ purpose ++ ops) alg with_ops (text_if named.Alg k.algorithm) in
      let with_id = each_join P (kty ++ purpose ++ ops ++ alg) id with_alg (text_if named.Kid k.id) in
      let with_n = each_join P (kty ++ purpose ++ ops ++ alg ++ id) n with_id (of_text (encoded k.modulus), tt) in
      each_join P (kty ++ purpose ++ ops ++ alg ++ id ++ n) e with_n (of_text (encoded k.exponent), tt)

-- ---- names of a set, each once

members_unique : (ms : List Named) → EachValue HasUniqueKeys ms → MembersHaveUniqueKeys (members_of ms)
members_unique [] each = tt
members_unique (m ∷ ms) each = (each.0, members_unique ms each.1)

texts_unique : (texts : List (List ℕ)) → ItemsHaveUniqueKeys (items_of (map string texts))
texts_unique [] = tt
texts_unique (text ∷ texts) = (tt, texts_unique texts)

key_unique : (k : SeenRsaKey) → HasUniqueKeys (written_key k)
unfolding written_key
key_unique k = (
  differ_apart (keys (members_of (key_members k))) (names k.modulus k.exponent k.purpose k.operations k.algorithm k.id),
  members_unique (key_members k) (each_of_key HasUniqueKeys (λ text. tt) texts_unique k),
)

keys_unique : (ks : List SeenRsaKey) → ItemsHaveUniqueKeys (items_of (map written_key ks))
keys_unique [] = tt
keys_unique (k ∷ ks) = (key_unique k, keys_unique ks)

pub set_unique : (ks : List SeenRsaKey) → HasUniqueKeys (written_set ks)
set_unique ks = (differ_apart (codes "keys" ∷ []) refl, (keys_unique ks, tt))

-- ---- no numbers stand in a set

members_numbers : (ms : List Named) → EachValue tree.HasNumbers ms → tree.MembersHaveNumbers (members_of ms)
members_numbers [] each = tt
members_numbers (m ∷ ms) each = (each.0, members_numbers ms each.1)

texts_numbers : (texts : List (List ℕ)) → tree.ItemsHaveNumbers (items_of (map string texts))
texts_numbers [] = tt
texts_numbers (text ∷ texts) = (tt, texts_numbers texts)

key_numbers : (k : SeenRsaKey) → tree.HasNumbers (written_key k)
unfolding written_key
key_numbers k = members_numbers (key_members k) (each_of_key tree.HasNumbers (λ text. tt) texts_numbers k)

keys_numbers : (ks : List SeenRsaKey) → tree.ItemsHaveNumbers (items_of (map written_key ks))
keys_numbers [] = tt
keys_numbers (k ∷ ks) = (key_numbers k, keys_numbers ks)

pub set_numbers : (ks : List SeenRsaKey) → tree.HasNumbers (written_set ks)
set_numbers ks = (keys_numbers ks, tt)

-- ---- how deep a set nests

members_depth : (n : ℕ) (ms : List Named) → EachValue (λ j. tree.depth j ≤ n) ms → tree.members_depth (members_of ms) ≤ n
members_depth n [] each = omega arith
members_depth n (m ∷ ms) each = let here = each.0 in let rest = members_depth n ms each.1 in omega arith

texts_depth : (texts : List (List ℕ)) → tree.items_depth (items_of (map string texts)) ≤ 0
texts_depth [] = omega arith
texts_depth (text ∷ texts) = let rest = texts_depth texts in omega arith

array_depth : (texts : List (List ℕ)) → tree.depth (texts_array texts) ≤ 1
array_depth texts = let all = texts_depth texts in omega arith

key_depth : (k : SeenRsaKey) → tree.depth (written_key k) ≤ 2
unfolding written_key
key_depth k =
    let each = each_of_key (λ j. tree.depth j ≤ 1) (λ text. omega arith) array_depth k in
    let all = members_depth 1 (key_members k) each in
    omega arith

keys_depth : (ks : List SeenRsaKey) → tree.items_depth (items_of (map written_key ks)) ≤ 2
keys_depth [] = omega arith
keys_depth (k ∷ ks) = let here = key_depth k in let rest = keys_depth ks in omega arith

pub set_depth : (ks : List SeenRsaKey) → tree.depth (written_set ks) ≤ max_depth
set_depth ks = let all = keys_depth ks in omega arith
