-- When two JSON values are the same.
use Rattle.std.specs.Prelude.{List, [], ◌∷◌, Bool, true, false, ◌&&◌, ◌==◌}
use Rattle.std.specs.Ordering.{int_eq}
use Rattle.std.specs.Bool.{beq}
use Rattle.std.specs.Str.{bytes_eq}
use Rattle.serde_json.specs.Data.{Num, unsigned, negative, Data, null, boolean, number, string, array, object, Items, no_items, item, Members, no_members, member}
use Rattle.oidc_members.specs.Seen.{OutSeen}
use Rattle.std.proofs.Common.{◌≡◌, ℕ, refl, sym, ap, ◌∙◌}
use Rattle.std.proofs.lemmas.Bool.{and_parts, eqb-true, false≢true}
use Rattle.std.proofs.lemmas.Slice.Eq.{bytes_eq-Decides}
use Rattle.std.specs.Cmp.{IsPartialEquivalence, signed_Decides}

-- no two floats are the same, nor is one the same as itself
abbrev pub same_number : Num → Num → Bool
same_number (unsigned m) (unsigned n) = m == n
same_number (negative x) (negative y) = int_eq x y
same_number x y = false

abbrev mutual
  pub same_data : Data → Data → Bool
  same_data null null = true
  same_data (boolean a) (boolean b) = beq a b
  same_data (number a) (number b) = same_number a b
  same_data (string a) (string b) = bytes_eq a b
  same_data (array a) (array b) = same_items a b
  same_data (object a) (object b) = same_members a b
  same_data a b = false

  pub same_items : Items → Items → Bool
  same_items no_items no_items = true
  same_items (item a as_) (item b bs) = same_data a b && same_items as_ bs
  same_items a b = false

  pub same_members : Members → Members → Bool
  same_members no_members no_members = true
  same_members (member k a ms) (member l b ns) = bytes_eq k l && same_data a b && same_members ms ns
  same_members a b = false

abbrev pub same_list : List OutSeen → List OutSeen → Bool
same_list [] [] = true
same_list (m ∷ ms) (n ∷ ns) = bytes_eq m.name n.name && same_data m.value n.value && same_list ms ns
same_list ms ns = false

-- ---- for the laws of `==`: values that are the same are equal

no : {P : Type 0} → false ≡ true → P
no p = absurd (false≢true p)

bools : (a b : Bool) → beq a b ≡ true → a ≡ b
bools true true p = refl
bools true false p = no p
bools false true p = no p
bools false false p = refl

texts : (k l : List ℕ) → bytes_eq k l ≡ true → k ≡ l
texts k l = (bytes_eq-Decides k l).0

numbers : (m n : Num) → same_number m n ≡ true → m ≡ n
numbers (unsigned m) (unsigned n) p = ap unsigned (eqb-true m n p)
numbers (negative x) (negative y) p = ap negative ((signed_Decides x y).0 p)
numbers m n p = no p

mutual
  pub data_sound : (a b : Data) → same_data a b ≡ true → a ≡ b
  data_sound null null p = refl
  data_sound (boolean a) (boolean b) p = ap boolean (bools a b p)
  data_sound (number a) (number b) p = ap number (numbers a b p)
  data_sound (string a) (string b) p = ap string (texts a b p)
  data_sound (array a) (array b) p = ap array (items_sound a b p)
  data_sound (object a) (object b) p = ap object (members_sound a b p)
  data_sound a b p = no p

  items_sound : (a b : Items) → same_items a b ≡ true → a ≡ b
  items_sound no_items no_items p = refl
  items_sound (item a as_) (item b bs) p =
      let parts = and_parts (same_data a b) (same_items as_ bs) p in
      λ i. item (data_sound a b parts.0 i) (items_sound as_ bs parts.1 i)
  items_sound a b p = no p

  members_sound : (a b : Members) → same_members a b ≡ true → a ≡ b
  members_sound no_members no_members p = refl
  members_sound (member k a ms) (member l b ns) p =
      let parts = and_parts (bytes_eq k l && same_data a b) (same_members ms ns) p in
      let front = and_parts (bytes_eq k l) (same_data a b) parts.0 in
      λ i. member (texts k l front.0 i) (data_sound a b front.1 i) (members_sound ms ns parts.1 i)
  members_sound a b p = no p

pub list_sound : (a b : List OutSeen) → same_list a b ≡ true → a ≡ b
list_sound [] [] p = refl
list_sound (m ∷ ms) (n ∷ ns) p =
    let parts = and_parts (bytes_eq m.name n.name && same_data m.value n.value) (same_list ms ns) p in
    let front = and_parts (bytes_eq m.name n.name) (same_data m.value n.value) parts.0 in
    λ i. record { name = texts m.name n.name front.0 i; value = data_sound m.value n.value front.1 i } ∷ list_sound ms ns parts.1 i
list_sound [] (n ∷ ns) p = no p
list_sound (m ∷ ms) [] p = no p

-- a test that is true of equal values alone is symmetric and transitive
module _ {K : Type 0} (E : K → K → Bool) (sound : (x y : K) → E x y ≡ true → x ≡ y) where
  turned : (x y : K) (b c : Bool) → E x y ≡ b → E y x ≡ c → b ≡ c
  turned x y true true p q = refl
  turned x y false false p q = refl
  turned x y true false p q = sym p ∙ (λ i. E (sound x y p i) (sym (sound x y p) i)) ∙ q
  turned x y false true p q = sym p ∙ (λ i. E (sym (sound y x q) i) (sound y x q i)) ∙ q

  pub partly_equal : IsPartialEquivalence E
  partly_equal = record {
    symm = λ x y. turned x y (E x y) (E y x) refl refl;
    trans = λ x y z p q. ap (λ w. E w z) (sound x y p) ∙ q;
  }
