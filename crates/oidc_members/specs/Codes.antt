-- How the logic stores JSON data and members, so that a model may hold them. No clause speaks of it: a code
-- comes with the proof that values stored alike are the same, which is why that proof stands here.
use Rattle.std.specs.Prelude.{◌≡◌, ◌⊎◌, ℕ, ℤ, Bool, List, false, Float, refl, ◌==◌}
use Rattle.std.specs.Coded.{Coded, code_by, coded_ℕ, coded_ℤ, coded_bool, coded_list, coded⊎, coded×}
use Rattle.std.proofs.Common.{ap, inl, inr, arith}
use base.Stored.{Gv, gnil, gnum, gcons, coded_float}
use Rattle.serde_json.specs.Data.{Num, unsigned, negative, float, Data, null, boolean, number, string, array, object, Items, no_items, item, Members, no_members, member}
use Rattle.oidc_members.specs.declared.reading.Reading.{Reading}
use Rattle.oidc_members.specs.Seen.{SeenMember, SeenMembers, OutSeen}

-- ---- numbers

abbrev num_cases : Num → ℕ ⊎ (ℤ ⊎ Float)
num_cases (unsigned n) = inl n
num_cases (negative z) = inr (inl z)
num_cases (float x) = inr (inr x)

abbrev num_from : ℕ ⊎ (ℤ ⊎ Float) → Num
num_from (inl n) = unsigned n
num_from (inr (inl z)) = negative z
num_from (inr (inr x)) = float x

pub num_back : (n : Num) → num_from (num_cases n) ≡ n
num_back (unsigned n) = refl
num_back (negative z) = refl
num_back (float x) = refl

abbrev pub num_code : Coded Num
num_code = code_by (ℕ ⊎ (ℤ ⊎ Float)) (coded⊎ coded_ℕ (coded⊎ coded_ℤ coded_float)) num_cases num_from num_back

-- ---- values: a tag, and what it holds

abbrev pub text_code : Coded (List ℕ)
text_code = coded_list coded_ℕ

abbrev mutual
  pub stored : Data → Gv
  stored null = gcons (gnum 0) gnil
  stored (boolean b) = gcons (gnum 1) (coded_bool.code b)
  stored (number n) = gcons (gnum 2) (num_code.code n)
  stored (string s) = gcons (gnum 3) (text_code.code s)
  stored (array ds) = gcons (gnum 4) (items_stored ds)
  stored (object ms) = gcons (gnum 5) (members_stored ms)

  pub items_stored : Items → Gv
  items_stored no_items = gnil
  items_stored (item d ds) = gcons (stored d) (items_stored ds)

  pub members_stored : Members → Gv
  members_stored no_members = gnil
  members_stored (member k d ms) = gcons (gcons (text_code.code k) (stored d)) (members_stored ms)

abbrev head : Gv → Gv
head (gcons a b) = a
head g = gnil

abbrev tail : Gv → Gv
tail (gcons a b) = b
tail g = gnil

abbrev number_in : Gv → ℕ
number_in (gnum n) = n
number_in g = 0

abbrev is_pair : Gv → ℕ
is_pair (gcons a b) = 1
is_pair g = 0

abbrev tag : Gv → ℕ
tag g = number_in (head g)

apart : (m n : ℕ) → (m == n) ≡ false → m ≡ n → ⊥
apart m n differ same = Prim.grind (arith, differ, same)

mutual
  pub same_data : (x y : Data) → stored x ≡ stored y → x ≡ y
  same_data null null p = refl
  same_data (boolean a) (boolean b) p = ap boolean (coded_bool.inj a b (ap tail p))
  same_data (number a) (number b) p = ap number (num_code.inj a b (ap tail p))
  same_data (string a) (string b) p = ap string (text_code.inj a b (ap tail p))
  same_data (array a) (array b) p = ap array (same_items a b (ap tail p))
  same_data (object a) (object b) p = ap object (same_members a b (ap tail p))
  same_data x y p = absurd (apart (tag (stored x)) (tag (stored y)) refl (ap tag p))

  same_items : (x y : Items) → items_stored x ≡ items_stored y → x ≡ y
  same_items no_items no_items p = refl
  same_items (item a as_) (item b bs) p = λ i. item (same_data a b (ap head p) i) (same_items as_ bs (ap tail p) i)
  same_items x y p = absurd (apart (is_pair (items_stored x)) (is_pair (items_stored y)) refl (ap is_pair p))

  same_members : (x y : Members) → members_stored x ≡ members_stored y → x ≡ y
  same_members no_members no_members p = refl
  same_members (member k a ms) (member l b ns) p =
      λ i. member (text_code.inj k l (ap (λ g. head (head g)) p) i)
      (same_data a b (ap (λ g. tail (head g)) p) i) (same_members ms ns (ap tail p) i)
  same_members x y p = absurd (apart (is_pair (members_stored x)) (is_pair (members_stored y)) refl (ap is_pair p))

abbrev pub data_code : Coded Data
data_code = record { code = stored; inj = same_data }

-- ---- members: the tuple of their fields

abbrev pub seen_member_code : Coded SeenMember
seen_member_code =
    code_by (List ℕ × (Data × List ℕ)) (coded× text_code (coded× data_code text_code))
    (λ m. (m.name, (m.value, m.text))) (λ p. record { name = p.0; value = p.1.0; text = p.1.1 }) (λ _. refl)

abbrev pub reading_code : Coded Reading
reading_code =
    code_by (Bool × Bool) (coded× coded_bool coded_bool)
    (λ r. (r.string_booleans, r.rfc3339_moments)) (λ p. record { string_booleans = p.0; rfc3339_moments = p.1 }) (λ _. refl)

abbrev pub seen_members_code : Coded SeenMembers
seen_members_code =
    code_by (List SeenMember × Reading) (coded× (coded_list seen_member_code) reading_code)
    (λ o. (o.list, o.reading)) (λ p. record { list = p.0; reading = p.1 }) (λ _. refl)

abbrev pub out_seen_code : Coded OutSeen
out_seen_code =
    code_by (List ℕ × Data) (coded× text_code data_code)
    (λ m. (m.name, m.value)) (λ p. record { name = p.0; value = p.1 }) (λ _. refl)
