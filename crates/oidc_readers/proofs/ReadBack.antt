-- A value's compact text is read as the value.
use Rattle.std.proofs.Common.{◌≡◌, ℕ, suc, ◌<◌, ◌≤◌, max, Bool, true, false, pos, negsuc, eqb, List, [], ◌∷◌, ◌++◌, drop, get_or, Some, option_map, option_and_then, Less, Greater, nat_cmp, cond, decimal, refl, sym, ap, ◌∙◌, subst, arith, append-nil}
use Rattle.std.specs.Cmp.Lexicographic.{slice_cmp}
use Rattle.std.specs.List.{AllByRecursion}
use Rattle.std.specs.List.Sorted.{IsStrictlySortedBy}
use Rattle.std.specs.Ordering.{ordering_reverse}
use Rattle.std.specs.Str.{IsUtf8}
use Rattle.std.proofs.lemmas.Bool.{or_from, ne_eqb}
use Rattle.std.proofs.lemmas.Cmp.{nat_list_cmp_total}
use Rattle.std.proofs.lemmas.Fmt.{IsAscii-decimal, first_decimal}
use Rattle.std.proofs.lemmas.Str.{IsUtf8-append, IsUtf8-from_ascii}
use Rattle.json.specs.Json as json
use Rattle.json.specs.Tree as tree
use Rattle.json.specs.Lex.{tokens}
use Rattle.json.specs.Print.{IsNumber, quoted}
use Rattle.json.specs.Word.{head, after_whole, after_fraction, after_exponent, after_number}
use Rattle.json.proofs.Printed.Tokens.{tokens-print}
use Rattle.json.proofs.Printed.Trees.{value-json_tokens, ArePrintable-json_tokens}
use Rattle.json.proofs.Printed.Decimals.{IsNumber-decimal}
use Rattle.json.proofs.Printed.Utf8.{IsUtf8-quoted, IsUtf8-are_ascii}
use Rattle.serde_json.specs.Data.{Num, unsigned, negative, float, Data, null, boolean, number, string, array, object, Items, no_items, item, Members, no_members, member, put, depth, items_depth, members_depth}
use Rattle.serde_json.specs.Find.{is_float}
use Rattle.serde_json.specs.Read.{number_of, of_json, of_items, of_members, read, max_depth}
use Rattle.serde_json.specs.Written.{number_text, outline, items_outline, members_outline, has_float, items_have_float, members_have_float, comma_if, compact_text, items_text, members_text}
use Rattle.serde_json.proofs.Numbers.{number_of-decimal, number_of-negative}
use Rattle.serde_json.proofs.Texts.{print-outline}
use Rattle.oidc_members.specs.Objects.{read_bytes}
use Rattle.oidc_members.proofs.Theorems.{value_read}
use Rattle.oidc_readers.specs.WrittenBack.{IsWholeNumber, names_of, AreInOrder}
use Rattle.oidc_readers.proofs.JsonValues.{IsJsonValue, ItemsAreJson, MembersAreJson}

-- ---- no float

whole_number : (n : Num) → IsWholeNumber n → is_float n ≡ false
whole_number (unsigned n) h = refl
whole_number (negative z) h = refl
whole_number (float x) h = absurd h

mutual
  pub no_float : (d : Data) → IsJsonValue d → has_float d ≡ false
  no_float null h = refl
  no_float (boolean b) h = refl
  no_float (number n) h = whole_number n h
  no_float (string s) h = refl
  no_float (array ds) h = items_no_float ds h
  no_float (object ms) h = members_no_float ms h.1

  items_no_float : (ds : Items) → ItemsAreJson ds → items_have_float ds ≡ false
  items_no_float no_items h = refl
  items_no_float (item d ds) h = or_from (has_float d) _ (no_float d h.0) (items_no_float ds h.1)

  members_no_float : (ms : Members) → MembersAreJson ms → members_have_float ms ≡ false
  members_no_float no_members h = refl
  members_no_float (member k d ms) h = or_from (has_float d) _ (no_float d h.1) (members_no_float ms h.2)

-- ---- members that go in one after another, in order

abbrev join : Members → Members → Members
join no_members ms = ms
join (member k d found) ms = member k d (join found ms)

join_none : (found : Members) → join found no_members ≡ found
join_none no_members = refl
join_none (member k d found) = ap (member k d) (join_none found)

join_more : (found : Members) (k : List ℕ) (d : Data) (ms : Members) → join (join found (member k d no_members)) ms ≡ join found (member k d ms)
join_more no_members k d ms = refl
join_more (member l e found) k d ms = ap (member l e) (join_more found k d ms)

below_middle : (l : List ℕ) (found : Members) (k : List ℕ) (d : Data) (ms : Members) → AllByRecursion (λ y. slice_cmp nat_cmp l y ≡ Less) (names_of (join found (member k d ms))) → slice_cmp nat_cmp l k ≡ Less
below_middle l no_members k d ms h = h.0
below_middle l (member m e found) k d ms h = below_middle l found k d ms h.1

put_last : (found : Members) (k : List ℕ) (d : Data) (ms : Members) → AreInOrder (join found (member k d ms)) → put k d found ≡ join found (member k d no_members)
unfolding IsStrictlySortedBy
put_last no_members k d ms h = refl
put_last (member l e found) k d ms h =
    let above : slice_cmp nat_cmp k l ≡ Greater = nat_list_cmp_total.antisymm k l ∙ ap ordering_reverse (below_middle l found k d ms h.0) in
    rw above (ap (member l e) (put_last found k d ms h.1))

-- ---- the tree of a value is read as the value

number_back : (n : Num) → IsWholeNumber n → number_of (number_text n) ≡ Some n
number_back (unsigned n) h = number_of-decimal n h
number_back (negative (pos n)) h = absurd h
number_back (negative (negsuc n)) h = number_of-negative n h
number_back (float x) h = absurd h

mutual
  tree_back : (d : Data) → IsJsonValue d → of_json (outline d) ≡ Some d
  tree_back null h = refl
  tree_back (boolean b) h = refl
  tree_back (number n) h = ap (option_map number) (number_back n h)
  tree_back (string s) h = refl
  tree_back (array ds) h = ap (option_map array) (items_back ds h)
  tree_back (object ms) h = ap (option_map object) (members_back ms no_members h.1 h.0)

  items_back : (ds : Items) → ItemsAreJson ds → of_items (items_outline ds) ≡ Some ds
  items_back no_items h = refl
  items_back (item d ds) h = ap (option_and_then (λ e. option_map (item e) (of_items (items_outline ds)))) (tree_back d h.0) ∙ ap (option_map (item d)) (items_back ds h.1)

  members_back : (ms found : Members) → MembersAreJson ms → AreInOrder (join found ms) → of_members (members_outline ms) found ≡ Some (join found ms)
  members_back no_members found h order = ap Some (sym (join_none found))
  members_back (member k d ms) found h order =
      ap (option_and_then (λ e. of_members (members_outline ms) (put k e found))) (tree_back d h.1)
      ∙ ap (of_members (members_outline ms)) (put_last found k d ms order)
      ∙ members_back ms (join found (member k d no_members)) h.2 (subst AreInOrder (sym (join_more found k d ms)) order)
      ∙ ap Some (join_more found k d ms)

mutual
  tree_depth : (d : Data) → tree.depth (outline d) ≡ depth d
  tree_depth null = refl
  tree_depth (boolean b) = refl
  tree_depth (number n) = refl
  tree_depth (string s) = refl
  tree_depth (array ds) = λ j. suc (items_tree_depth ds j)
  tree_depth (object ms) = λ j. suc (members_tree_depth ms j)

  items_tree_depth : (ds : Items) → tree.items_depth (items_outline ds) ≡ items_depth ds
  items_tree_depth no_items = refl
  items_tree_depth (item d ds) = λ j. max (tree_depth d j) (items_tree_depth ds j)

  members_tree_depth : (ms : Members) → tree.members_depth (members_outline ms) ≡ members_depth ms
  members_tree_depth no_members = refl
  members_tree_depth (member k d ms) = λ j. max (tree_depth d j) (members_tree_depth ms j)

-- ---- the text has the tree's tokens

first_digit : (ds : List ℕ) → 48 < get_or ds 0 0 → eqb (head ds) 45 ≡ false
first_digit [] h = absurd (omega arith)
first_digit (d ∷ ds) h = ne_eqb d 45 (λ e. omega arith)

-- a minus may stand before a number's digits
minus_prints : (ds : List ℕ) → 48 < get_or ds 0 0 → IsNumber ds → IsNumber (45 ∷ ds)
unfolding after_number
minus_prints ds first h = ap (λ b. option_and_then after_exponent (option_and_then after_fraction (after_whole (cond b (drop 1 ds) ds)))) (sym (first_digit ds first)) ∙ h

number_prints : (n : Num) → IsWholeNumber n → tree.HasNumbers (json.number (number_text n))
number_prints (unsigned n) h = IsNumber-decimal n h
number_prints (negative (pos n)) h = absurd h
number_prints (negative (negsuc n)) h = minus_prints (decimal (suc n)) (first_decimal (suc n) (omega arith) (omega arith)) (IsNumber-decimal (suc n) (omega arith))
number_prints (float x) h = absurd h

mutual
  has_numbers : (d : Data) → IsJsonValue d → tree.HasNumbers (outline d)
  has_numbers null h = tt
  has_numbers (boolean b) h = tt
  has_numbers (number n) h = number_prints n h
  has_numbers (string s) h = tt
  has_numbers (array ds) h = items_have_numbers ds h
  has_numbers (object ms) h = members_have_numbers ms h.1

  items_have_numbers : (ds : Items) → ItemsAreJson ds → tree.ItemsHaveNumbers (items_outline ds)
  items_have_numbers no_items h = tt
  items_have_numbers (item d ds) h = (has_numbers d h.0, items_have_numbers ds h.1)

  members_have_numbers : (ms : Members) → MembersAreJson ms → tree.MembersHaveNumbers (members_outline ms)
  members_have_numbers no_members h = tt
  members_have_numbers (member k d ms) h = (has_numbers d h.1, members_have_numbers ms h.2)

tokens_back : (d : Data) → IsJsonValue d → tokens (compact_text d) ≡ tree.json_tokens (outline d)
tokens_back d h = ap tokens (sym (print-outline d)) ∙ tokens-print (tree.json_tokens (outline d)) (ArePrintable-json_tokens (outline d) (has_numbers d h))

pub value_back : (d : Data) → IsJsonValue d → depth d ≤ max_depth → read (compact_text d) ≡ Some d
value_back d h shallow =
    ap (λ ts. option_and_then of_json (option_and_then (λ p. json.if_last p.0 p.1) (json.value max_depth ts))) (tokens_back d h ∙ sym (append-nil (tree.json_tokens (outline d))))
    ∙ ap (λ o. option_and_then of_json (option_and_then (λ p. json.if_last p.0 p.1) o)) (value-json_tokens (outline d) max_depth [] (omega (arith, tree_depth d)))
    ∙ tree_back d h

-- ---- the text is UTF-8

number_utf8 : (n : Num) → IsWholeNumber n → IsUtf8 (number_text n)
number_utf8 (unsigned n) h = IsUtf8-from_ascii (decimal n) (IsAscii-decimal n h)
number_utf8 (negative (pos n)) h = absurd h
number_utf8 (negative (negsuc n)) h = IsUtf8-append (45 ∷ []) (decimal (suc n)) (IsUtf8-are_ascii (45 ∷ []) refl) (IsUtf8-from_ascii (decimal (suc n)) (IsAscii-decimal (suc n) (omega arith)))
number_utf8 (float x) h = absurd h

comma_utf8 : (later : Bool) → IsUtf8 (comma_if later)
comma_utf8 true = IsUtf8-are_ascii (44 ∷ []) refl
comma_utf8 false = IsUtf8-are_ascii [] refl

after_ascii : (b : ℕ) (ys : List ℕ) → IsUtf8 (b ∷ []) → IsUtf8 ys → IsUtf8 (b ∷ ys)
after_ascii b ys one h = IsUtf8-append (b ∷ []) ys one h

mutual
  pub text_utf8 : (d : Data) → IsJsonValue d → IsUtf8 (compact_text d)
  text_utf8 null h = IsUtf8-are_ascii (compact_text null) refl
  text_utf8 (boolean true) h = IsUtf8-are_ascii (compact_text (boolean true)) refl
  text_utf8 (boolean false) h = IsUtf8-are_ascii (compact_text (boolean false)) refl
  text_utf8 (number n) h = number_utf8 n h
  text_utf8 (string s) h = IsUtf8-quoted s h
  text_utf8 (array ds) h = after_ascii 91 (items_text false ds) (IsUtf8-are_ascii (91 ∷ []) refl) (items_utf8 false ds h)
  text_utf8 (object ms) h = after_ascii 123 (members_text false ms) (IsUtf8-are_ascii (123 ∷ []) refl) (members_utf8 false ms h.1)

  items_utf8 : (later : Bool) (ds : Items) → ItemsAreJson ds → IsUtf8 (items_text later ds)
  items_utf8 later no_items h = IsUtf8-are_ascii (93 ∷ []) refl
  items_utf8 later (item d ds) h = IsUtf8-append (comma_if later) _ (comma_utf8 later) (IsUtf8-append (compact_text d) _ (text_utf8 d h.0) (items_utf8 true ds h.1))

  members_utf8 : (later : Bool) (ms : Members) → MembersAreJson ms → IsUtf8 (members_text later ms)
  members_utf8 later no_members h = IsUtf8-are_ascii (125 ∷ []) refl
  members_utf8 later (member k d ms) h =
      IsUtf8-append (comma_if later) _ (comma_utf8 later)
      (IsUtf8-append (quoted k) _ (IsUtf8-quoted k h.0)
      (after_ascii 58 (compact_text d ++ members_text true ms) (IsUtf8-are_ascii (58 ∷ []) refl)
      (IsUtf8-append (compact_text d) _ (text_utf8 d h.1) (members_utf8 true ms h.2))))

pub bytes_back : (d : Data) → IsJsonValue d → depth d ≤ max_depth → read_bytes (compact_text d) ≡ Some d
bytes_back d h shallow = value_read (compact_text d) d (text_utf8 d h) (value_back d h shallow)
