-- Lists of places, cut where a test passes.
use Rattle.std.proofs.Common.{◌≡◌, ℕ, zero, suc, ◌+◌, ◌-◌, ◌<◌, ◌≤◌, Bool, true, false, ◌&&◌, List, [], ◌∷◌, ◌++◌, length, take, drop, get_or, map, Option, Some, None, option_map, refl, sym, ap, ◌∙◌, arith, add-one, append_assoc, drop-cons}
use Rattle.std.proofs.lemmas.List.{map-append}
use Rattle.std.specs.List.{range_with_len, All, list_all, list_any, slice_split, before_first, after_first, position_or_len, slice_range}
use Rattle.std.proofs.Math.Seq.{take-append_seam, drop-append-add}
use Rattle.std.proofs.lemmas.List.Sums.{position_or_len_is}
use Rattle.std.proofs.lemmas.List.Splits.{slice_split_at, slice_split_none}
use Rattle.std.proofs.lemmas.List.Folds.{list_all-append, list_any_none, list_any_at, list_all_at}
use Rattle.std.proofs.lemmas.List.FromFn.{length-range_with_len, get_or-range_with_len}
use Rattle.oidc_members.specs.Places.{places, colon, is_at_level_one}
use Rattle.oidc_members.specs.Objects.{bytes_at, halves}
use Rattle.oidc_members.specs.Cut.{IsFirst}
use Rattle.oidc_members.proofs.Steps.{places_more}

pub length_places : (a b : ℕ) → length (places a b) ≡ b - a
length_places a b = length-range_with_len a (b - a)

pub place_at : (a b k d : ℕ) → k < b - a → get_or (places a b) k d ≡ a + k
place_at a b k d lt = get_or-range_with_len a (b - a) k d lt

pub places_cons : (i b : ℕ) → i < b → places i b ≡ i ∷ places (i + 1) b
places_cons i b lt =
    let one : b - i ≡ suc (b - (i + 1)) = omega arith in ap (range_with_len i) one

range_split : (a m n : ℕ) → range_with_len a (m + n) ≡ range_with_len a m ++ range_with_len (a + m) n
range_split a zero n =
    let count : 0 + n ≡ n = omega arith in
    let from : a + 0 ≡ a = omega arith in
    ap (range_with_len a) count ∙ ap (λ k. range_with_len k n) (sym from)
range_split a (suc m) n =
    let count : suc m + n ≡ suc (m + n) = omega arith in
    let from : (a + 1) + m ≡ a + suc m = omega arith in
    ap (range_with_len a) count ∙ ap (λ xs. a ∷ xs) (range_split (a + 1) m n ∙ ap (λ k. range_with_len (a + 1) m ++ range_with_len k n) from)

pub places_at : (a i b : ℕ) → a ≤ i → i ≤ b → places a b ≡ places a i ++ places i b
places_at a i b low high =
    let count : b - a ≡ (i - a) + (b - i) = omega arith in
    let from : a + (i - a) ≡ i = omega arith in
    ap (range_with_len a) count ∙ range_split a (i - a) (b - i) ∙ ap (λ k. places a i ++ range_with_len k (b - i)) from

pub all_places : (p : ℕ → Bool) (b : Bool) (i j : ℕ) → ((k : ℕ) → i ≤ k → k < j → p k ≡ b) → All (λ k. p k ≡ b) (places i j)
all_places p b i j each k d lt =
    let within : k < j - i = omega (arith, length_places i j) in
    rw (place_at i j k d within) (each (i + k) (omega arith) (omega arith))

-- the first part ends at the first place that passes
pub split_cut : (p : ℕ → Bool) (a i b : ℕ) → a ≤ i → i < b → ((k : ℕ) → a ≤ k → k < i → p k ≡ false) → p i ≡ true
    → slice_split p (places a b) ≡ places a i ∷ slice_split p (places (i + 1) b)
split_cut p a i b low high uncut cut =
    let at : places a b ≡ places a i ++ i ∷ places (i + 1) b = places_at a i b low (omega arith) ∙ ap (λ xs. places a i ++ xs) (places_cons i b high) in
    ap (slice_split p) at ∙ slice_split_at p (places a i) i (places (i + 1) b) (all_places p false a i uncut) cut

pub split_uncut : (p : ℕ → Bool) (a b : ℕ) → ((k : ℕ) → a ≤ k → k < b → p k ≡ false) → slice_split p (places a b) ≡ places a b ∷ []
split_uncut p a b uncut = slice_split_none p (places a b) (all_places p false a b uncut)

-- a test of every place, one place on
pub all_more : (p : ℕ → Bool) (a i : ℕ) → a ≤ i → list_all p (places a (i + 1)) ≡ (list_all p (places a i) && p i)
all_more p a i low = ap (list_all p) (places_more a i low) ∙ list_all-append p (places a i) (i ∷ []) ∙ ap (λ b. list_all p (places a i) && b) (alone (p i))
  where
    alone : (b : Bool) → (b && true) ≡ b
    alone true = refl
    alone false = refl

pub all_fails : (p : ℕ → Bool) (a i b : ℕ) → a ≤ i → i < b → p i ≡ false → list_all p (places a b) ≡ false
all_fails p a i b low high fails =
    let within : i - a < b - a = omega arith in
    let place : a + (i - a) ≡ i = omega arith in
    list_all_at p (places a b) (i - a) 0 (omega (arith, length_places a b)) (rw (place_at a b (i - a) 0 within, place) fails)

-- the first place that passes
first_place : (p : ℕ → Bool) (a c b : ℕ) → a ≤ c → c < b → ((k : ℕ) → a ≤ k → k < c → p k ≡ false) → p c ≡ true
    → position_or_len p (places a b) ≡ c - a
first_place p a c b low high before here =
    position_or_len_is p (places a b) (c - a) 0 (omega (arith, length_places a b))
    (λ k lt. let within : k < b - a = omega arith in rw (place_at a b k 0 within) (before (a + k) (omega arith) (omega arith)))
    (λ lt. let within : c - a < b - a = omega arith in let place : a + (c - a) ≡ c = omega arith in rw (place_at a b (c - a) 0 within, place) here)

pub before_place : (p : ℕ → Bool) (a c b : ℕ) → a ≤ c → c < b → ((k : ℕ) → a ≤ k → k < c → p k ≡ false) → p c ≡ true
    → before_first p (places a b) ≡ places a c
before_place p a c b low high before here =
    let front : c - a ≡ length (places a c) = sym (length_places a c) in
    ap (λ n. take n (places a b)) (first_place p a c b low high before here ∙ front)
    ∙ ap (take (length (places a c))) (places_at a c b low (omega arith))
    ∙ take-append_seam (places a c) (places c b)

pub after_place : (p : ℕ → Bool) (a c b : ℕ) → a ≤ c → c < b → ((k : ℕ) → a ≤ k → k < c → p k ≡ false) → p c ≡ true
    → after_first p (places a b) ≡ places (c + 1) b
after_place p a c b low high before here =
    let front : c - a ≡ length (places a c) = sym (length_places a c) in
    ap (λ n. drop (n + 1) (places a b)) (first_place p a c b low high before here ∙ front)
    ∙ ap (drop (length (places a c) + 1)) (places_at a c b low (omega arith))
    ∙ drop-append-add (places a c) (places c b) 1
    ∙ ap (drop 1) (places_cons c b high)

bytes_of_range : (xs : List ℕ) (a n : ℕ) → a + n ≤ length xs → map (λ i. get_or xs i 0) (range_with_len a n) ≡ take n (drop a xs)
bytes_of_range xs a zero fits = refl
bytes_of_range xs a (suc n) fits =
    let here : drop a xs ≡ get_or xs a 0 ∷ drop (suc a) xs = drop-cons xs a 0 (omega arith) in
    let next : drop (a + 1) xs ≡ drop (suc a) xs = ap (λ k. drop k xs) (add-one a) in
    ap (λ ys. get_or xs a 0 ∷ ys) (bytes_of_range xs (a + 1) n (omega arith) ∙ ap (take n) next) ∙ ap (take (suc n)) (sym here)

pub bytes_of_places : (xs : List ℕ) (a b : ℕ) → a ≤ b → b ≤ length xs → bytes_at xs (places a b) ≡ slice_range xs a b
bytes_of_places xs a b low high = bytes_of_range xs a (b - a) (omega arith)

-- an item is cut at its first colon
pub halves_cut : (xs : List ℕ) (a c b : ℕ) → a ≤ c → c < b → b ≤ length xs
    → ((k : ℕ) → a ≤ k → k < c → is_at_level_one xs colon k ≡ false) → is_at_level_one xs colon c ≡ true
    → halves xs (places a b) ≡ Some (slice_range xs a c, slice_range xs (c + 1) b)
unfolding halves
halves_cut xs a c b low high fits before here =
    let p : ℕ → Bool = is_at_level_one xs colon in
    let within : c - a < b - a = omega arith in
    let place : a + (c - a) ≡ c = omega arith in
    let any : list_any p (places a b) ≡ true = list_any_at p (places a b) (c - a) 0 (omega (arith, length_places a b)) (rw (place_at a b (c - a) 0 within, place) here) in
    rw (any, before_place p a c b low high before here, after_place p a c b low high before here)
    (ap Some (λ i. (bytes_of_places xs a c low (omega arith) i, bytes_of_places xs (c + 1) b (omega arith) fits i)))

pub halves_uncut : (xs : List ℕ) (a b : ℕ) → ((k : ℕ) → a ≤ k → k < b → is_at_level_one xs colon k ≡ false) → halves xs (places a b) ≡ None
unfolding halves
halves_uncut xs a b uncut = rw (list_any_none (is_at_level_one xs colon) (places a b) (all_places (is_at_level_one xs colon) false a b uncut)) refl

-- one more part that is done
pub one_done : {X Y : Type 0} (f : X → Y) (xs : List X) (x : X) (ys zs : List Y) → map f xs ++ (f x ∷ ys) ≡ zs → map f (xs ++ x ∷ []) ++ ys ≡ zs
one_done f xs x ys zs so_far = rw (map-append f xs (x ∷ [])) (append_assoc (map f xs) (f x ∷ []) ys ∙ so_far)

-- an item's halves, by its first colon
pub halves_at : (xs : List ℕ) (a b : ℕ) (o : Option ℕ) → b ≤ length xs → IsFirst (is_at_level_one xs colon) a b o
    → option_map (λ c. (slice_range xs a c, slice_range xs (c + 1) b)) o ≡ halves xs (places a b)
halves_at xs a b None fits first = sym (halves_uncut xs a b first)
halves_at xs a b (Some c) fits first = sym (halves_cut xs a c b first.0 first.1 fits first.3 first.2)
