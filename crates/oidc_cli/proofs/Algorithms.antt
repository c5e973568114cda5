-- The parts of a text between its spaces, cut off one by one, and read as algorithms.
use Rattle.std.proofs.Common.{◌≡◌, ℕ, ◌+◌, ◌==◌, Bool, List, [], ◌∷◌, ◌++◌, length, Option, Some, None, option_map, refl, sym, ap, ◌∙◌, arith, append_assoc, append-nil}
use Rattle.std.specs.Prelude.{option_and_then}
use Rattle.std.specs.List.{slice_split}
use Rattle.std.specs.Borrow.{Bor}
use Rattle.std.specs.Option.{option_map_or}
use Rattle.std.proofs.lemmas.Bool.Decides.{nat_tests}
use Rattle.oidc_types.specs.declared.core_algorithms.CoreJwsSigningAlgorithm.{CoreJwsSigningAlgorithm}
use Rattle.oidc_types.specs.{find_word, signing_text, signing_algorithms}
use Rattle.oidc_cli.specs.Values.{all_algorithms, algorithms_of}

abbrev pub spaced_parts : List ℕ → List (List ℕ)
spaced_parts text = slice_split (λ c. c == 32) text

-- the parts of what is left, where something is left
abbrev pub parts_left : Option (Bor (List ℕ)) → List (List ℕ)
parts_left rest = option_map_or (λ later. spaced_parts later.now) rest []

-- the algorithms so far stand before those of the parts that are left
abbrev pub ReadSoFar : List ℕ → List CoreJwsSigningAlgorithm → Option (Bor (List ℕ)) → Type 0
ReadSoFar text read rest = all_algorithms (spaced_parts text) ≡ option_map (λ later. read ++ later) (all_algorithms (parts_left rest))

-- how many bytes and turns are left
abbrev pub turns_left : Option (Bor (List ℕ)) → ℕ
turns_left rest = option_map_or (λ later. length later.now + 1) rest 0

option_map-id : {A : Type 0} (o : Option (List A)) → o ≡ option_map (λ later. [] ++ later) o
option_map-id None = refl
option_map-id (Some x) = refl

pub read_none : (text : List ℕ) → all_algorithms (spaced_parts text) ≡ option_map (λ later. [] ++ later) (all_algorithms (spaced_parts text))
read_none text = option_map-id (all_algorithms (spaced_parts text))

joined_more : {A : Type 0} (read : List A) (x : A) (o : Option (List A))
    → option_map (λ later. read ++ later) (option_map (λ later. x ∷ later) o) ≡ option_map (λ later. (read ++ x ∷ []) ++ later) o
joined_more read x None = refl
joined_more read x (Some later) = ap Some (sym (append_assoc read (x ∷ []) later))

-- the algorithms of a first part and of those behind it
abbrev with_first : Option CoreJwsSigningAlgorithm → Option (List CoreJwsSigningAlgorithm) → Option (List CoreJwsSigningAlgorithm)
with_first first later = option_and_then (λ algorithm. option_map (λ l. algorithm ∷ l) later) first

pub read_more : (text word : List ℕ) (left later : List (List ℕ)) (read : List CoreJwsSigningAlgorithm) (algorithm : CoreJwsSigningAlgorithm)
    → all_algorithms (spaced_parts text) ≡ option_map (λ l. read ++ l) (all_algorithms left) → left ≡ word ∷ later
    → find_word signing_text signing_algorithms word ≡ Some algorithm
    → all_algorithms (spaced_parts text) ≡ option_map (λ l. (read ++ algorithm ∷ []) ++ l) (all_algorithms later)
read_more text word left later read algorithm so_far cut known =
    so_far ∙ ap (λ parts. option_map (λ l. read ++ l) (all_algorithms parts)) cut
    ∙ ap (λ found. option_map (λ l. read ++ l) (with_first found (all_algorithms later))) known
    ∙ joined_more read algorithm (all_algorithms later)

pub read_unknown : (text word : List ℕ) (left later : List (List ℕ)) (read : List CoreJwsSigningAlgorithm)
    → all_algorithms (spaced_parts text) ≡ option_map (λ l. read ++ l) (all_algorithms left) → left ≡ word ∷ later
    → find_word signing_text signing_algorithms word ≡ None
    → all_algorithms (spaced_parts text) ≡ None
read_unknown text word left later read so_far cut unknown =
    so_far ∙ ap (λ parts. option_map (λ l. read ++ l) (all_algorithms parts)) cut
    ∙ ap (λ found. option_map (λ l. read ++ l) (with_first found (all_algorithms later))) unknown

pub read_all : (text : List ℕ) (read : List CoreJwsSigningAlgorithm)
    → all_algorithms (spaced_parts text) ≡ Some (read ++ []) → all_algorithms (spaced_parts text) ≡ Some read
read_all text read so_far = so_far ∙ ap Some (append-nil read)

pub algorithms_of_some : (text : List ℕ) (found : Option (List CoreJwsSigningAlgorithm)) → (length text == 0) ≡ Bool.false
    → all_algorithms (spaced_parts text) ≡ found → found ≡ algorithms_of text
unfolding algorithms_of
algorithms_of_some [] found some e = absurd (grind (arith, nat_tests))
algorithms_of_some (b ∷ text) found some e = sym e

pub algorithms_of_none : (text : List ℕ) → (length text == 0) ≡ Bool.true → Some [] ≡ algorithms_of text
unfolding algorithms_of
algorithms_of_none [] none = refl
algorithms_of_none (b ∷ text) none = absurd (grind (arith, nat_tests))
