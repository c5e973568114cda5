-- Lines, cut off one by one.
use Rattle.std.proofs.Common.{◌≡◌, ℕ, ◌+◌, ◌-◌, ◌<◌, ◌==◌, Bool, true, false, cond, nat_lt, List, [], ◌∷◌, take, drop, length, Some, None, refl, ap, ◌∙◌, arith, length-drop}
use Rattle.std.proofs.Math.Seq.{take-length}
use Rattle.std.specs.Prelude.{position}
use Rattle.std.specs.List.{slice_split, position_or_len, before_first, after_first}
use Rattle.std.proofs.lemmas.Bool.Decides.{nat_tests}
use Rattle.std.proofs.lemmas.Grind.{common_steps}
use Rattle.std.proofs.lemmas.List.Elements.{All-from_get_or}
use Rattle.std.proofs.lemmas.List.Sums.{fails_before_first}
use Rattle.std.proofs.lemmas.List.Splits.{length-slice_split, slice_split_none, slice_split_first}
use Rattle.oidc_cli.specs.Script.{lines, lines_of_parts}

found : (test : Bool) (n i : ℕ) → cond test (Some n) None ≡ Some i → (test ≡ true) × (n ≡ i)
found true n i e = (refl, cc)
found false n i e = absurd cc

not_found : (test : Bool) (n : ℕ) → cond test (Some n) None ≡ None → test ≡ false
not_found true n e = absurd cc
not_found false n e = refl

position_at : (p : ℕ → Bool) (xs : List ℕ) (i : ℕ) → position p xs ≡ Some i → (position_or_len p xs < length xs) × (position_or_len p xs ≡ i)
position_at p xs i e = let f = found (nat_lt (position_or_len p xs) (length xs)) (position_or_len p xs) i e in let t = f.0 in (grind (arith, nat_tests), f.1)

more_parts : (x : List ℕ) (parts : List (List ℕ)) → 0 < length parts → lines_of_parts (x ∷ parts) ≡ x ∷ lines_of_parts parts
more_parts x [] some = absurd (omega arith)
more_parts x (y ∷ parts) some = refl

-- the rest of a slice, as the code writes it
whole_rest : (n : ℕ) (xs : List ℕ) → take (length xs - n) (drop n xs) ≡ drop n xs
whole_rest n xs = rw (← length-drop n xs) (take-length (drop n xs))

pub lines_at : (script : List ℕ) (i : ℕ) → position (λ b. b == 10) script ≡ Some i
    → lines script ≡ take i script ∷ lines (take (length script - (i + 1)) (drop (i + 1) script))
unfolding lines
lines_at script i e =
    let at = position_at (λ b. b == 10) script i e in
    let rest = after_first (λ b. b == 10) script in
    let cut = slice_split_first (λ b. b == 10) script 0 at.0 in
    let some : 0 < length (slice_split (λ b. b == 10) rest) = omega (arith, length-slice_split (λ b. b == 10) rest) in
    let parts = ap lines_of_parts cut ∙ more_parts (before_first (λ b. b == 10) script) (slice_split (λ b. b == 10) rest) some in
    rw whole_rest (rw (at.1) at parts)

one_part : (x : List ℕ) → 0 < length x → lines_of_parts (x ∷ []) ≡ x ∷ []
one_part [] some = absurd (omega arith)
one_part (b ∷ x) some = grind (arith, nat_tests)

pub lines_last : (script : List ℕ) → 0 < length script → position (λ b. b == 10) script ≡ None
    → lines script ≡ script ∷ lines (take (length script - length script) (drop (length script) script))
unfolding lines
lines_last script some e =
    let q : ℕ → Bool = λ b. b == 10 in
    let none = not_found (nat_lt (position_or_len q script) (length script)) (position_or_len q script) e in
    let far : (k : ℕ) → k < length script → k < position_or_len q script = λ k within. grind (arith, nat_tests) in
    let all = All-from_get_or (λ b. q b ≡ false) script 0 (λ k within. fails_before_first q script k 0 (far k within)) in
    let all_one : lines_of_parts (slice_split q script) ≡ script ∷ [] = ap lines_of_parts (slice_split_none q script all) ∙ one_part script some in
    let empty : take (length script - length script) (drop (length script) script) ≡ [] = grind (arith, common_steps) in
    rw empty all_one

pub lines_nil : lines [] ≡ []
unfolding lines
lines_nil = refl
