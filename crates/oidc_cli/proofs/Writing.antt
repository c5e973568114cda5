-- A piece that is written part by part.
use Rattle.std.proofs.Common.{◌≡◌, ℕ, ◌+◌, ◌-◌, ◌<◌, ◌==◌, false, arith, length-append, Result, Ok, Err, List, [], ◌++◌, Option, None, Some, take, drop, length, refl, sym, ap, subst, ◌∙◌, append-nil, append_assoc, take-append-drop}
use Rattle.std.proofs.Math.Seq.{take-append_seam}
use Rattle.std.proofs.lemmas.Grind.{common_steps}
use Rattle.std.proofs.lemmas.Bool.Decides.{nat_tests}
use Rattle.std.specs.Io.KnownBytes.{Appends, Keeps, WriteAppends}
use Rattle.oidc_cli.specs.Sinks.{AppendsPrefix}

-- of the piece, all but the rest was written
abbrev pub IsWrittenSoFar : Option (List ℕ) → Option (List ℕ) → List ℕ → List ℕ → Type 0
IsWrittenSoFar before now piece rest = (done : List ℕ) × (done ++ rest ≡ piece) × Appends before now done

Appends-nil : (known : Option (List ℕ)) → Appends known known []
Appends-nil None = tt
Appends-nil (Some xs) = sym (append-nil xs)

pub written_nothing : (known : Option (List ℕ)) (piece : List ℕ) → IsWrittenSoFar known known piece piece
written_nothing known piece = ([], refl, Appends-nil known)

Appends-append : (a b c : Option (List ℕ)) (xs ys : List ℕ) → Appends a b xs → Appends b c ys → Appends a c (xs ++ ys)
Appends-append None b c xs ys p q = tt
Appends-append (Some bs) (Some cs) None xs ys p q = q
Appends-append (Some bs) (Some cs) (Some ds) xs ys p q = q ∙ ap (λ l. l ++ ys) p ∙ append_assoc bs xs ys
Appends-append (Some bs) None c xs ys p q = absurd p

-- a write of the first n bytes of the rest
pub written_more : (before now after : Option (List ℕ)) (piece rest : List ℕ) (n : ℕ) → IsWrittenSoFar before now piece rest
    → Appends now after (take n rest) → IsWrittenSoFar before after piece (take (length rest - n) (drop n rest))
written_more before now after piece rest n so_far more =
    let all : take (length rest - n) (drop n rest) ≡ drop n rest = grind (arith, common_steps) in
    subst (IsWrittenSoFar before after piece) (sym all) (
      so_far.0 ++ take n rest,
      append_assoc so_far.0 (take n rest) (drop n rest) ∙ ap (λ l. so_far.0 ++ l) (take-append-drop n rest) ∙ so_far.1,
      Appends-append before now after so_far.0 (take n rest) so_far.2 more,
    )

-- where something is left, there was something to write
pub unfinished : (before now : Option (List ℕ)) (piece rest : List ℕ) → IsWrittenSoFar before now piece rest → (length rest == 0) ≡ false → piece ≡ [] → ⊥
unfinished before now piece rest so_far left none =
    let some : 0 < length rest = grind (arith, nat_tests) in
    let all : length so_far.0 + length rest ≡ 0 = sym (length-append so_far.0 rest) ∙ ap length (so_far.1 ∙ none) in omega arith

-- what was written begins the piece
prefix_written : (before now : Option (List ℕ)) (piece rest : List ℕ) → IsWrittenSoFar before now piece rest → AppendsPrefix before now piece
prefix_written before now piece rest so_far = (
  length so_far.0,
  subst (Appends before now) (sym (ap (take (length so_far.0)) (sym so_far.1) ∙ take-append_seam so_far.0 rest)) so_far.2,
)

Appends-kept : (a b c : Option (List ℕ)) (xs : List ℕ) → Appends a b xs → Keeps b c → Appends a c xs
Appends-kept None b c xs p kept = tt
Appends-kept (Some as') (Some bs) None xs p kept = kept
Appends-kept (Some as') (Some bs) (Some cs) xs p kept = kept ∙ p
Appends-kept (Some as') None c xs p kept = absurd p

-- so it does after one write more, whatever that answers
pub prefix_after : {E : Type 0} (before now after : Option (List ℕ)) (piece rest : List ℕ) (r : Result ℕ E)
    → IsWrittenSoFar before now piece rest → WriteAppends now after r rest → AppendsPrefix before after piece
prefix_after before now after piece rest (Ok n) so_far more =
    prefix_written before after piece _ (written_more before now after piece rest n so_far more)
prefix_after before now after piece rest (Err e) so_far kept =
    prefix_written before after piece rest (so_far.0, so_far.1, Appends-kept before now after so_far.0 so_far.2 kept)
