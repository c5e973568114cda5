-- Bytes that are moved into a buffer.
use Rattle.std.proofs.Common.{◌≡◌, ℕ, ◌+◌, ◌-◌, ◌≤◌, List, ◌++◌, take, drop, length, min, sym, ap, ◌∙◌, arith, take-append-drop, length-drop}
use Rattle.std.proofs.Math.Seq.{take-length}
use Rattle.std.proofs.lemmas.List.{length-take-le, take_at, drop-drop}

-- what was left of the bytes is what was moved, and what is left now
pub moved_front : (bytes left moved after : List ℕ) (taken n room : ℕ) → drop taken bytes ≡ left
    → n ≡ min room (length (take (length bytes - taken) (drop taken bytes)))
    → moved ≡ take n (take (length bytes - taken) (drop taken bytes))
    → left ≡ take n (moved ++ after) ++ drop (taken + n) bytes
moved_front bytes left moved after taken n room is amount copied =
    let long = length-drop taken bytes in
    let whole : take (length bytes - taken) (drop taken bytes) ≡ drop taken bytes = rw (← long) (take-length (drop taken bytes)) in
    let within : n ≤ length (drop taken bytes) = let e = amount ∙ ap (λ l. min room (length l)) whole in omega arith in
    let front : moved ≡ take n (drop taken bytes) = copied ∙ ap (take n) whole in
    let size : length moved ≡ n = ap length front ∙ length-take-le n (drop taken bytes) within in
    sym is
    ∙ sym (take-append-drop n (drop taken bytes))
    ∙ ap (λ l. l ++ drop n (drop taken bytes)) (sym (take_at moved after n size ∙ front))
    ∙ ap (λ l. take n (moved ++ after) ++ l) (drop-drop n taken bytes)
