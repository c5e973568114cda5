-- bytes that are drawn one by one into their places
use Rattle.std.proofs.Common.{◌≡◌, ◌<◌, ◌≤◌, ◌+◌, ◌-◌, ℕ, suc, List, [], ◌∷◌, ◌++◌, length, take, slice_set, ap, sym, ◌∙◌, append_assoc, append-nil, arith}
use Rattle.std.proofs.lemmas.List.{take_more_set, length-set}
use Rattle.std.proofs.Math.Seq.{take-length}
use Rattle.rand_core.specs.Stream.{Stream}
use Rattle.rand.specs.Draw.{next_u8}
use Rattle.oidc_types.specs.Random.{next_bytes}

-- bytes, and then those that a stream gives
abbrev pub behind : List ℕ → List ℕ × Stream → List ℕ × Stream
behind xs drawn = (xs ++ drawn.0, drawn.1)

one_more : (n i : ℕ) → i < n → n - i ≡ suc (n - (i + 1))
one_more n i h = omega arith

none_left : (n i : ℕ) → n ≤ i → n - i ≡ 0
none_left n i h = omega arith

drawn_one : (n : ℕ) (s t : Stream) (b : ℕ) → (b, t) ≡ next_u8 s → next_bytes (suc n) s ≡ behind (b ∷ []) (next_bytes n t)
unfolding next_bytes
drawn_one n s t b d = ap (λ p. behind (p.0 ∷ []) (next_bytes n p.1)) (sym d)

moved : (xs ys : List ℕ) (drawn : List ℕ × Stream) → behind xs (behind ys drawn) ≡ behind (xs ++ ys) drawn
moved xs ys drawn = ap (λ l. (l, drawn.1)) (sym (append_assoc xs ys drawn.0))

-- one more byte in its place
pub step : (bytes : List ℕ) (i b : ℕ) (s t : Stream) → i < length bytes → (b, t) ≡ next_u8 s
    → behind (take i bytes) (next_bytes (length bytes - i) s)
    ≡ behind (take (i + 1) (slice_set bytes i b)) (next_bytes (length (slice_set bytes i b) - (i + 1)) t)
step bytes i b s t h d =
    ap (λ n. behind (take i bytes) (next_bytes n s)) (one_more (length bytes) i h)
    ∙ ap (behind (take i bytes)) (drawn_one (length bytes - (i + 1)) s t b d)
    ∙ moved (take i bytes) (b ∷ []) (next_bytes (length bytes - (i + 1)) t)
    ∙ (λ j. behind (sym (take_more_set bytes i b h) j) (next_bytes (sym (length-set bytes i b) j - (i + 1)) t))

-- no byte is left
pub ended : (bytes : List ℕ) (i : ℕ) (s : Stream) → length bytes ≡ i → behind (take i bytes) (next_bytes (length bytes - i) s) ≡ (bytes, s)
unfolding next_bytes
ended bytes i s h =
    ap (λ n. behind (take i bytes) (next_bytes n s)) (none_left (length bytes) i (omega (arith, h)))
    ∙ ap (λ l. (l, s)) (append-nil (take i bytes) ∙ ap (λ n. take n bytes) (sym h) ∙ take-length bytes)
