use Rattle.std.proofs.Common.{◌≡◌, ℕ, ◌+◌, ◌*◌, ◌^◌, ◌<◌, take}
use Rattle.oidc_rsa.specs.Limbs.{value, value_with_bit}
use Rattle.oidc_rsa.proofs.montgomery.multiply.Given as goal

-- the rows so far, with a multiple of n
abbrev pub invariant-loop-digit : goal.invariant-loop-digit
invariant-loop-digit l =
    (q : ℕ) × (q < 2 ^ (64 * l.digit-index)) × (2 ^ (64 * l.digit-index) * value_with_bit l.out l.top ≡ value (take l.digit-index l.a) * value l.b + q * value l.n)
