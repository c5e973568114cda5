use Rattle.std.proofs.Common.{◌≡◌, ◌-◌, length, take}
use Rattle.oidc_types.specs.Random.{next_bytes}
use Rattle.oidc_types.proofs.Drawn.{behind}
use Rattle.oidc_types.proofs.random.fill.Given as goal

-- the bytes so far, and then those that are still to be drawn
abbrev pub invariant-loop-byte : goal.invariant-loop-byte
invariant-loop-byte g l =
    next_bytes (length l.fn.bytes) (g.R.Rng.stream l.fn.rng)
    ≡ behind (take l.byte-index l.bytes) (next_bytes (length l.bytes - l.byte-index) (g.R.Rng.stream l.rng))
