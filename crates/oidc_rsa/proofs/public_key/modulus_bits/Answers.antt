use Rattle.std.proofs.Common.{◌≡◌, ◌+◌, ◌-◌, ◌*◌, length, get_or, arith}
use Rattle.std.proofs.lemmas.Nat.{leading_le}
use lib.Count.{count_leading_zeros}
use Rattle.oidc_rsa.proofs.Sizes.{bits_of_octets, size_refused, zero_at_front, even_modulus, few_bits, modulus_allowed}
use Rattle.oidc_rsa.proofs.public_key.modulus_bits.Goals as goal
use Rattle.oidc_rsa.proofs.public_key.modulus_bits.Goals.{then-modulus-eq0-via-then-modulus-eq0, then-modulus-eq0-via-else-modulus-eq0+then-modulus-len-eq0}

pub returns-then-len-lt-MIN_OCTETS-clause-refused :
    goal.returns-then-len-lt-MIN_OCTETS-clause-refused
returns-then-len-lt-MIN_OCTETS-clause-refused c =
    size_refused c.args.modulus.now c.type_inv.modulus c.then-len-lt-MIN_OCTETS.either

pub returns-then-modulus-eq0-clause-refused : goal.returns-then-modulus-eq0-clause-refused
returns-then-modulus-eq0-clause-refused c =
    elim c.then-modulus-eq0.branch [
      | then-modulus-eq0-via-then-modulus-eq0 w ↦ zero_at_front c.args.modulus.now w.if-modulus-eq0.true
      | then-modulus-eq0-via-else-modulus-eq0+then-modulus-len-eq0 w ↦ even_modulus c.args.modulus.now (omega arith) w.if-modulus-len-eq0.true
    ]

pub returns-then-bits-lt-MIN_BITS-clause-refused :
    goal.returns-then-bits-lt-MIN_BITS-clause-refused
returns-then-bits-lt-MIN_BITS-clause-refused c =
    let octets = c.args.modulus.now in
    let above = count_leading_zeros 8 (get_or octets 0 0) in let bits = 8 * length octets - above in
    let all : bits + above ≡ 8 * length octets = omega (arith, leading_le 8 (get_or octets 0 0)) in
    let of = bits_of_octets octets bits c.type_inv.modulus (omega arith) all in
    few_bits octets bits of.0 (omega arith)

pub returns-clause-allowed : goal.returns-clause-allowed
returns-clause-allowed c =
    let octets = c.args.modulus.now in
    let above = count_leading_zeros 8 (get_or octets 0 0) in let bits = 8 * length octets - above in
    let all : bits + above ≡ 8 * length octets = omega (arith, leading_le 8 (get_or octets 0 0)) in
    let of = bits_of_octets octets bits c.type_inv.modulus (omega arith) all in (
      modulus_allowed octets bits c.type_inv.modulus (omega arith) (omega arith) c.if-modulus-eq0.false c.if-modulus-len-eq0.false all (omega arith),
      of.0,
      omega arith,
      omega arith,
      of.1,
    )
