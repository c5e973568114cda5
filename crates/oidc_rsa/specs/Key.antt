-- RSA public keys, and what one makes of a signature (RFC 8017 sections 3.1 and 5.2.2).
use Rattle.std.specs.Prelude.{◌≡◌, ℕ, ◌-◌, ◌%◌, ◌^◌, ◌<◌, ◌≤◌, List, slice_index}
use Rattle.std.specs.Int.{div_ceil}
use Rattle.oidc_rsa.specs.Octets.{os2ip}

-- a public key: its modulus n, how many bits that has (modBits), and its exponent e
pub record PublicKey : Type 0 where
  pub modulus : ℕ
  pub bits : ℕ
  pub exponent : ℕ

-- a number is written by that many bits, the highest of them 1
abbrev pub HasBits : ℕ → ℕ → Type 0
HasBits bits n = (2 ^ (bits - 1) ≤ n) × (n < 2 ^ bits)

-- octets that a modulus may have: no zero at the front (RFC 7518 section 6.3.1.1), 2,048 bits at least (sections 3.3 and
-- 3.5 there), an odd number, as a product of odd primes is (3.1). 8,192 bits are this crate's own limit.
pub record IsModulus (octets : List ℕ) : Type 0 where
  pub no_leading_zero : 0 < slice_index octets 0
  pub size : (bits : ℕ) × (2048 ≤ bits) × (bits ≤ 8192) × HasBits bits (os2ip octets)
  pub odd : os2ip octets % 2 ≡ 1

-- octets that an exponent may have: an odd number from 3 (3.1). 2 ^ 32 is this crate's own limit.
pub record IsExponent (octets : List ℕ) : Type 0 where
  pub at_least_three : 3 ≤ os2ip octets
  pub at_most : os2ip octets ≤ 2 ^ 32
  pub odd : os2ip octets % 2 ≡ 1

-- the key of these octets
pub record IsKeyOf (n_octets e_octets : List ℕ) (key : PublicKey) : Type 0 where
  pub modulus : key.modulus ≡ os2ip n_octets
  pub exponent : key.exponent ≡ os2ip e_octets
  pub bits : HasBits key.bits key.modulus

-- the octets that so many bits need
abbrev pub octets_for : ℕ → ℕ
octets_for bits = div_ceil bits 8

-- how many octets the modulus has (k)
abbrev pub modulus_len : PublicKey → ℕ
modulus_len key = octets_for key.bits

-- RSAVP1 (5.2.2), of a signature representative below the modulus
unfoldable pub rsavp1 : PublicKey → ℕ → ℕ
rsavp1 key signature = signature ^ key.exponent % key.modulus
