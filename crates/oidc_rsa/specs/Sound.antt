-- What a key keeps: how the limbs that it holds go with its bits and its exponent.
use Rattle.std.specs.Prelude.{◌≡◌, ℕ, ◌*◌, ◌%◌, ◌≤◌, List, length}
use Rattle.std.specs.Int.{div_ceil}
use Rattle.oidc_rsa.specs.Key.{HasBits}
use Rattle.oidc_rsa.specs.Limbs.{value, weight}

pub record IsSound (n square : List ℕ) (bits e : ℕ) : Type 0 where
  pub size : HasBits bits (value n)
  pub at_least : 2048 ≤ bits
  pub at_most : bits ≤ 8192
  pub limbs : length n ≡ div_ceil bits 64
  pub same_length : length square ≡ length n
  pub odd : value n % 2 ≡ 1
  pub r_squared : value square ≡ weight (2 * length n) % value n
  pub exponent : 3 ≤ e
