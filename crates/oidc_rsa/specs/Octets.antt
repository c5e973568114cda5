-- Octet strings and the numbers that they write (RFC 8017 section 4).
use Rattle.std.specs.Prelude.{ℕ, List}
use Rattle.std.specs.Int.{bytes_high_first}
use Rattle.std.specs.Int.Digits.{number_from_digits}

-- the number that an octet string writes, the highest octet first (4.2)
abbrev pub os2ip : List ℕ → ℕ
os2ip octets = number_from_digits 256 octets

-- the octet string of that length that writes a number below 256 ^ length (4.1)
unfoldable pub i2osp : ℕ → ℕ → List ℕ
i2osp x len = bytes_high_first len x
