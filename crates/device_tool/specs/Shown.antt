-- What a terminal is shown of a provider's text.
use Rattle.std.specs.Prelude.{ℕ, Bool, nat_lt, ◌&&◌}

-- a space, or a visible character of ASCII: no control byte
abbrev pub is_shown : ℕ → Bool
is_shown b = nat_lt 31 b && nat_lt b 127
