-- Moments as numbers of seconds.
use Rattle.std.specs.Prelude.{ℤ, pos, neg_ℤ, ◌*ℤ◌, int_le, ◌&&◌, if◌then◌else◌, Option, Some, None}
use Rattle.std.specs.Int.{int_div_euclid}
use Rattle.serde_json.specs.Data.{Data, number}
use Rattle.serde_json.specs.Find.{of_integer}

-- The range: the first and the last second since the Unix epoch at which a clock of each offset from UTC shows a date
-- within the years -9999 to 9999.
abbrev pub first_second : ℤ
first_second = neg_ℤ (pos 377_705_023_201)

abbrev pub last_second : ℤ
last_second = pos 253_402_207_200

-- seconds since the Unix epoch, where they are in range, as nanoseconds
abbrev pub moment_at : ℤ → Option ℤ
moment_at second =
    if int_le first_second second && int_le second last_second
    then Some (second *ℤ pos 1_000_000_000)
    else None

-- nanoseconds as whole seconds, rounded down
abbrev pub seconds_of : ℤ → ℤ
seconds_of nanosecond = int_div_euclid nanosecond (pos 1_000_000_000)

-- a moment as it is written
abbrev pub seconds_data : ℤ → Data
seconds_data nanosecond = number (of_integer (seconds_of nanosecond))
