-- Moments as texts: `date-time` of RFC 3339 section 5.6, the days of a month by section 5.7. A leap second (60) is
-- refused, digits of the fraction past the ninth are dropped, and the range is that of moments as numbers.
-- Bytes stand as their numbers: `+` 43, `-` 45, `.` 46, `:` 58, `T` 84, `Z` 90, `t` 116, `z` 122.
use Rattle.std.specs.Prelude.{ℕ, ◌+◌, ◌*◌, ◌==◌, ◌&&◌, ◌||◌, nat_lt, ℤ, pos, neg_ℤ, ◌+ℤ◌, ◌-ℤ◌, ◌*ℤ◌, int_le, if◌then◌else◌, List, [], ◌∷◌, take, drop, min, Option, Some, None, option_map}
use Rattle.std.specs.Char.{is_ascii_digit}
use Rattle.std.specs.Int.{is_in_range}
use Rattle.std.specs.List.{prefix_len}
use Rattle.jiff_core.specs.Calendar.{days_in_month, days_from_civil}
use Rattle.jiff_core.specs.Timestamp.{nanos_of_seconds}
use Rattle.jiff_fmt.specs.Reader.{Digits, two_digits, four_digits, fraction_value}
use Rattle.oidc_readers.specs.Moments.{first_second, last_second}

-- one step after another, up to the first that finds nothing
infixl 10 ◌>>=◌
abbrev pub ◌>>=◌ : {A B : Type 0} → Option A → (A → Option B) → Option B
None >>= f = None
(Some x) >>= f = f x

-- the text behind a byte, where it starts with that
abbrev pub past_byte : ℕ → List ℕ → Option (List ℕ)
past_byte byte [] = None
past_byte byte (b ∷ rest) = if b == byte then Some rest else None

-- two digits whose number is below a limit, and the text behind them
abbrev pub two_digits_below : ℕ → List ℕ → Digits ℕ
two_digits_below limit text = two_digits text >>= λ n. if nat_lt n.0 limit then Some n else None

-- ---- the date

-- the number of a day from 1970-01-01, where the calendar has it
abbrev pub day_number : ℕ → ℕ → ℕ → Option ℤ
day_number year month day =
    if is_in_range 1 12 month && is_in_range 1 (days_in_month (pos year) month) day
    then Some (days_from_civil (pos year) month day)
    else None

-- `full-date`: four digits of the year, two of the month, two of the day
unfoldable pub full_date : List ℕ → Digits ℤ
full_date text = do
  year ← four_digits text
  month ← past_byte 45 year.1 >>= two_digits
  day ← past_byte 45 month.1 >>= two_digits
  number ← day_number year.0 month.0 day.0
  Some (number, day.1)

-- ---- the time

-- one digit or more, of which those past the ninth are dropped
unfoldable pub fraction_digits : List ℕ → Digits ℕ
fraction_digits text =
    let len = prefix_len is_ascii_digit text in
    if len == 0 then None else Some (fraction_value 9 (take (min len 9) text), drop len text)

-- `time-secfrac`, in nanoseconds, where there is one
abbrev pub fraction : List ℕ → Digits ℕ
fraction [] = Some (0, [])
fraction (b ∷ rest) = if b == 46 then fraction_digits rest else Some (0, b ∷ rest)

-- `partial-time`, in nanoseconds since midnight
unfoldable pub partial_time : List ℕ → Digits ℕ
partial_time text = do
  hour ← two_digits_below 24 text
  minute ← past_byte 58 hour.1 >>= two_digits_below 60
  second ← past_byte 58 minute.1 >>= two_digits_below 60
  part ← fraction second.1
  Some ((hour.0 * 3600 + minute.0 * 60 + second.0) * 1_000_000_000 + part.0, part.1)

-- ---- the offset

-- the value, where no text is left
abbrev pub at_end : {A : Type 0} → A → List ℕ → Option A
at_end value [] = Some value
at_end value (b ∷ rest) = None

-- the hours and minutes of `time-numoffset`, in seconds
unfoldable pub offset_digits : List ℕ → Option ℤ
offset_digits text = do
  hour ← two_digits_below 24 text
  minute ← past_byte 58 hour.1 >>= two_digits_below 60
  at_end (pos (hour.0 * 3600 + minute.0 * 60)) minute.1

-- `time-offset`: how many seconds the clock is ahead of UTC
unfoldable pub time_offset : List ℕ → Option ℤ
time_offset [] = None
time_offset (b ∷ rest) =
    if b == 90 || b == 122 then at_end (pos 0) rest
    else if b == 43 then offset_digits rest
    else if b == 45 then option_map neg_ℤ (offset_digits rest)
    else None

-- ---- the moment

-- the `T`, in either case
abbrev pub past_letter : List ℕ → Option (List ℕ)
past_letter [] = None
past_letter (b ∷ rest) = if b == 84 || b == 116 then Some rest else None

-- nanoseconds since the Unix epoch, where they are in range: to the end of the last second
abbrev pub in_range : ℤ → Option ℤ
in_range n =
    if int_le (nanos_of_seconds first_second) n
    && int_le n (nanos_of_seconds last_second +ℤ pos 999_999_999)
    then Some n else None

-- The moment is the civil time less the offset.
abbrev pub moment_at_offset : ℤ → ℕ → ℤ → Option ℤ
moment_at_offset day time offset =
    in_range (day *ℤ pos 86_400_000_000_000 +ℤ pos time -ℤ nanos_of_seconds offset)

-- `date-time`
unfoldable pub moment_in : List ℕ → Option ℤ
moment_in text = do
  date ← full_date text
  time ← past_letter date.1 >>= partial_time
  offset ← time_offset time.1
  moment_at_offset date.0 time.0 offset
