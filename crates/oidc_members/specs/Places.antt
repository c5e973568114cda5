-- The places of a text: which of them stand outside strings, and how deep in braces and brackets
-- (RFC 8259 sections 2 and 7).
use Rattle.std.specs.Prelude.{ℕ, ◌-◌, ◌%◌, ◌==◌, ◌&&◌, ◌||◌, Bool, List, take, slice_index, count_by}
use Rattle.std.specs.List.{range_with_len, suffix_len}

abbrev pub quote : ℕ
quote = 34

abbrev pub comma : ℕ
comma = 44

abbrev pub colon : ℕ
colon = 58

abbrev pub open_bracket : ℕ
open_bracket = 91

abbrev pub backslash : ℕ
backslash = 92

abbrev pub close_bracket : ℕ
close_bracket = 93

abbrev pub open_brace : ℕ
open_brace = 123

abbrev pub close_brace : ℕ
close_brace = 125

-- the places from one up to another, which isn't among them
abbrev pub places : ℕ → ℕ → List ℕ
places from to = range_with_len from (to - from)

abbrev pub is_even : ℕ → Bool
is_even n = n % 2 == 0

-- how many backslashes stand directly before a place
unfoldable pub backslashes : List ℕ → ℕ → ℕ
backslashes text i = suffix_len (λ b. b == backslash) (take i text)

-- A quote is unescaped where an even number of backslashes stands directly before it.
unfoldable pub is_unescaped_quote : List ℕ → ℕ → Bool
is_unescaped_quote text i = slice_index text i == quote && is_even (backslashes text i)

-- A place is outside where an even number of unescaped quotes stands before it.
unfoldable pub is_outside : List ℕ → ℕ → Bool
is_outside text i = is_even (count_by (is_unescaped_quote text) (places 0 i))

abbrev pub opens : List ℕ → ℕ → Bool
opens text i =
    is_outside text i && (slice_index text i == open_brace || slice_index text i == open_bracket)

abbrev pub closes : List ℕ → ℕ → Bool
closes text i =
    is_outside text i && (slice_index text i == close_brace || slice_index text i == close_bracket)

-- how many outside `{` and `[` stand before a place, and how many outside `}` and `]`
unfoldable pub opened : List ℕ → ℕ → ℕ
opened text i = count_by (opens text) (places 0 i)

unfoldable pub closed : List ℕ → ℕ → ℕ
closed text i = count_by (closes text) (places 0 i)

-- The level of a place is the first count less the second.
abbrev pub level : List ℕ → ℕ → ℕ
level text i = opened text i - closed text i

-- The byte stands at the place, outside and of level 1.
abbrev pub is_at_level_one : List ℕ → ℕ → ℕ → Bool
is_at_level_one text byte i = is_outside text i && (level text i == 1) && (slice_index text i == byte)
