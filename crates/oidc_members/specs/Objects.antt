-- The members of a text that is a JSON object (RFC 8259 section 4), in order and with duplicates kept.
use Rattle.std.specs.Prelude.{ℕ, ◌-◌, ◌==◌, ◌&&◌, ◌||◌, nat_lt, Bool, if◌then◌else◌, List, [], ◌∷◌, length, take, drop, map, slice_index, Option, Some, None, option_map, option_and_then, Result, Ok, Err}
use Rattle.std.specs.List.{prefix_len, suffix_len, list_all, list_any, slice_split, before_first, after_first}
use Rattle.std.specs.Str.{is_utf8}
use Rattle.serde_json.specs.Data.{Data}
use Rattle.serde_json.specs.Read.{read}
use Rattle.serde_json.specs.Find.{as_str}
use Rattle.serde_json.specs.Written.{has_float}
use Rattle.oidc_members.specs.Places.{comma, colon, open_brace, close_brace, places, level, is_at_level_one}
use Rattle.oidc_members.specs.Seen.{SeenMember}
use Rattle.oidc_members.specs.declared.refusal.ParseKind.{ParseKind}
use Rattle.oidc_members.specs.declared.refusal.ParseKind.TheVariants.{Syntax, Number}
use Rattle.oidc_members.specs.declared.refusal.Refusal.{Refusal}

-- ---- white space (RFC 8259 section 2)

-- space, tab, line feed and carriage return
abbrev pub is_space : ℕ → Bool
is_space b = b == 32 || b == 9 || b == 10 || b == 13

abbrev pub without_spaces_before : List ℕ → List ℕ
without_spaces_before text = drop (prefix_len is_space text) text

abbrev pub without_spaces_after : List ℕ → List ℕ
without_spaces_after text = take (length text - suffix_len is_space text) text

unfoldable pub trimmed : List ℕ → List ℕ
trimmed text = without_spaces_after (without_spaces_before text)

-- ---- an object, cut into the halves of its items

-- the places between the first and the last
abbrev pub between : List ℕ → List ℕ
between text = places 1 (length text - 1)

-- It starts with `{`, ends with an outside `}` of level 1, and has level at least 1 at every place between.
unfoldable pub is_braced : List ℕ → Bool
is_braced text = slice_index text 0 == open_brace
    && is_at_level_one text close_brace (length text - 1)
    && list_all (λ i. nat_lt 0 (level text i)) (between text)

-- The places of each item: the text between is cut at outside commas of level 1. White space alone has
-- no items.
unfoldable pub pieces : List ℕ → List (List ℕ)
pieces text =
    if list_all (λ i. is_space (slice_index text i)) (between text)
    then []
    else slice_split (is_at_level_one text comma) (between text)

-- the bytes of a name and those of a value
abbrev pub Halves : Type 0
Halves = List ℕ × List ℕ

abbrev pub bytes_at : List ℕ → List ℕ → List ℕ
bytes_at text piece = map (slice_index text) piece

-- An item is cut at its first outside colon of level 1.
unfoldable pub halves : List ℕ → List ℕ → Option Halves
halves text piece =
    let is_colon = is_at_level_one text colon in
    if list_any is_colon piece
    then Some (bytes_at text (before_first is_colon piece), bytes_at text (after_first is_colon piece))
    else None

-- ---- its members

-- the value that `serde_json` reads, nested at most 127 deep
abbrev pub read_bytes : List ℕ → Option Data
read_bytes bytes = if is_utf8 bytes then read bytes else None

-- Each name is one that `serde_json` reads as a text, and each value one that it reads.
unfoldable pub member_of : Halves → Option SeenMember
member_of half =
    option_and_then
    (λ name. option_map
    (λ value. record { name = name; value = value; text = trimmed half.1 })
    (read_bytes half.1))
    (option_and_then as_str (read_bytes half.0))

-- all of them, if none is missing
abbrev pub all_some : {A B : Type 0} → (A → Option B) → List A → Option (List B)
all_some f [] = Some []
all_some f (x ∷ xs) = option_and_then (λ y. option_map (λ ys. y ∷ ys) (all_some f xs)) (f x)

-- the members of a text, where a value may hold floats
unfoldable pub loose_members_of : List ℕ → Option (List SeenMember)
loose_members_of text =
    if is_braced (trimmed text)
    then all_some (option_and_then member_of) (map (halves (trimmed text)) (pieces (trimmed text)))
    else None

abbrev pub without_floats : List SeenMember → Option (List SeenMember)
without_floats members = if list_any (λ member. has_float member.value) members then None else Some members

-- the members of a text, where no value holds a float
unfoldable pub members_of : List ℕ → Option (List SeenMember)
members_of text = option_and_then without_floats (loose_members_of text)

-- ---- what splitting a text answers

-- a refusal that names no field
abbrev pub of_text : ParseKind → Refusal
of_text kind = record { kind = kind; field = [] }

-- Without members it is `Number` where floats alone stand against the text, else `Syntax`.
abbrev pub members_or_refusal : Option (List SeenMember) → Option (List SeenMember)
    → Result (List SeenMember) Refusal
members_or_refusal (Some members) loose = Ok members
members_or_refusal None (Some loose) = Err (of_text Number)
members_or_refusal None None = Err (of_text Syntax)

unfoldable pub split_of : List ℕ → Result (List SeenMember) Refusal
split_of text = members_or_refusal (members_of text) (loose_members_of text)
