-- Kinds of values of a field (OpenID Connect Core 1.0 section 5.1, RFC 7519 section 2; moments as texts RFC 3339 section
-- 5.6), and the refusal where a value isn't of its kind. Booleans and moments depend on the reading.
use Rattle.std.specs.Prelude.{ℕ, ℤ, List, [], ◌∷◌, Bool, true, false, codes, if◌then◌else◌, is_some, Option, Some, None, option_and_then, option_map, Result, Ok, Err}
use Rattle.std.specs.Option.{ok_or}
use Rattle.std.specs.Str.{bytes_eq}
use Rattle.serde_json.specs.Data.{Data, null, boolean, number, string, array, object, Items, no_items, item}
use Rattle.serde_json.specs.Find.{as_null, as_str, as_number, as_integer, as_u64, as_array}
use Rattle.url.specs.Parts.{Parts}
use Rattle.url.specs.Parser.{parse_url}
use Rattle.url.specs.declared.error.ParseError.{ParseError}
use Rattle.oidc_types.specs.{TextAndUrl}
use Rattle.oidc_members.specs.Seen.{SeenMember}
use Rattle.oidc_members.specs.declared.reading.Reading.{Reading}
use Rattle.oidc_members.specs.declared.refusal.Refusal.{Refusal}
use Rattle.oidc_members.specs.declared.refusal.ParseKind.{ParseKind}
use Rattle.oidc_members.specs.declared.refusal.ParseKind.TheVariants.{WrongType, Moment, Url}
use Rattle.oidc_readers.specs.Moments.{moment_at}
use Rattle.oidc_readers.specs.MomentTexts.{moment_in}

-- what a member reads as, or why its value is refused
abbrev pub Kind : Type 0 → Type 0
Kind V = SeenMember → Result V Refusal

-- a refusal of a member, which names it as it was read
abbrev pub of_member : ParseKind → SeenMember → Refusal
of_member kind m = record { kind = kind; field = m.name }

-- a text
abbrev pub text_kind : Kind (List ℕ)
text_kind m = ok_or (as_str m.value) (of_member WrongType m)

-- the texts `true` and `false`
abbrev pub flag_named : List ℕ → Option Bool
flag_named text =
    if bytes_eq text (codes "true") then Some true
    else if bytes_eq text (codes "false") then Some false
    else None

abbrev pub flag_in : Reading → Data → Option Bool
flag_in reading null = None
flag_in reading (boolean flag) = Some flag
flag_in reading (number n) = None
flag_in reading (string text) = if reading.string_booleans then flag_named text else None
flag_in reading (array items) = None
flag_in reading (object entries) = None

-- true or false, or the text of one where the reading takes string booleans
abbrev pub flag_kind : Reading → Kind Bool
flag_kind reading m = ok_or (flag_in reading m.value) (of_member WrongType m)

-- a whole number from 0 to 2^64 - 1
abbrev pub whole_kind : Kind ℕ
whole_kind m = ok_or (option_and_then as_u64 (as_number m.value)) (of_member WrongType m)

abbrev pub seconds_read : SeenMember → Option ℤ → Result ℤ Refusal
seconds_read m None = Err (of_member WrongType m)
seconds_read m (Some second) = ok_or (moment_at second) (of_member Moment m)

abbrev pub text_read : Reading → SeenMember → List ℕ → Result ℤ Refusal
text_read reading m text =
    if reading.rfc3339_moments
    then ok_or (moment_in text) (of_member Moment m)
    else Err (of_member WrongType m)

abbrev pub moment_read : Reading → SeenMember → Data → Result ℤ Refusal
moment_read reading m null = Err (of_member WrongType m)
moment_read reading m (boolean b) = Err (of_member WrongType m)
moment_read reading m (number n) = seconds_read m (as_integer n)
moment_read reading m (string text) = text_read reading m text
moment_read reading m (array items) = Err (of_member WrongType m)
moment_read reading m (object entries) = Err (of_member WrongType m)

-- a moment: a whole number of seconds, or a text of RFC 3339 where the reading takes these; either is
-- in range
abbrev pub moment_kind : Reading → Kind ℤ
moment_kind reading m = moment_read reading m m.value

abbrev pub url_parsed : SeenMember → List ℕ → Result Parts ParseError → Result TextAndUrl Refusal
url_parsed m text (Ok url) = Ok (record { text = text; url = url })
url_parsed m text (Err e) = Err (of_member Url m)

abbrev pub url_read : SeenMember → Option (List ℕ) → Result TextAndUrl Refusal
url_read m None = Err (of_member WrongType m)
url_read m (Some text) = url_parsed m text (parse_url None text)

-- a text that the URL Standard takes, kept as it was given beside the URL
abbrev pub url_kind : Kind TextAndUrl
url_kind m = url_read m (as_str m.value)

-- each of them a text
abbrev pub texts_in : Items → Option (List (List ℕ))
texts_in no_items = Some []
texts_in (item value rest) =
    option_and_then (λ text. option_map (λ texts. text ∷ texts) (texts_in rest)) (as_str value)

-- an array of texts
abbrev pub texts_kind : Kind (List (List ℕ))
texts_kind m = ok_or (option_and_then texts_in (as_array m.value)) (of_member WrongType m)

abbrev pub one_or_more : Data → Option (List (List ℕ))
one_or_more null = None
one_or_more (boolean b) = None
one_or_more (number n) = None
one_or_more (string text) = Some (text ∷ [])
one_or_more (array items) = texts_in items
one_or_more (object entries) = None

-- a text, or an array of texts
abbrev pub text_or_texts_kind : Kind (List (List ℕ))
text_or_texts_kind m = ok_or (one_or_more m.value) (of_member WrongType m)

-- any value, of which nothing is kept
abbrev pub any_kind : {V : Type 0} → V → Kind V
any_kind present m = Ok present

-- ---- optional values

abbrev pub there : {V : Type 0} → Result V Refusal → Result (Option V) Refusal
there (Ok v) = Ok (Some v)
there (Err refusal) = Err refusal

-- A null stands for an absent value.
abbrev pub or_null : {V : Type 0} → Kind V → Kind (Option V)
or_null kind m = if is_some (as_null m.value) then Ok None else there (kind m)
