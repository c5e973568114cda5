-- The values on the lines of a script, and their kinds.
use Rattle.std.specs.Prelude.{ℕ, ◌==◌, nat_lt, nat_le, ℤ, pos, neg_ℤ, List, [], ◌∷◌, length, Bool, true, false, ◌&&◌, Option, None, Some, Ok, Err, option_and_then, option_map, if◌then◌else◌, is_none, codes}
use Rattle.std.specs.List.{list_all, slice_split}
use Rattle.std.specs.Str.{all_ascii_digits, bytes_eq}
use Rattle.std.specs.Str.Parse.{digits_value}
use Rattle.url.specs.Parser.{parse_url}
use Rattle.http_header.specs.Token.{is_visible_or_blank}
use Rattle.oidc_members.specs.declared.reading.Reading.{Reading}
use Rattle.oidc_members.specs.Seen.{strict}
use Rattle.oidc_types.specs.declared.core_algorithms.CoreJwsSigningAlgorithm.{CoreJwsSigningAlgorithm}
use Rattle.oidc_types.specs.{TextAndUrl, find_word, signing_text, signing_algorithms}
use Rattle.oidc_readers.specs.Moments.{moment_at}
use Rattle.oidc_pairs.specs.Pairs.{values_in, first_of, only_of}
use Rattle.oidc_user_info.specs.declared.requests.UserInfoResponseType.{UserInfoResponseType}
use Rattle.oidc_user_info.specs.declared.requests.UserInfoResponseType.TheVariants.{Json, Jwt}
use Rattle.oidc_login.specs.declared.types.UserInfoDemand.{UserInfoDemand}

-- one step after another, as long as each has a value
infixl 10 ◌>>=◌
abbrev pub ◌>>=◌ : {A B : Type 0} → Option A → (A → Option B) → Option B
None >>= f = None
(Some value) >>= f = f value

-- ---- the pairs of a line

-- the value of the one pair with this name
abbrev pub pair_text : List (List ℕ × List ℕ) → List ℕ → Option (List ℕ)
pair_text line name = only_of (values_in line name)

-- that value, where it is of a kind
abbrev pub pair_value : {A : Type 0} → (List ℕ → Option A) → List (List ℕ × List ℕ) → List ℕ → Option A
pair_value kind line name = pair_text line name >>= kind

-- ---- URLs

-- a text that the URL Standard takes, and the URL that it reads
abbrev pub url_of_text : List ℕ → Option TextAndUrl
url_of_text text =
    elim (parse_url None text) [ Ok url ↦ Some (record { text = text; url = url }) | Err error ↦ None ]

-- a line has no pair with this name
abbrev pub lacks : List (List ℕ × List ℕ) → List ℕ → Bool
lacks line name = is_none (first_of (values_in line name))

-- the value of the one pair with this name, where it is of a kind; or none, where there is no such pair
abbrev pub optional_value : {A : Type 0} → (List ℕ → Option A) → List (List ℕ × List ℕ) → List ℕ → Option (Option A)
optional_value kind line name = if lacks line name then Some None else option_map Some (pair_value kind line name)

-- ---- signing algorithms

-- the algorithms of these texts, where each is the text of one
abbrev pub all_algorithms : List (List ℕ) → Option (List CoreJwsSigningAlgorithm)
all_algorithms [] = Some []
all_algorithms (text ∷ texts) =
    option_and_then (λ algorithm. option_map (λ later. algorithm ∷ later) (all_algorithms texts))
    (find_word signing_text signing_algorithms text)

-- texts of algorithms, joined by one space; the empty text is the empty list
unfoldable pub algorithms_of : List ℕ → Option (List CoreJwsSigningAlgorithm)
algorithms_of [] = Some []
algorithms_of (b ∷ text) = all_algorithms (slice_split (λ c. c == 32) (b ∷ text))

-- ---- readings

-- `lenient` takes texts for booleans and for moments
abbrev pub reading_of : List ℕ → Option Reading
reading_of text =
    if bytes_eq text (codes "lenient") then Some (record { string_booleans = true; rfc3339_moments = true }) else None

-- the reading of a line that names one, and else the strict one
abbrev pub reading_on : List (List ℕ × List ℕ) → Option Reading
reading_on line =
    if lacks line (codes "reading") then Some strict else pair_value reading_of line (codes "reading")

-- ---- demands

-- what is demanded of user info in an answer of this kind: that a token has this issuer and is for this client
abbrev pub demanding : Bool → UserInfoResponseType → UserInfoDemand
demanding signed kind =
    record { signed = signed; issuer_match = true; audience_match = true; response_type = kind }

-- `json` asks for an object; `jwt` asks for a token, and takes no other answer
abbrev pub demand_of : List ℕ → Option UserInfoDemand
demand_of text =
    if bytes_eq text (codes "json") then Some (demanding false Json)
    else if bytes_eq text (codes "jwt") then Some (demanding true Jwt)
    else None

-- ---- numbers

-- the number that one decimal digit or more write
abbrev pub decimal_of : List ℕ → Option ℕ
decimal_of text =
    if nat_lt 0 (length text) && all_ascii_digits text then Some (digits_value 10 text) else None

-- the whole number that digits write, below zero behind a `-`
abbrev pub whole_of : List ℕ → Option ℤ
whole_of [] = None
whole_of (b ∷ text) =
    if b == 45 then option_map (λ n. neg_ℤ (pos n)) (decimal_of text)
    else option_map pos (decimal_of (b ∷ text))

-- a moment at whole seconds since the Unix epoch, as nanoseconds
unfoldable pub moment_of_text : List ℕ → Option ℤ
moment_of_text text = option_and_then moment_at (whole_of text)

-- ---- parts of an answer

-- a status code: three digits that write a number from 100 on
unfoldable pub status_code_of : List ℕ → Option ℕ
status_code_of text =
    option_and_then (λ n. if nat_le 100 n then Some n else None)
    (if length text == 3 then decimal_of text else None)

-- a content type: tabs, spaces and visible ASCII
unfoldable pub content_type_of : List ℕ → Option (List ℕ)
content_type_of text = if list_all is_visible_or_blank text then Some text else None
