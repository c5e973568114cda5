-- Header fields of requests and responses (RFC 9110 sections 5.5 and 8.3, RFC 6750 section 2.1).
use Rattle.std.specs.Prelude.{ℕ, ◌-◌, ◌==◌, ◌&&◌, ◌||◌, List, ◌++◌, length, take, drop, Bool, true, Option, None, Some, option_map, codes}
use Rattle.std.specs.List.{prefix_len, suffix_len, before_first}
use Rattle.std.specs.Str.{str_eq_ignore_ascii_case}
use Rattle.http_header.specs.HeaderMap.{Entries, get}
use Rattle.http_header.specs.FieldValue.{FieldValue, is_visible_text}

-- a space or a tab (RFC 9110 section 5.6.3)
abbrev pub is_blank : ℕ → Bool
is_blank b = b == 0x20 || b == 0x09

-- the text without the spaces and tabs at both its ends
abbrev pub trimmed : List ℕ → List ℕ
trimmed text =
    let rest = drop (prefix_len is_blank text) text in
    take (length rest - suffix_len is_blank rest) rest

-- the essence of a media type: what stands before its parameters, and so before the first `;`, without
-- the spaces and tabs around it
unfoldable pub essence : List ℕ → List ℕ
essence value = trimmed (before_first (λ b. b == 59) value)

-- The value is visible ASCII, spaces and tabs alone, and has this essence in upper or lower case.
abbrev pub has_essence : List ℕ → List ℕ → Bool
has_essence value expected = is_visible_text value && str_eq_ignore_ascii_case (essence value) expected

-- A media type is absent, or has this essence.
abbrev pub may_be : Option (List ℕ) → List ℕ → Bool
may_be None expected = true
may_be (Some value) expected = has_essence value expected

-- the first `content-type`
abbrev pub content_type_in : Entries FieldValue → Option (List ℕ)
content_type_in headers = option_map (λ value. value.bytes) (get headers (codes "content-type"))

-- the credentials of a bearer token
abbrev pub bearer_of : List ℕ → List ℕ
bearer_of token = codes "Bearer " ++ token
