-- Which URLs of a provider are taken (OpenID Connect Discovery 1.0 sections 2, 3 and 7.1).
use Rattle.std.specs.Prelude.{ℕ, ◌==◌, List, ◌++◌, Bool, true, false, not, ◌||◌, is_some, codes, Option, None, Some}
use Rattle.std.specs.List.{list_any}
use Rattle.std.specs.Option.{option_or}
use Rattle.std.specs.Str.{bytes_eq}
use Rattle.url.specs.Parts.{has_credentials, serialize}
use Rattle.oidc_types.specs.{TextAndUrl}
use Rattle.oidc_discovery.specs.declared.urls.UrlFault.{UrlFault}
use Rattle.oidc_discovery.specs.declared.urls.UrlFault.TheVariants.{Scheme, Credentials, Fragment, Backslash, Query, Spelling}

abbrev pub fault_if : Bool → UrlFault → Option UrlFault → Option UrlFault
fault_if true fault later = Some fault
fault_if false fault later = later

-- the text has a backslash, which other readers of URLs than the URL Standard's take otherwise
abbrev pub has_backslash : List ℕ → Bool
has_backslash text = list_any (λ byte. byte == 0x5C) text

-- The text is the one by which the URL Standard writes the URL, or that one without the slash at its end, as where a path
-- is empty. So those who read it by RFC 3986 see the same URL.
abbrev pub is_as_written : TextAndUrl → Bool
is_as_written u = bytes_eq u.text (serialize u.url) || bytes_eq (u.text ++ codes "/") (serialize u.url)

-- why a URL isn't taken for what it has, the first of these that holds
unfoldable pub part_fault : TextAndUrl → Option UrlFault
part_fault u =
    fault_if (not (bytes_eq u.url.scheme (codes "https"))) Scheme
    (fault_if (has_credentials u.url) Credentials
    (fault_if (is_some u.url.fragment) Fragment
    (fault_if (has_backslash u.text) Backslash
    None)))

abbrev pub spelling_fault : TextAndUrl → Option UrlFault
spelling_fault u = fault_if (not (is_as_written u)) Spelling None

-- why a URL isn't taken
unfoldable pub url_fault : TextAndUrl → Option UrlFault
url_fault u = option_or (part_fault u) (spelling_fault u)

-- an issuer has no query either (section 2)
unfoldable pub issuer_fault : TextAndUrl → Option UrlFault
issuer_fault u = option_or (part_fault u) (fault_if (is_some u.url.query) Query (spelling_fault u))
