-- a URL beside the text that it was given as
use Rattle.std.specs.Prelude.{◌≡◌, ◌++◌, List, ℕ, nat_eq, codes, Result, Ok, Err, None, refl, if◌then◌else◌}
use Rattle.std.specs.List.{ends_with}
use Rattle.std.specs.Coded.{Coded, code_by, coded_ℕ, coded_list, coded×}
use Rattle.url.specs.Parts.{Parts, parts_code}
use Rattle.url.specs.Parser.{parse_url}
use Rattle.oidc_types.specs.declared.url_text.UrlTextError.{UrlTextError}
use Rattle.oidc_types.specs.declared.url_text.UrlTextError.TheVariants.{Refused, Memory}

-- what contracts see of a `UrlText`: the text as it was given, and the URL
pub record TextAndUrl : Type 0 where
  pub text : List ℕ
  pub url : Parts

abbrev pub text_and_url_code : Coded TextAndUrl
text_and_url_code = code_by (List ℕ × Parts) (coded× (coded_list coded_ℕ) parts_code) (λ u. (u.text, u.url)) (λ p. record { text = p.0; url = p.1 }) (λ _. refl)

-- the URL is what the URL Standard reads of the text with no base; it is refused for the standard's
-- cause; or there is no memory
abbrev pub ParsesUrl : Result Parts UrlTextError → List ℕ → Type 0
ParsesUrl (Ok url) text = parse_url None text ≡ Ok url
ParsesUrl (Err (Refused e)) text = parse_url None text ≡ Err e
ParsesUrl (Err Memory) text = Unit {0}

-- the same, with the text kept as it was given
abbrev pub ReadsUrl : Result TextAndUrl UrlTextError → List ℕ → Type 0
ReadsUrl (Ok u) text = (u.text ≡ text) × (parse_url None text ≡ Ok u.url)
ReadsUrl (Err e) text = ParsesUrl (Err e) text

-- the text of a suffix below an issuer: one slash stands between
abbrev pub joined_text : List ℕ → List ℕ → List ℕ
joined_text text suffix =
    if ends_with nat_eq text (codes "/") then text ++ suffix else text ++ codes "/" ++ suffix

-- two URLs that were read of equal texts are equal
abbrev pub SameTextSameUrl : Type 0
SameTextSameUrl =
    (a b : TextAndUrl) (given other : List ℕ) → ReadsUrl (Ok a) given → ReadsUrl (Ok b) other
    → a.text ≡ b.text → a.url ≡ b.url
