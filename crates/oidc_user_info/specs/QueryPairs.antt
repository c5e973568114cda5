-- URLs with pairs after their query (RFC 6749 section 3.1, OpenID Connect RP-Initiated Logout 1.0 section 2).
use Rattle.std.specs.Prelude.{◌≡◌, ℕ, ◌<◌, ◌≤◌, List, [], ◌∷◌, ◌++◌, length, Option, None, Some, unwrap_or, Result, Ok, Err, codes}
use Rattle.std.specs.Borrow.{Bor}
use Rattle.std.specs.List.{join_by, flat_map}
use Rattle.std.specs.Option.{option_copied}
use Rattle.url.specs.Parts.{Parts, serialize}
use Rattle.oidc_pairs.specs.Form.{form}
use Rattle.oidc_oauth2.specs.ClientAuth.{pair_if}
use Rattle.oidc_user_info.specs.declared.query_pairs.BuildUrlError.{BuildUrlError}
use Rattle.oidc_user_info.specs.declared.query_pairs.BuildUrlError.TheVariants.{TooLong, Memory}

-- ---- the list of pairs

-- texts, with single spaces between them (RFC 6749 section 3.3, OpenID Connect Core 1.0 section 3.1.2.1)
abbrev pub spaced : List (List ℕ) → List ℕ
spaced texts = join_by (λ text. text) (codes " ") texts

-- the same, where there is a text at all
abbrev pub spaced_if : List (List ℕ) → Option (List ℕ)
spaced_if [] = None
spaced_if (text ∷ later) = Some (spaced (text ∷ later))

-- what a name and a value that may be absent say
abbrev pub named_value : Bor (List ℕ) × Option (Bor (List ℕ)) → List ℕ × Option (List ℕ)
named_value given = (given.0.now, option_copied given.1)

-- a pair for each name that has a value, in their order
abbrev pub given_pairs : List (List ℕ × Option (List ℕ)) → List (List ℕ × List ℕ)
given_pairs list = flat_map (λ given. pair_if given.0 given.1) list

-- ---- the URL

-- a query with a text after it, and an `&` between them where the query isn't empty
abbrev pub joined : List ℕ → List ℕ → List ℕ
joined [] text = text
joined (b ∷ query) text = b ∷ query ++ codes "&" ++ text

-- a query that isn't empty
abbrev pub kept_query : Option (List ℕ) → Option (List ℕ)
kept_query None = None
kept_query (Some []) = None
kept_query (Some (b ∷ query)) = Some (b ∷ query)

-- a query with the form text of pairs after it; without pairs it stays, and an empty one becomes none
abbrev pub extended_query : Option (List ℕ) → List (List ℕ × List ℕ) → Option (List ℕ)
extended_query query [] = kept_query query
extended_query query (pair ∷ list) = Some (joined (unwrap_or query []) (form (pair ∷ list)))

-- an endpoint with pairs after its query: all else of it stays, its fragment too
abbrev pub extended : Parts → List (List ℕ × List ℕ) → Parts
extended endpoint list = record endpoint { query = extended_query endpoint.query list }

-- The result is the URL that is meant, which has at most 1,048,576 bytes; or `TooLong`, since it has more; or
-- `Memory`.
abbrev pub Builds : Result Parts BuildUrlError → Parts → Type 0
Builds (Ok url) meant = (url ≡ meant) × (length (serialize meant) ≤ 1_048_576)
Builds (Err TooLong) meant = 1_048_576 < length (serialize meant)
Builds (Err Memory) meant = Unit {0}
