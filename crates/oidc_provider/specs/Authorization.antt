-- What the authorization endpoint of a provider double answers, a line a refusal (RFC 6749 section 4.1.1, RFC 7636 section
-- 4.3, OpenID Connect Core 1.0 section 3.1.2.1).
use Rattle.std.specs.Prelude.{◌≡◌, ℕ, List, [], ◌∷◌, Bool, ◌&&◌, not, Option, None, Some, option_and_then, unwrap_or, Result, Ok, Err, if◌then◌else◌, codes, refl, String}
use Rattle.std.specs.String.{string_bytes}
use Rattle.std.specs.Coded.{Coded, code_by, coded_ℕ, coded_list, coded×}
use Rattle.std.specs.Str.{bytes_eq}
use Rattle.url.specs.Parts.{Parts}
use Rattle.http_header.specs.FieldValue.{is_visible_text}
use Rattle.oidc_pairs.specs.Pairs.{pairs}
use Rattle.oidc_pairs.specs.Form.{form}
use Rattle.oidc_oauth2.specs.Replies.{◌>>=◌, ◌>>◌, ◌when◌, ◌or◌}
use Rattle.oidc_provider.specs.Settings.{registered}
use Rattle.oidc_provider.specs.Grants.{has_code, has_token}
use Rattle.oidc_provider.specs.Provider.{SeenProvider}
use Rattle.oidc_provider.specs.Values.{Pairs, only, says}
use Rattle.oidc_provider.specs.declared.settings.Registration.{Registration}
use Rattle.oidc_provider.specs.declared.errors.AuthorizeError.{AuthorizeError}
use Rattle.oidc_provider.specs.declared.errors.AuthorizeError.TheVariants.{Client, Redirect, Request, Subject, CodeUsed, TokenUsed, TokenText, Memory}

-- what `authorize` is asked: the pairs of a URL's query, the subjects of the two claims, the code and the access token
pub record Asked : Type 0 where
  pub query : Pairs
  pub subject : List ℕ
  pub info_subject : List ℕ
  pub code : List ℕ
  pub token : List ℕ

abbrev pub asked : Parts → List ℕ → List ℕ → List ℕ → List ℕ → Asked
asked url subject info_subject code token = record {
  query = pairs (unwrap_or url.query []);
  subject = subject;
  info_subject = info_subject;
  code = code;
  token = token;
}

-- what a request for a code says of a login
pub record AskedLogin : Type 0 where
  pub state : List ℕ
  pub nonce : List ℕ
  pub challenge : List ℕ

abbrev pub asked_login_code : Coded AskedLogin
asked_login_code =
    code_by (List ℕ × (List ℕ × List ℕ)) (coded× (coded_list coded_ℕ) (coded× (coded_list coded_ℕ) (coded_list coded_ℕ)))
    (λ l. (l.state, (l.nonce, l.challenge))) (λ p. record { state = p.0; nonce = p.1.0; challenge = p.1.1 }) (λ _. refl)

-- all three
abbrev pub login_with : Option (List ℕ) → Option (List ℕ) → Option (List ℕ) → Option AskedLogin
login_with (Some state) (Some nonce) (Some challenge) =
    Some (record { state = state; nonce = nonce; challenge = challenge })
login_with _ _ _ = None

-- the client that pairs name
abbrev pub client_of : SeenProvider → Pairs → Option Registration
client_of p query = option_and_then (registered p.registrations) (only query (codes "client_id"))

-- It asks for a code, and proves by S256.
abbrev pub asks_for_code : Pairs → Bool
asks_for_code query =
    says query (codes "response_type") (codes "code") && says query (codes "code_challenge_method") (codes "S256")

-- a request for a code, proved by S256, with one state, one nonce and one challenge
abbrev pub login_of : Pairs → Option AskedLogin
login_of query =
    if asks_for_code query
    then login_with (only query (codes "state")) (only query (codes "nonce")) (only query (codes "code_challenge"))
    else None

-- whose request it is, and what it says of the login
pub record Allowed : Type 0 where
  pub client : Registration
  pub login : AskedLogin

unfoldable pub authorization : SeenProvider → Asked → Result Allowed AuthorizeError
authorization p a = do
  client ← client_of p a.query or Client
  Redirect when not (says a.query (codes "redirect_uri") client.redirect.text)
  login ← login_of a.query or Request
  Subject when not (bytes_eq a.subject a.info_subject)
  CodeUsed when has_code p.grants a.code
  TokenUsed when has_token p.grants a.token
  TokenText when not (is_visible_text a.token)
  Ok (record { client = client; login = login })

-- ---- what is answered

-- the pairs of the query with which the user comes back (RFC 6749 section 4.1.2), and the query
abbrev pub callback_pairs : List ℕ → List ℕ → Pairs
callback_pairs code state = (codes "code", code) ∷ (codes "state", state) ∷ []

abbrev pub callback_query : List ℕ → List ℕ → List ℕ
callback_query code state = form (callback_pairs code state)

abbrev pub authorization_reply : SeenProvider → Asked → Result (List ℕ) AuthorizeError
authorization_reply p a = do
  allowed ← authorization p a
  Ok (callback_query a.code allowed.login.state)

-- what is seen of a reply
abbrev pub seen_query : {Y : Type 0} → Result (String Y) AuthorizeError → Result (List ℕ) AuthorizeError
seen_query (Ok query) = Ok (string_bytes query)
seen_query (Err refusal) = Err refusal

-- the result is the reply that is meant, or want of memory
abbrev pub Replies : {A : Type 0} → Result A AuthorizeError → Result A AuthorizeError → Type 0
Replies (Err Memory) meant = Unit {0}
Replies result meant = result ≡ meant
