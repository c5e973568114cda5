-- The first begin is accepted: its URL, and what stands in it.
use Rattle.std.proofs.Common.{◌≡◌, ℕ, ◌<◌, zero, suc, List, [], ◌∷◌, All, true, false, Option, Some, Ok, Err, refl, sym, ap, subst, ◌∙◌, arith, get_or}
use Rattle.std.specs.Prelude.{codes, nat_lt, is_some, unwrap_or, IsUtf8}
use Rattle.std.specs.List.{list_all}
use Rattle.std.specs.FinMap as finite
use Rattle.std.specs.Ordering.{nat_cmp}
use Rattle.std.specs.Cmp.Lexicographic.{slice_cmp}
use Rattle.std.proofs.lemmas.Bool.{and_parts, ltb-true}
use Rattle.std.proofs.lemmas.List.Elements.{All-cons, All-nil}
use Rattle.std.proofs.lemmas.Str.{IsUtf8-from_ascii}
use Rattle.base64.proofs.OnLiterals.{base64_on_literals}
use Rattle.sha2.specs.Sha256.{sha256, digest_bytes, hash_after, compress, rounds, schedule, first_words}
use Rattle.url.specs.Parts.{Parts}
use Rattle.url.proofs.OnLiterals.{url_on_literals}
use Rattle.oidc_pairs.specs.Pairs.{values, values_in, IsTextPair}
use Rattle.oidc_pairs.specs.Form.{form}
use Rattle.oidc_pairs.proofs.Theorems.{pairs-form}
use Rattle.oidc_keys.specs.CoreJwk.{SymmetricKey}
use Rattle.oidc_oauth2.specs.Pkce.{s256}
use Rattle.oidc_oauth2.specs.Replies.{◌>>=◌, ◌>>◌, ◌when◌}
use Rattle.oidc_client.specs.Authorization.{auth_list, query_values, HasChallenge, StandOnce}
use Rattle.oidc_login.specs.Logins.{SeenLogin, SeenLogins}
use Rattle.oidc_login.specs.Begin.{LoginRequest, Begin, begin_of, with_login, Begins, Meant, begin_reply, challenge_or_refusal, url_or_refusal, is_long_url}
use Rattle.oidc_login.specs.declared.errors.BeginError.{BeginError}
use Rattle.oidc_login.specs.declared.errors.BeginError.TheVariants as begin
use Rattle.tests_of_provider.specs.Literals.{own_metadata, own_client, own_request, own_begin, own_url, no_logins, own_logins, own_demand, own_verifier, own_challenge}

-- ---- literals are texts

low_at : (bytes : List ℕ) → list_all (λ b. nat_lt b 128) bytes ≡ true → (i : ℕ) → get_or bytes i 0 < 128
low_at [] low i = omega arith
low_at (b ∷ bytes) low zero = ltb-true b 128 (and_parts (nat_lt b 128) (list_all (λ b. nat_lt b 128) bytes) low).0
low_at (b ∷ bytes) low (suc i) = low_at bytes (and_parts (nat_lt b 128) (list_all (λ b. nat_lt b 128) bytes) low).1 i

pub ascii : (bytes : List ℕ) → list_all (λ b. nat_lt b 128) bytes ≡ true → IsUtf8 bytes
ascii bytes low = IsUtf8-from_ascii bytes (low_at bytes low)

-- ---- the challenge

pub challenge_is : s256 own_verifier ≡ own_challenge
unfolding s256 sha256 digest_bytes hash_after compress rounds schedule first_words base64_on_literals
challenge_is = refl

-- ---- the URL

abbrev Pairs : Type 0
Pairs = List (List ℕ × List ℕ)

abbrev own_list : Pairs
own_list =
    (codes "response_type", codes "code") ∷ (codes "client_id", codes "aaa") ∷ (codes "state", codes "CSRF123")
    ∷ (codes "code_challenge", own_challenge) ∷ (codes "code_challenge_method", codes "S256")
    ∷ (codes "redirect_uri", codes "https://site/back") ∷ (codes "scope", codes "openid") ∷ (codes "nonce", codes "NONCE456") ∷ []

query_is : own_url.query ≡ Some (form own_list)
unfolding own_url own_request own_client own_metadata auth_list url_on_literals
query_is = refl

one_more : (pair : List ℕ × List ℕ) (list : Pairs) → IsTextPair pair → All IsTextPair list → All IsTextPair (pair ∷ list)
one_more pair list one all = All-cons IsTextPair pair list one all

low_pairs : (list : Pairs) → list_all (λ p. list_all (λ b. nat_lt b 128) p.0) list ≡ true → list_all (λ p. list_all (λ b. nat_lt b 128) p.1) list ≡ true
    → All IsTextPair list
low_pairs [] names texts = All-nil IsTextPair
low_pairs (pair ∷ list) names texts =
    let first = and_parts (list_all (λ b. nat_lt b 128) pair.0) (list_all (λ p. list_all (λ b. nat_lt b 128) p.0) list) names in
    let second = and_parts (list_all (λ b. nat_lt b 128) pair.1) (list_all (λ p. list_all (λ b. nat_lt b 128) p.1) list) texts in
    one_more pair list (ascii pair.0 first.0, ascii pair.1 second.0) (low_pairs list first.1 second.1)

own_texts : All IsTextPair own_list
own_texts = low_pairs own_list refl refl

-- the values that its query has for a name are those of the list
pub values_are : (name : List ℕ) → query_values own_url name ≡ values_in own_list name
values_are name =
    ap (λ query. values (unwrap_or query []) name) query_is ∙ ap (λ found. values_in found name) (pairs-form own_list own_texts)

pub stand_once : StandOnce own_request own_url
unfolding own_request own_client own_metadata
stand_once = record {
  client_id = values_are (codes "client_id");
  state = values_are (codes "state");
  nonce = values_are (codes "nonce");
  redirect_uri = values_are (codes "redirect_uri");
}

literal_challenge : HasChallenge own_challenge own_url
literal_challenge = record {
  code_challenge = ([], [], values_are (codes "code_challenge"));
  code_challenge_method = ([], [], values_are (codes "code_challenge_method"));
}

pub has_challenge : HasChallenge (s256 own_verifier) own_url
has_challenge = subst (λ challenge. HasChallenge challenge own_url) (sym challenge_is) literal_challenge

-- ---- the reply

not_long : is_long_url own_url ≡ false
unfolding own_url own_request own_client own_metadata auth_list form url_on_literals
not_long = refl

challenged : challenge_or_refusal own_client.client_id (is_some own_client.user_info_url) finite.empty own_begin ≡ Ok (s256 own_verifier)
unfolding challenge_or_refusal own_begin own_request own_client own_metadata
challenged =
    ap (λ (o : Option SeenLogin). (begin.Pending when is_some o) >> Ok (s256 own_verifier)) (finite.get-empty (slice_cmp nat_cmp) (codes "CSRF123"))

fits : url_or_refusal own_request own_challenge ≡ Ok own_url
unfolding url_or_refusal own_url
fits = ap (λ b. (begin.TooLong when b) >> Ok own_url) not_long

answered : url_or_refusal own_begin.request (s256 own_verifier) ≡ Ok own_url
unfolding own_begin
answered = ap (λ challenge. url_or_refusal own_request challenge) challenge_is ∙ fits

reply_is : begin_reply own_client finite.empty own_begin ≡ Ok own_url
reply_is = ap (λ (r : Meant (List ℕ)). r >>= λ challenge. url_or_refusal own_begin.request challenge) challenged ∙ answered

same_Ok : (x y : Parts) → ◌≡◌ {A = Meant Parts} (Ok x) (Ok y) → x ≡ y
same_Ok x y e = cc

other : (e : BeginError) (url : Parts) → ◌≡◌ {A = Meant Parts} (Err e) (Ok url) → ⊥
other e url is = cc

refused : (e : BeginError) → Begins {A = Parts} (Err e) (Ok own_url) → e ≡ begin.Memory
refused begin.Flow is = absurd (other begin.Flow own_url is)
refused begin.ClientId is = absurd (other begin.ClientId own_url is)
refused begin.Verifier is = absurd (other begin.Verifier own_url is)
refused begin.UserInfoEndpoint is = absurd (other begin.UserInfoEndpoint own_url is)
refused begin.Pending is = absurd (other begin.Pending own_url is)
refused begin.TooLong is = absurd (other begin.TooLong own_url is)
refused begin.Memory is = refl

pub own_begin_is : (request : LoginRequest) (verifier : List ℕ) → request ≡ own_request → verifier ≡ own_verifier
    → begin_of request verifier (Some own_demand) ≡ own_begin
unfolding own_begin
own_begin_is request verifier ir iv = λ i. begin_of (ir i) (iv i) (Some own_demand)

module _ (logins : SeenLogins SymmetricKey) (b : Begin) (none : logins ≡ no_logins) (own : b ≡ own_begin) where
  meant_is : begin_reply logins.client logins.pending b ≡ Ok own_url
  unfolding no_logins
  meant_is = (λ i. begin_reply (none i).client (none i).pending (own i)) ∙ reply_is

  -- it gives that URL
  pub begun_url : (url : Parts) → Begins (Ok url) (begin_reply logins.client logins.pending b) → url ≡ own_url
  begun_url url is = same_Ok url own_url (is ∙ meant_is)

  -- and is refused for want of memory alone
  pub only_memory : (e : BeginError) → Begins {A = Parts} (Err e) (begin_reply logins.client logins.pending b) → e ≡ begin.Memory
  only_memory e is = refused e (subst (λ (meant : Meant Parts). Begins {A = Parts} (Err e) meant) meant_is is)

  -- the store has it
  pub begun_logins : (new : SeenLogins SymmetricKey) → new.client ≡ logins.client → new.pending ≡ with_login logins.pending b → new ≡ own_logins
  unfolding no_logins own_logins
  begun_logins new same recorded =
      (λ i. record { client = same i; pending = recorded i }) ∙ (λ i. record { client = (none i).client; pending = with_login (none i).pending (own i) })
