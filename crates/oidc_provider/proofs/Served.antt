-- What a provider answers to the two requests of a login.
use Rattle.std.proofs.Common.{◌≡◌, ℕ, List, [], ◌∷◌, Bool, true, false, ◌&&◌, not, cond, Option, None, Some, All, refl, ap, ◌∙◌}
use Rattle.std.specs.Prelude.{codes, option_map, option_and_then, IsUtf8}
use Rattle.std.specs.Bool.{then_some}
use Rattle.std.specs.Option.{option_map_or}
use Rattle.std.specs.FinMap as finite
use Rattle.std.specs.Ordering.{nat_cmp, eq_by_cmp}
use Rattle.std.specs.Cmp.Lexicographic.{slice_cmp}
use Rattle.std.specs.Str.{bytes_eq}
use Rattle.std.proofs.lemmas.Cmp.{nat_list_cmp_total}
use Rattle.std.proofs.lemmas.List.Elements.{All-cons, All-nil}
use Rattle.std.proofs.lemmas.Map.Text.{is_eq-slice_cmp}
use Rattle.url.specs.Parts.{serialize}
use Rattle.http_header.specs.HeaderMap.{get}
use Rattle.http_header.specs.FieldValue.{plain_value, is_visible_text}
use Rattle.oidc_pairs.specs.Pairs.{pairs, IsTextPair}
use Rattle.oidc_pairs.specs.Form.{form}
use Rattle.oidc_pairs.proofs.Theorems.{pairs-form}
use Rattle.oidc_members.specs.declared.reading.Reading.{Reading}
use Rattle.oidc_members.specs.declared.reading.TheConstants.Reading.{STRICT}
use Rattle.oidc_oauth2.specs.Messages.{SeenRequest}
use Rattle.oidc_oauth2.specs.ClientAuth.{SeenClientAuth, basic_credentials, authorization_of}
use Rattle.oidc_oauth2.specs.Requests.{SeenCodeRequest, headers_with, code_pairs, post_of}
use Rattle.oidc_oauth2.specs.HttpUtils.{bearer_of}
use Rattle.oidc_oauth2.specs.Pkce.{s256}
use Rattle.oidc_oauth2.specs.declared.client_auth.AuthType.{AuthType}
use Rattle.oidc_oauth2.specs.declared.client_auth.AuthType.TheVariants.{BasicAuth, RequestBody}
use Rattle.oidc_user_info.specs.InfoRequests.{get_with}
use Rattle.oidc_user_info.specs.declared.requests.UserInfoResponseType.{UserInfoResponseType}
use Rattle.oidc_provider.specs.declared.settings.Registration.{Registration}
use Rattle.oidc_provider.specs.Settings.{registered}
use Rattle.oidc_provider.specs.Grants.{SeenGrant, grant_of_code, grant_of_token, redeemed_by, marked}
use Rattle.oidc_provider.specs.Provider.{SeenProvider}
use Rattle.oidc_provider.specs.Values.{Pairs, only, is_it, says}
use Rattle.oidc_provider.specs.Answers.{credentials_in, authenticates_by, asks_for_tokens, asks_for_info, is_authenticated, is_of_client, proves, may_redeem, asked_grant, bearer_in, borne_grant, tokens_of, user_info_of, provider_answer, after}
use Rattle.oidc_provider.proofs.Table.{by_rows, answer_by_rows, tokens_row, info_row}
use Rattle.oidc_provider.proofs.AsciiNames.{ascii}
use Rattle.oidc_provider.proofs.Registered.{any_of_found, own_id, same_text, equal_texts}

-- ---- the request for tokens

-- the credentials of a request that a client makes are those that it sends in a header
credentials_by : (o : Option (List ℕ)) → option_map (λ v. v.bytes) (get (headers_with (option_map plain_value o)) (codes "authorization")) ≡ o
credentials_by None = refl
credentials_by (Some credentials) = refl

-- the pairs of a code request, by how its client authenticates
abbrev pairs_by : AuthType → List ℕ → List ℕ → List ℕ → List ℕ → List ℕ → Pairs
pairs_by BasicAuth id secret code verifier redirect =
    (codes "grant_type", codes "authorization_code") ∷ (codes "code", code) ∷ (codes "code_verifier", verifier)
    ∷ (codes "redirect_uri", redirect) ∷ []
pairs_by RequestBody id secret code verifier redirect =
    (codes "grant_type", codes "authorization_code") ∷ (codes "code", code) ∷ (codes "code_verifier", verifier)
    ∷ (codes "client_id", id) ∷ (codes "client_secret", secret) ∷ (codes "redirect_uri", redirect) ∷ []

abbrev pub client_by : AuthType → List ℕ → List ℕ → SeenClientAuth
client_by kind id secret = record { client_id = id; client_secret = Some secret; auth_type = kind }

abbrev pub request_by : Reading → AuthType → List ℕ → List ℕ → List ℕ → List ℕ → List ℕ → List ℕ → SeenCodeRequest
request_by reading kind address id secret code verifier redirect = record {
  address = address;
  client = client_by kind id secret;
  code = code;
  verifier = Some verifier;
  redirect_uri = Some redirect;
  extra = [];
  reading = reading;
}

-- whatever reading it has
code_pairs_by : (reading : Reading) (kind : AuthType) (address id secret code verifier redirect : List ℕ)
    → code_pairs (request_by reading kind address id secret code verifier redirect) ≡ pairs_by kind id secret code verifier redirect
code_pairs_by reading BasicAuth address id secret code verifier redirect = refl
code_pairs_by reading RequestBody address id secret code verifier redirect = refl

-- the names of the pairs, and the grant type, are UTF-8
grant_type_text : IsTextPair (codes "grant_type", codes "authorization_code")
grant_type_text = (ascii (codes "grant_type") refl, ascii (codes "authorization_code") refl)

code_name : IsUtf8 (codes "code")
code_name = ascii (codes "code") refl

verifier_name : IsUtf8 (codes "code_verifier")
verifier_name = ascii (codes "code_verifier") refl

redirect_name : IsUtf8 (codes "redirect_uri")
redirect_name = ascii (codes "redirect_uri") refl

id_name : IsUtf8 (codes "client_id")
id_name = ascii (codes "client_id") refl

secret_name : IsUtf8 (codes "client_secret")
secret_name = ascii (codes "client_secret") refl

one_more : (pair : List ℕ × List ℕ) (list : Pairs) → IsTextPair pair → All IsTextPair list → All IsTextPair (pair ∷ list)
one_more pair list one all = All-cons IsTextPair pair list one all

pairs_text : (kind : AuthType) (id secret code verifier redirect : List ℕ) → IsUtf8 id → IsUtf8 secret → IsUtf8 code → IsUtf8 verifier → IsUtf8 redirect
    → All IsTextPair (pairs_by kind id secret code verifier redirect)
pairs_text BasicAuth id secret code verifier redirect i s c v r =
    let last : Pairs = (codes "redirect_uri", redirect) ∷ [] in
    let third : Pairs = (codes "code_verifier", verifier) ∷ last in
    let second : Pairs = (codes "code", code) ∷ third in
    one_more (codes "grant_type", codes "authorization_code") second grant_type_text
    (one_more (codes "code", code) third (code_name, c)
    (one_more (codes "code_verifier", verifier) last (verifier_name, v)
    (one_more (codes "redirect_uri", redirect) [] (redirect_name, r) (All-nil IsTextPair))))
pairs_text RequestBody id secret code verifier redirect i s c v r =
    let last : Pairs = (codes "redirect_uri", redirect) ∷ [] in
    let fifth : Pairs = (codes "client_secret", secret) ∷ last in
    let fourth : Pairs = (codes "client_id", id) ∷ fifth in
    let third : Pairs = (codes "code_verifier", verifier) ∷ fourth in
    let second : Pairs = (codes "code", code) ∷ third in
    one_more (codes "grant_type", codes "authorization_code") second grant_type_text
    (one_more (codes "code", code) third (code_name, c)
    (one_more (codes "code_verifier", verifier) fourth (verifier_name, v)
    (one_more (codes "client_id", id) fifth (id_name, i)
    (one_more (codes "client_secret", secret) last (secret_name, s)
    (one_more (codes "redirect_uri", redirect) [] (redirect_name, r) (All-nil IsTextPair))))))

-- ---- what the rows look at, of these pairs

abbrev credentials_of : AuthType → List ℕ → List ℕ → Option (List ℕ)
credentials_of BasicAuth id secret = Some (basic_credentials id secret)
credentials_of RequestBody id secret = None

authorization_by : (kind : AuthType) (id secret : List ℕ) → authorization_of (client_by kind id secret) ≡ credentials_of kind id secret
authorization_by BasicAuth id secret = refl
authorization_by RequestBody id secret = refl

authenticated_by : (kind : AuthType) (r : Registration) (code verifier redirect : List ℕ)
    → authenticates_by (credentials_of kind r.client_id r.secret) (pairs_by kind r.client_id r.secret code verifier redirect) r ≡ true
authenticated_by BasicAuth r code verifier redirect = same_text (basic_credentials r.client_id r.secret)
authenticated_by RequestBody r code verifier redirect = rw (same_text r.client_id, same_text r.secret) refl

by_code : (kind : AuthType) (id secret code verifier redirect : List ℕ)
    → says (pairs_by kind id secret code verifier redirect) (codes "grant_type") (codes "authorization_code") ≡ true
by_code BasicAuth id secret code verifier redirect = refl
by_code RequestBody id secret code verifier redirect = refl

code_of : (kind : AuthType) (id secret code verifier redirect : List ℕ)
    → only (pairs_by kind id secret code verifier redirect) (codes "code") ≡ Some code
code_of BasicAuth id secret code verifier redirect = refl
code_of RequestBody id secret code verifier redirect = refl

redirect_of : (kind : AuthType) (id secret code verifier redirect : List ℕ)
    → only (pairs_by kind id secret code verifier redirect) (codes "redirect_uri") ≡ Some redirect
redirect_of BasicAuth id secret code verifier redirect = refl
redirect_of RequestBody id secret code verifier redirect = refl

verifier_of : (kind : AuthType) (id secret code verifier redirect : List ℕ)
    → only (pairs_by kind id secret code verifier redirect) (codes "code_verifier") ≡ Some verifier
verifier_of BasicAuth id secret code verifier redirect = refl
verifier_of RequestBody id secret code verifier redirect = refl

all_four : (a b c d : Bool) → a ≡ true → b ≡ true → c ≡ true → d ≡ true → (a && b && c && d) ≡ true
all_four a b c d ea eb ec ed = rw (ea, eb, ec, ed) refl

both : (a b : Bool) → a ≡ true → b ≡ true → (a && b) ≡ true
both a b ea eb = rw (ea, eb) refl

opposite : (b : Bool) → b ≡ false → not b ≡ true
opposite b e = rw e refl

module _ (p : SeenProvider) (g : SeenGrant) (client : Registration) (kind : AuthType) (address verifier redirect : List ℕ) where
  abbrev asked_pairs : Pairs
  asked_pairs = pairs_by kind client.client_id client.secret g.code verifier redirect

  abbrev pub token_request : SeenRequest
  token_request =
      post_of address (client_by kind client.client_id client.secret)
      (code_pairs (request_by STRICT kind address client.client_id client.secret g.code verifier redirect))

  credentials_sent : credentials_in token_request ≡ credentials_of kind client.client_id client.secret
  credentials_sent =
      credentials_by (authorization_of (client_by kind client.client_id client.secret))
      ∙ authorization_by kind client.client_id client.secret

  module _ (i : IsUtf8 client.client_id) (s : IsUtf8 client.secret) (c : IsUtf8 g.code) (v : IsUtf8 verifier) (r : IsUtf8 redirect) where
    pairs_sent : pairs token_request.body ≡ asked_pairs
    pairs_sent =
        ap (λ list. pairs (form list)) (code_pairs_by STRICT kind address client.client_id client.secret g.code verifier redirect)
        ∙ pairs-form asked_pairs (pairs_text kind client.client_id client.secret g.code verifier redirect i s c v r)

    own_authentication : authenticates_by (credentials_in token_request) (pairs token_request.body) client ≡ true
    own_authentication =
        ap (λ o. authenticates_by o (pairs token_request.body) client) credentials_sent
        ∙ ap (λ body. authenticates_by (credentials_of kind client.client_id client.secret) body client) pairs_sent
        ∙ authenticated_by kind client g.code verifier redirect

    module _ (known : registered p.registrations g.client ≡ Some client) where
      abbrev by_id : Registration → Bool
      by_id r = bytes_eq r.client_id g.client

      abbrev by_credentials : Registration → Bool
      by_credentials r = authenticates_by (credentials_in token_request) (pairs token_request.body) r

      authenticated : is_authenticated p.registrations token_request ≡ true
      authenticated = any_of_found by_id by_credentials p.registrations client known own_authentication

      of_its_client : is_of_client p.registrations token_request g.client ≡ true
      of_its_client =
          any_of_found by_id (λ r. by_id r && by_credentials r) p.registrations client known
          (both (by_id client) (by_credentials client) (equal_texts client.client_id g.client (own_id p.registrations g.client client known)) own_authentication)

      module _ (of_own_code : grant_of_code p.grants g.code ≡ Some g) (unredeemed : g.redeemed ≡ false) (same_redirect : redirect ≡ g.redirect)
          (same_challenge : s256 verifier ≡ g.challenge) where
        says_redirect : says (pairs token_request.body) (codes "redirect_uri") g.redirect ≡ true
        says_redirect =
            ap (λ body. says body (codes "redirect_uri") g.redirect) pairs_sent
            ∙ ap (λ o. is_it o g.redirect) (redirect_of kind client.client_id client.secret g.code verifier redirect)
            ∙ equal_texts redirect g.redirect same_redirect

        proved : proves p token_request g ≡ true
        proved =
            ap (λ body. option_map_or (λ text. bytes_eq (s256 text) g.challenge) (only body (codes "code_verifier")) false) pairs_sent
            ∙ ap (λ o. option_map_or (λ text. bytes_eq (s256 text) g.challenge) o false) (verifier_of kind client.client_id client.secret g.code verifier redirect)
            ∙ equal_texts (s256 verifier) g.challenge same_challenge

        allowed : may_redeem p token_request g ≡ true
        allowed =
            all_four (not g.redeemed) (is_of_client p.registrations token_request g.client) (says (pairs token_request.body) (codes "redirect_uri") g.redirect)
            (proves p token_request g) (opposite g.redeemed unredeemed) of_its_client says_redirect proved

        found : asked_grant p token_request ≡ Some g
        found =
            ap (λ body. option_and_then (λ grant. then_some (may_redeem p token_request grant) grant) (option_and_then (grant_of_code p.grants) (only body (codes "code")))) pairs_sent
            ∙ ap (λ o. option_and_then (λ grant. then_some (may_redeem p token_request grant) grant) (option_and_then (grant_of_code p.grants) o))
            (code_of kind client.client_id client.secret g.code verifier redirect)
            ∙ ap (λ o. option_and_then (λ grant. then_some (may_redeem p token_request grant) grant) o) of_own_code
            ∙ ap (λ b. then_some b g) allowed

        module _ (same_address : address ≡ serialize p.settings.token.url) where
          asks : asks_for_tokens p token_request ≡ true
          asks = equal_texts address (serialize p.settings.token.url) same_address

          by_its_code : says (pairs token_request.body) (codes "grant_type") (codes "authorization_code") ≡ true
          by_its_code =
              ap (λ body. says body (codes "grant_type") (codes "authorization_code")) pairs_sent
              ∙ by_code kind client.client_id client.secret g.code verifier redirect

          pub token_served : provider_answer p token_request ≡ tokens_of g
          token_served =
              answer_by_rows p token_request
              ∙ ap (λ b. by_rows b (is_authenticated p.registrations token_request) (says (pairs token_request.body) (codes "grant_type") (codes "authorization_code")) (asked_grant p token_request) (asks_for_info p token_request) (borne_grant p token_request)) asks
              ∙ ap (λ b. by_rows true b (says (pairs token_request.body) (codes "grant_type") (codes "authorization_code")) (asked_grant p token_request) (asks_for_info p token_request) (borne_grant p token_request)) authenticated
              ∙ ap (λ b. by_rows true true b (asked_grant p token_request) (asks_for_info p token_request) (borne_grant p token_request)) by_its_code
              ∙ ap (λ o. by_rows true true true o (asks_for_info p token_request) (borne_grant p token_request)) found
              ∙ tokens_row true true (Some g) (asks_for_info p token_request) (borne_grant p token_request)

-- ---- the request for user info

bearer_back : (token : List ℕ) → is_visible_text token ≡ true → bearer_in (bearer_of token) ≡ Some token
bearer_back token visible = rw visible refl

module _ (p : SeenProvider) (g : SeenGrant) (address : List ℕ) (kind : UserInfoResponseType) (token code : List ℕ) where
  abbrev pub info_request : SeenRequest
  info_request = get_with address kind (plain_value (bearer_of token))

  bears : credentials_in info_request ≡ Some (bearer_of token)
  bears = refl

  module _ (of_own_token : finite.get p.grants.codes token ≡ Some code) (of_own_code : grant_of_code p.grants code ≡ Some g) (redeemed : g.redeemed ≡ true)
      (visible : is_visible_text token ≡ true) (same_address : address ≡ p.settings.user_info.text) where
    borne : borne_grant p info_request ≡ Some g
    borne =
        ap (λ o. option_and_then (λ grant. then_some grant.redeemed grant) (option_and_then (grant_of_token p.grants) o)) (bearer_back token visible)
        ∙ ap (λ o. option_and_then (λ grant. then_some grant.redeemed grant) (option_and_then (grant_of_code p.grants) o)) of_own_token
        ∙ ap (λ o. option_and_then (λ grant. then_some grant.redeemed grant) o) of_own_code
        ∙ ap (λ b. then_some b g) redeemed

    asks_info : asks_for_info p info_request ≡ true
    asks_info = equal_texts address p.settings.user_info.text same_address

    pub info_served : provider_answer p info_request ≡ user_info_of g
    info_served =
        answer_by_rows p info_request
        ∙ ap (λ b. by_rows false (is_authenticated p.registrations info_request) (says (pairs info_request.body) (codes "grant_type") (codes "authorization_code")) (asked_grant p info_request) b (borne_grant p info_request)) asks_info
        ∙ ap (λ o. by_rows false (is_authenticated p.registrations info_request) (says (pairs info_request.body) (codes "grant_type") (codes "authorization_code")) (asked_grant p info_request) true o) borne
        ∙ info_row (is_authenticated p.registrations info_request) (says (pairs info_request.body) (codes "grant_type") (codes "authorization_code")) (asked_grant p info_request) (Some g)

-- ---- the provider behind a grant that was redeemed

pub ties_itself : (x : List ℕ) → eq_by_cmp (slice_cmp nat_cmp) x x ≡ true
ties_itself x = is_eq-slice_cmp x x ∙ same_text x

module _ (p : SeenProvider) (g : SeenGrant) (request : SeenRequest) (of_own_code : grant_of_code p.grants g.code ≡ Some g)
    (served : provider_answer p request ≡ tokens_of g) where
  abbrev pub now_redeemed : SeenGrant
  now_redeemed = record g { redeemed = true }

  grants_after : (after p request).grants ≡ record p.grants { by_code = finite.insert p.grants.by_code g.code now_redeemed }
  grants_after =
      ap (λ answer. redeemed_by p.grants answer.redeems) served
      ∙ ap (λ o. record p.grants { by_code = marked p.grants.by_code g.code o }) of_own_code

  pub code_after : grant_of_code (after p request).grants g.code ≡ Some now_redeemed
  code_after =
      ap (λ grants. grant_of_code grants g.code) grants_after
      ∙ finite.get-insert nat_list_cmp_total p.grants.by_code g.code now_redeemed g.code
      ∙ ap (λ b. cond b (Some now_redeemed) (finite.get p.grants.by_code g.code)) (ties_itself g.code)

  pub codes_after : (after p request).grants.codes ≡ p.grants.codes
  codes_after = ap (λ grants. grants.codes) grants_after
