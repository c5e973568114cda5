-- What an authorization answers and keeps, client by client.
use Rattle.std.proofs.Common.{◌≡◌, ℕ, List, Bool, true, false, None, Some, Result, Ok, Err, refl, sym, ap, subst, ◌∙◌, String, string_bytes}
use Rattle.std.specs.Prelude.{not, codes, IfOk}
use Rattle.std.specs.Str.{bytes_eq}
use Rattle.serde_json.specs.Data.{Data}
use Rattle.http_header.specs.FieldValue.{is_visible_text}
use Rattle.oidc_members.specs.Seen.{SeenMember, OutSeen}
use Rattle.oidc_members.specs.declared.refusal.Refusal.{Refusal}
use Rattle.oidc_oauth2.specs.Replies.{◌>>=◌, ◌>>◌, ◌when◌}
use Rattle.oidc_id_token_claims.specs.IdTokenClaims.{SeenIdTokenClaims}
use Rattle.oidc_user_info.specs.UserInfoClaims.{SeenUserInfoClaims}
use Rattle.oidc_provider.specs.Grants.{SeenGrants, has_code, has_token}
use Rattle.oidc_provider.specs.Provider.{SeenProvider}
use Rattle.oidc_provider.specs.Values.{says}
use Rattle.oidc_provider.specs.Rows.{provider_of}
use Rattle.oidc_provider.specs.Authorization.{Asked, AskedLogin, Allowed, client_of, authorization, callback_query, authorization_reply, seen_query, Replies}
use Rattle.oidc_provider.specs.Keeping.{Keeps}
use Rattle.oidc_provider.specs.Steps.{login_or_refusal, granted_login, client_reply, or_memory, allowed_to, KeepsGrant, KeepsGrants, KeepsOfClient}
use Rattle.oidc_provider.specs.declared.settings.ProviderSettings.{ProviderSettings}
use Rattle.oidc_provider.specs.declared.settings.Registration.{Registration}
use Rattle.oidc_provider.specs.declared.errors.AuthorizeError.{AuthorizeError}
use Rattle.oidc_provider.specs.declared.errors.AuthorizeError.TheVariants.{Client, Redirect, Request, Subject, CodeUsed, TokenUsed, TokenText, Memory}
use Rattle.oidc_provider.specs.AuthorizationCauses.{HasCause}
use Rattle.oidc_provider.proofs.Allowed.{authorization_of_parts, no_client, cause_of}

-- ---- the rows behind the client, as those of the whole table

same_rows : (client : Registration) (r : Bool) (login : Result AskedLogin AuthorizeError) (s t u v : Bool)
    → ((Redirect when r) >> (login >>= λ l. (Subject when s) >> ((CodeUsed when t) >> ((TokenUsed when u) >> ((TokenText when v) >> Ok (allowed_to client l))))))
    ≡ (((Redirect when r) >> (login >>= λ l. ((Subject when s) >> ((CodeUsed when t) >> ((TokenUsed when u) >> (TokenText when v)))) >> Ok l)) >>= λ l. Ok (allowed_to client l))
same_rows client true login s t u v = refl
same_rows client false (Err e) s t u v = refl
same_rows client false (Ok l) true t u v = refl
same_rows client false (Ok l) false true u v = refl
same_rows client false (Ok l) false false true v = refl
same_rows client false (Ok l) false false false true = refl
same_rows client false (Ok l) false false false false = refl

after_client : (client : Registration) (code : List ℕ) (r : Result AskedLogin AuthorizeError)
    → ((r >>= λ l. Ok (allowed_to client l)) >>= λ allowed. Ok (callback_query code allowed.login.state)) ≡ (r >>= λ l. Ok (callback_query code l.state))
after_client client code (Ok l) = refl
after_client client code (Err e) = refl

module _ (p : SeenProvider) (a : Asked) where
  -- nothing is granted where no client is named
  pub none_replied : client_of p a.query ≡ None → ◌≡◌ {A = Result (List ℕ) AuthorizeError} (Err Client) (authorization_reply p a)
  none_replied none = sym (ap (λ (meant : Result Allowed AuthorizeError). meant >>= λ allowed. Ok (callback_query a.code allowed.login.state)) (no_client p a none))

  module _ (client : Registration) (found : client_of p a.query ≡ Some client) where
    by_client : authorization p a ≡ (granted_login p.grants client a >>= λ l. Ok (allowed_to client l))
    unfolding authorization
    by_client =
        rw found (same_rows client (not (says a.query (codes "redirect_uri") client.redirect.text)) (login_or_refusal a.query)
        (not (bytes_eq a.subject a.info_subject)) (has_code p.grants a.code) (has_token p.grants a.token) (not (is_visible_text a.token)))

    same_reply : authorization_reply p a ≡ client_reply p.grants client a
    same_reply =
        ap (λ (meant : Result Allowed AuthorizeError). meant >>= λ allowed. Ok (callback_query a.code allowed.login.state)) by_client
        ∙ after_client client a.code (granted_login p.grants client a)

    pub client_replied : (result : Result (List ℕ) AuthorizeError) → Replies result (client_reply p.grants client a) → Replies result (authorization_reply p a)
    client_replied result replies = subst (Replies result) (sym same_reply) replies

    module _ {AC GC : Type 0} (additional : List SeenMember → Result AC Refusal) (gender : SeenMember → Result GC Refusal) (additional_out : AC → List OutSeen) (gender_data : GC → Data)
        (claims : SeenIdTokenClaims AC GC) (user_info : SeenUserInfoClaims AC GC) (new : SeenGrants) where
      kept : (query : List ℕ) → KeepsOfClient additional gender additional_out gender_data p.settings client claims user_info a p.grants new query
          → KeepsGrants additional gender additional_out gender_data claims user_info a p new query
      kept query k = record {
        allowed = allowed_to client k.login;
        was_allowed = by_client ∙ ap (λ (r : Result AskedLogin AuthorizeError). r >>= λ l. Ok (allowed_to client l)) k.was_granted;
        keeps = k.keeps;
      }

      pub client_kept : {Y E : Type 0} (result : Result (String Y) E)
          → IfOk result (λ query. KeepsOfClient additional gender additional_out gender_data p.settings client claims user_info a p.grants new (string_bytes query))
          → IfOk result (λ query. KeepsGrants additional gender additional_out gender_data claims user_info a p new (string_bytes query))
      client_kept (Ok query) k = kept (string_bytes query) k
      client_kept (Err e) k = tt

-- ---- a client's own reply

new_by : (r : Bool) (login : Result AskedLogin AuthorizeError) (s t u v : Bool) (l : AskedLogin)
    → Ok l ≡ ((Redirect when r) >> (login >>= λ x. ((Subject when s) >> ((CodeUsed when t) >> ((TokenUsed when u) >> (TokenText when v)))) >> Ok x))
    → (t ≡ false) × (u ≡ false)
new_by true login s t u v l is = absurd cc
new_by false (Err e) s t u v l is = absurd cc
new_by false (Ok x) true t u v l is = absurd cc
new_by false (Ok x) false true u v l is = absurd cc
new_by false (Ok x) false false true v l is = absurd cc
new_by false (Ok x) false false false v l is = (refl, refl)

module _ (grants : SeenGrants) (client : Registration) (a : Asked) where
  -- what is granted has a new code and a new access token
  pub new_of : (login : AskedLogin) → Replies (Ok login) (granted_login grants client a) → (has_code grants a.code ≡ false) × (has_token grants a.token ≡ false)
  new_of login is =
      new_by (not (says a.query (codes "redirect_uri") client.redirect.text)) (login_or_refusal a.query) (not (bytes_eq a.subject a.info_subject))
      (has_code grants a.code) (has_token grants a.token) (not (is_visible_text a.token)) login is

  -- a refusal of its login is its reply
  pub login_refused : (e : AuthorizeError) → Replies {A = AskedLogin} (Err e) (granted_login grants client a) → Replies {A = List ℕ} (Err e) (client_reply grants client a)
  login_refused Client is = ap (λ (r : Result AskedLogin AuthorizeError). r >>= λ l. Ok (callback_query a.code l.state)) is
  login_refused Redirect is = ap (λ (r : Result AskedLogin AuthorizeError). r >>= λ l. Ok (callback_query a.code l.state)) is
  login_refused Request is = ap (λ (r : Result AskedLogin AuthorizeError). r >>= λ l. Ok (callback_query a.code l.state)) is
  login_refused Subject is = ap (λ (r : Result AskedLogin AuthorizeError). r >>= λ l. Ok (callback_query a.code l.state)) is
  login_refused CodeUsed is = ap (λ (r : Result AskedLogin AuthorizeError). r >>= λ l. Ok (callback_query a.code l.state)) is
  login_refused TokenUsed is = ap (λ (r : Result AskedLogin AuthorizeError). r >>= λ l. Ok (callback_query a.code l.state)) is
  login_refused TokenText is = ap (λ (r : Result AskedLogin AuthorizeError). r >>= λ l. Ok (callback_query a.code l.state)) is
  login_refused Memory is = tt

  module _ (login : AskedLogin) (was_granted : Replies {A = AskedLogin} (Ok login) (granted_login grants client a)) {Y E : Type 0} (made : Result (String Y) E) where
    replied_by : (r : Result (String Y) E) → IfOk r (λ query. string_bytes query ≡ callback_query a.code login.state)
        → Replies (seen_query (or_memory r)) (client_reply grants client a)
    replied_by (Ok query) is = ap Ok is ∙ ap (λ (r : Result AskedLogin AuthorizeError). r >>= λ l. Ok (callback_query a.code l.state)) was_granted
    replied_by (Err e) is = tt

    -- a query that was made is its reply
    pub login_replied : (result : Result (String Y) AuthorizeError) → result ≡ or_memory made → IfOk made (λ query. string_bytes query ≡ callback_query a.code login.state)
        → Replies (seen_query result) (client_reply grants client a)
    login_replied result is query =
        subst (λ (r : Result (String Y) AuthorizeError). Replies (seen_query r) (client_reply grants client a)) (sym is) (replied_by made query)

    module _ {AC GC : Type 0} (additional : List SeenMember → Result AC Refusal) (gender : SeenMember → Result GC Refusal) (additional_out : AC → List OutSeen) (gender_data : GC → Data)
        (settings : ProviderSettings) (claims : SeenIdTokenClaims AC GC) (user_info : SeenUserInfoClaims AC GC) (new : SeenGrants) where
      kept_by : (r : Result (String Y) E)
          → IfOk r (λ query. KeepsGrant additional gender additional_out gender_data settings (allowed_to client login) a.code a.token claims user_info grants new (string_bytes query))
          → IfOk (or_memory r) (λ query. KeepsOfClient additional gender additional_out gender_data settings client claims user_info a grants new (string_bytes query))
      kept_by (Ok query) k = record { login = login; was_granted = sym was_granted; keeps = k }
      kept_by (Err e) k = tt

      pub login_kept : (result : Result (String Y) AuthorizeError) → result ≡ or_memory made
          → IfOk made (λ query. KeepsGrant additional gender additional_out gender_data settings (allowed_to client login) a.code a.token claims user_info grants new (string_bytes query))
          → IfOk result (λ query. KeepsOfClient additional gender additional_out gender_data settings client claims user_info a grants new (string_bytes query))
      login_kept result is k =
          subst (λ (r : Result (String Y) AuthorizeError). IfOk r (λ query. KeepsOfClient additional gender additional_out gender_data settings client claims user_info a grants new (string_bytes query))) (sym is)
          (kept_by made k)

-- ---- the whole provider, of which the parts were seen

module _ (p : SeenProvider) (here asked : Asked) (same : here ≡ asked) where
  pub replied : (result : Result (List ℕ) AuthorizeError) → Replies result (authorization_reply (provider_of p.settings p.registrations p.grants) here) → Replies result (authorization_reply p asked)
  replied result replies =
      subst (λ a. Replies result (authorization_reply p a)) same
      (subst (λ (meant : Result Allowed AuthorizeError). Replies result (meant >>= λ allowed. Ok (callback_query here.code allowed.login.state))) (authorization_of_parts p here) replies)

  module _ {AC GC : Type 0} (additional : List SeenMember → Result AC Refusal) (gender : SeenMember → Result GC Refusal) (additional_out : AC → List OutSeen) (gender_data : GC → Data)
      (claims : SeenIdTokenClaims AC GC) (user_info : SeenUserInfoClaims AC GC) (grants : SeenGrants) (new : SeenProvider) (is : new ≡ record p { grants = grants }) where
    keeps_here : (query : List ℕ) → KeepsGrants additional gender additional_out gender_data claims user_info here (provider_of p.settings p.registrations p.grants) grants query
        → Keeps additional gender additional_out gender_data claims user_info here p new query
    keeps_here query k = record {
      allowed = k.allowed;
      was_allowed = sym (authorization_of_parts p here) ∙ k.was_allowed;
      grant = k.keeps.grant;
      granted = k.keeps.granted;
      kept = is ∙ ap (λ (made : SeenGrants). record p { grants = made }) k.keeps.kept;
      own_query = k.keeps.own_query;
      named = k.keeps.named;
    }

    pub keeps : {Y E : Type 0} (result : Result (String Y) E)
        → IfOk result (λ query. KeepsGrants additional gender additional_out gender_data claims user_info here (provider_of p.settings p.registrations p.grants) grants (string_bytes query))
        → IfOk result (λ query. Keeps additional gender additional_out gender_data claims user_info asked p new (string_bytes query))
    keeps (Ok query) k = subst (λ a. Keeps additional gender additional_out gender_data claims user_info a p new (string_bytes query)) same (keeps_here (string_bytes query) k)
    keeps (Err e) k = tt

-- the same, of what was seen of it by its parts
module _ (seen p : SeenProvider) (parts : seen ≡ provider_of p.settings p.registrations p.grants) (here asked : Asked) (same : here ≡ asked) where
  pub replied_by_parts : (result : Result (List ℕ) AuthorizeError) → Replies result (authorization_reply seen here) → Replies result (authorization_reply p asked)
  replied_by_parts result replies = replied p here asked same result (subst (λ (q : SeenProvider). Replies result (authorization_reply q here)) parts replies)

  module _ {AC GC : Type 0} (additional : List SeenMember → Result AC Refusal) (gender : SeenMember → Result GC Refusal) (additional_out : AC → List OutSeen) (gender_data : GC → Data)
      (claims : SeenIdTokenClaims AC GC) (user_info : SeenUserInfoClaims AC GC) (grants : SeenGrants) (new : SeenProvider) (is : new ≡ record p { grants = grants }) where
    pub keeps_by_parts : {Y E : Type 0} (result : Result (String Y) E)
        → IfOk result (λ query. KeepsGrants additional gender additional_out gender_data claims user_info here seen grants (string_bytes query))
        → IfOk result (λ query. Keeps additional gender additional_out gender_data claims user_info asked p new (string_bytes query))
    keeps_by_parts {Y = Y} {E = E} (Ok query) k =
        keeps p here asked same additional gender additional_out gender_data claims user_info grants new is {E = E} (Ok query)
        (subst (λ (q : SeenProvider). KeepsGrants additional gender additional_out gender_data claims user_info here q grants (string_bytes query)) parts k)
    keeps_by_parts (Err e) k = tt

-- each refusal has its cause
module _ {Y : Type 0} (p : SeenProvider) (a : Asked) (result : Result (String Y) AuthorizeError) (replies : Replies (seen_query result) (authorization_reply p a)) where
  pub caused : (e : AuthorizeError) → result ≡ Err e → HasCause p a e
  caused e is = cause_of p a e (subst (λ (r : Result (String Y) AuthorizeError). Replies (seen_query r) (authorization_reply p a)) is replies)
