-- What an authorization rests on, by its table, and back.
use Rattle.std.proofs.Common.{◌≡◌, ◌≢◌, ℕ, List, Bool, true, false, Result, Ok, Err, refl, sym, subst, ◌∙◌}
use Rattle.std.specs.Prelude.{not, codes}
use Rattle.std.specs.Str.{bytes_eq}
use Rattle.std.specs.Cmp.Lexicographic.{bytes_decides}
use Rattle.std.proofs.lemmas.Bool.{false≢true}
use Rattle.http_header.specs.FieldValue.{is_visible_text}
use Rattle.oidc_oauth2.specs.Replies.{◌>>=◌, ◌>>◌, ◌when◌}
use Rattle.oidc_login.proofs.Walks.{Walk, at_or, at_when}
use Rattle.oidc_provider.specs.Grants.{has_code, has_token}
use Rattle.oidc_provider.specs.Provider.{SeenProvider}
use Rattle.oidc_provider.specs.Values.{says}
use Rattle.oidc_provider.specs.Rows.{provider_of}
use Rattle.oidc_provider.specs.Authorization.{Asked, Allowed, client_of, login_of, authorization, callback_query, authorization_reply, Replies}
use Rattle.oidc_provider.specs.AuthorizationCauses.{NamesClient, AsksLogin, IsAbout, IsNewCode, IsNewToken, IsAllowed, NamesNoClient, NamesAnotherRedirect, AsksForNoCode, IsAboutTwo, HasUsedCode, HasUsedToken, HasNoTokenText, Cause, HasCause}
use Rattle.oidc_provider.proofs.LoginOf.{asks_for_code, login_found, lacks_one, no_login}
use Rattle.oidc_provider.specs.declared.errors.AuthorizeError.{AuthorizeError}
use Rattle.oidc_provider.specs.declared.errors.AuthorizeError.TheVariants.{Client, Redirect, Request, Subject, CodeUsed, TokenUsed, TokenText, Memory}

shown : (b : Bool) → not b ≡ false → b ≡ true
shown true e = refl
shown false e = absurd (false≢true (sym e))

hidden : (b : Bool) → not b ≡ true → b ≡ false
hidden true e = absurd (false≢true e)
hidden false e = refl

other_text : (x y : List ℕ) (b : Bool) → bytes_eq x y ≡ b → b ≡ false → x ≢ y
other_text x y b is none same = false≢true (sym none ∙ sym is ∙ (bytes_decides x y).1 same)

other_by : (x y : List ℕ) → x ≢ y → (b : Bool) → bytes_eq x y ≡ b → b ≡ false
other_by x y other true is = absurd (other ((bytes_decides x y).0 is))
other_by x y other false is = refl

module _ (p : SeenProvider) (a : Asked) where
  -- the table looks at registrations and grants alone
  pub authorization_of_parts : authorization (provider_of p.settings p.registrations p.grants) a ≡ authorization p a
  unfolding authorization
  authorization_of_parts = refl

  -- ---- down the table

  pub walk : Walk (IsAllowed p a) (Cause p a) (authorization p a)
  unfolding authorization
  walk =
      at_or (IsAllowed p a) (Cause p a) (client_of p a.query) _ _ (λ none. none) (λ client registered.
      at_when (IsAllowed p a) (Cause p a) (not (says a.query (codes "redirect_uri") client.redirect.text)) _ _
      (λ other. record { client = client; registered = registered; another = hidden (says a.query (codes "redirect_uri") client.redirect.text) other }) (λ own.
      let names : NamesClient p a client = record { registered = registered; own_redirect = shown (says a.query (codes "redirect_uri") client.redirect.text) own } in
      at_or (IsAllowed p a) (Cause p a) (login_of a.query) _ _ (λ none. record { client = client; names = names; lacks = lacks_one a.query none }) (λ login own_login.
      let allowed : Allowed = record { client = client; login = login } in
      let asks : AsksLogin p a allowed = record { names = names; own_login = asks_for_code a.query login own_login } in
      at_when (IsAllowed p a) (Cause p a) (not (bytes_eq a.subject a.info_subject)) _ _
      (λ other. record { allowed = allowed; asks = asks; another = other_text a.subject a.info_subject (bytes_eq a.subject a.info_subject) refl (hidden (bytes_eq a.subject a.info_subject) other) }) (λ same.
      let about : IsAbout p a allowed = record { asks = asks; one_subject = (bytes_decides a.subject a.info_subject).0 (shown (bytes_eq a.subject a.info_subject) same) } in
      at_when (IsAllowed p a) (Cause p a) (has_code p.grants a.code) _ _ (λ used. record { allowed = allowed; about = about; used = used }) (λ new_code.
      let code : IsNewCode p a allowed = record { about = about; new_code = new_code } in
      at_when (IsAllowed p a) (Cause p a) (has_token p.grants a.token) _ _ (λ used. record { allowed = allowed; new_code = code; used = used }) (λ new_token.
      let token : IsNewToken p a allowed = record { code = code; new_token = new_token } in
      at_when (IsAllowed p a) (Cause p a) (not (is_visible_text a.token)) _ _
      (λ unseen. record { allowed = allowed; new_token = token; no_text = hidden (is_visible_text a.token) unseen }) (λ seen.
      record { new_token = token; token_text = shown (is_visible_text a.token) seen })))))))

  -- what is granted rests on this
  pub allowed_forth : (allowed : Allowed) → authorization p a ≡ Ok allowed → IsAllowed p a allowed
  allowed_forth allowed is = subst (Walk (IsAllowed p a) (Cause p a)) is walk

  -- ---- and back

  pub no_client : NamesNoClient p a → authorization p a ≡ Err Client
  unfolding authorization
  no_client none = rw none refl

  other_redirect : NamesAnotherRedirect p a → authorization p a ≡ Err Redirect
  unfolding authorization
  other_redirect x = rw (x.registered, x.another) refl

  no_code : AsksForNoCode p a → authorization p a ≡ Err Request
  unfolding authorization
  no_code x = rw (x.names.registered, x.names.own_redirect, no_login a.query x.lacks) refl

  two_subjects : IsAboutTwo p a → authorization p a ≡ Err Subject
  unfolding authorization
  two_subjects x =
      let other : bytes_eq a.subject a.info_subject ≡ false = other_by a.subject a.info_subject x.another (bytes_eq a.subject a.info_subject) refl in
      rw (x.asks.names.registered, x.asks.names.own_redirect, login_found a.query x.allowed.login x.asks.own_login, other) refl

  module _ (allowed : Allowed) (about : IsAbout p a allowed) where
    one_subject : bytes_eq a.subject a.info_subject ≡ true
    one_subject = (bytes_decides a.subject a.info_subject).1 about.one_subject

    abbrev rest : Result Allowed AuthorizeError
    rest = do
      CodeUsed when has_code p.grants a.code
      TokenUsed when has_token p.grants a.token
      TokenText when not (is_visible_text a.token)
      Ok allowed

    rest_is : authorization p a ≡ rest
    unfolding authorization
    rest_is = rw (about.asks.names.registered, about.asks.names.own_redirect, login_found a.query allowed.login about.asks.own_login, one_subject) refl

  used_code : HasUsedCode p a → authorization p a ≡ Err CodeUsed
  used_code x = rest_is x.allowed x.about ∙ rw x.used refl

  used_token : HasUsedToken p a → authorization p a ≡ Err TokenUsed
  used_token x = rest_is x.allowed x.new_code.about ∙ rw (x.new_code.new_code, x.used) refl

  no_text : HasNoTokenText p a → authorization p a ≡ Err TokenText
  no_text x = rest_is x.allowed x.new_token.code.about ∙ rw (x.new_token.code.new_code, x.new_token.new_token, x.no_text) refl

  pub allowed_back : (allowed : Allowed) → IsAllowed p a allowed → authorization p a ≡ Ok allowed
  allowed_back allowed x = rest_is allowed x.new_token.code.about ∙ rw (x.new_token.code.new_code, x.new_token.new_token, x.token_text) refl

  cause_back : (e : AuthorizeError) → Cause p a e → authorization p a ≡ Err e
  cause_back Client x = no_client x
  cause_back Redirect x = other_redirect x
  cause_back Request x = no_code x
  cause_back Subject x = two_subjects x
  cause_back CodeUsed x = used_code x
  cause_back TokenUsed x = used_token x
  cause_back TokenText x = no_text x
  cause_back Memory x = absurd x

  -- ---- what a reply rests on

  module _ (result : Result (List ℕ) AuthorizeError) (replies : Replies result (authorization_reply p a)) where
    pub refused : (e : AuthorizeError) → Cause p a e → Replies result (Err e)
    refused e cause =
        subst (λ (meant : Result Allowed AuthorizeError). Replies result (meant >>= λ allowed. Ok (callback_query a.code allowed.login.state))) (cause_back e cause) replies

    pub granted : (allowed : Allowed) → IsAllowed p a allowed → Replies result (Ok (callback_query a.code allowed.login.state))
    granted allowed is =
        subst (λ (meant : Result Allowed AuthorizeError). Replies result (meant >>= λ allowed. Ok (callback_query a.code allowed.login.state))) (allowed_back allowed is) replies

  same_error : (x y : AuthorizeError) → ◌≡◌ {A = Result (List ℕ) AuthorizeError} (Err x) (Err y) → y ≡ x
  same_error x y e = let same : x ≡ y = cc in sym same

  refusal_of : (meant : Result Allowed AuthorizeError) (e : AuthorizeError) → Walk (IsAllowed p a) (Cause p a) meant
      → Err e ≡ (meant >>= λ allowed. Ok (callback_query a.code allowed.login.state)) → Cause p a e
  refusal_of (Ok allowed) e rests is = absurd cc
  refusal_of (Err other) e rests is = subst (Cause p a) (same_error e other is) rests

  abbrev Refuses : AuthorizeError → Type 0
  Refuses e = Err e ≡ authorization_reply p a

  pub why : (e : AuthorizeError) → Refuses e → Cause p a e
  why e is = refusal_of (authorization p a) e walk is

  -- the cause of a refusal that isn't want of memory
  pub cause_of : (e : AuthorizeError) → Replies {A = List ℕ} (Err e) (authorization_reply p a) → HasCause p a e
  cause_of Client is = why Client is
  cause_of Redirect is = why Redirect is
  cause_of Request is = why Request is
  cause_of Subject is = why Subject is
  cause_of CodeUsed is = why CodeUsed is
  cause_of TokenUsed is = why TokenUsed is
  cause_of TokenText is = why TokenText is
  cause_of Memory is = tt
