-- The two calls of a login: what comes of them over a provider, and why one is refused.
use Rattle.std.proofs.Common.{◌≡◌, ℕ, ℤ, suc, List, [], ◌∷◌, length, take, Bool, true, false, Option, None, Some, Result, Ok, Err, refl, ap, sym, ◌∙◌, subst}
use Rattle.std.specs.Prelude.{codes, option_and_then}
use Rattle.std.proofs.Math.Seq.{take-length}
use Rattle.serde_json.specs.Data.{Data}
use Rattle.url.specs.Parts.{Parts}
use Rattle.oidc_members.specs.Seen.{SeenMember, OutSeen}
use Rattle.oidc_members.specs.declared.refusal.Refusal.{Refusal}
use Rattle.oidc_keys.specs.CoreJwk.{SymmetricKey}
use Rattle.oidc_keys.specs.declared.core_jwk.CoreJsonWebKeyUse.{CoreJsonWebKeyUse}
use Rattle.oidc_oauth2.specs.Messages.{SeenRequest, SeenAnswer}
use Rattle.oidc_oauth2.specs.Pkce.{s256}
use Rattle.oidc_oauth2.specs.Replies.{Unless, OrMemory, Gives}
use Rattle.oidc_oauth2.specs.Transport.{Script, Plays}
use Rattle.oidc_oauth2.specs.Exchanges.{Known, Follows}
use Rattle.oidc_oauth2.proofs.Theorems.{gave}
use Rattle.oidc_client.specs.Authorization.{query_values}
use Rattle.oidc_login.specs.Types.{SiteTypes}
use Rattle.oidc_login.specs.Logins.{Pending, SeenLogins}
use Rattle.oidc_login.specs.SignedIn.{SeenSignedIn}
use Rattle.oidc_login.specs.Callback.{Attempt, Meant, outcome}
use Rattle.oidc_login.specs.Runs.{Ran, Leaves, attempt}
use Rattle.oidc_login.specs.Errors.{Error, seen, wants_memory, is_spent_by, login_errors}
use Rattle.oidc_login.specs.Causes.{AsksNothing}
use Rattle.oidc_login.specs.declared.errors.LoginError.{LoginError}
use Rattle.std.specs.declared.convert.Infallible.{Infallible}
use Rattle.oidc_provider.specs.declared.settings.ProviderSettings.{ProviderSettings}
use Rattle.oidc_provider.specs.declared.errors.AuthorizeError.{AuthorizeError}
use Rattle.oidc_provider.specs.declared.errors.AuthorizeError.TheVariants as refusal
use Rattle.oidc_provider.specs.declared.errors.SignInError.{SignInError}
use Rattle.oidc_provider.specs.declared.errors.SignInError.TheVariants.{Authorize}
use Rattle.oidc_provider.specs.Settings.{registered}
use Rattle.oidc_provider.specs.Provider.{SeenProvider}
use Rattle.oidc_provider.specs.Values.{Pairs, only, is_it, says}
use Rattle.oidc_provider.specs.Authorization.{Asked, client_of, authorization_reply, callback_query, Replies}
use Rattle.oidc_provider.specs.AuthorizationCauses as causes
use Rattle.oidc_provider.specs.Issuing.{core_types}
use Rattle.oidc_provider.specs.Keeping.{Keeps}
use Rattle.oidc_provider.specs.Answers.{served, after}
use Rattle.oidc_provider.specs.SignIn.{ToIssue, asked_with, allowed_for, IsHonestLogin, IsGrantedLogin, IsGrantable, IsIssuedReply, SignsIn}
use Rattle.oidc_provider.specs.TwoCalls.{by_callback, known_of, IsComposed, OfCallback, RefusesWith, Grants}
use Rattle.oidc_provider.proofs.Allowed.{cause_of, refused, granted}
use Rattle.oidc_provider.proofs.Begun as begun
use Rattle.oidc_provider.proofs.GrantSigns as grants
use Rattle.oidc_provider.proofs.KeptGrants.{grant_made, query_is, login_over, made_settings}
use Rattle.oidc_provider.proofs.Registered.{equal_texts, same_text}

-- ---- over a provider that has the grant

served_length : (q : SeenProvider) (requests : List SeenRequest) → length (served q requests) ≡ length requests
served_length q [] = refl
served_length q (request ∷ later) = ap suc (served_length (after q request) later)

-- the answers that came are those of the provider
came_by : (p : SeenProvider) (sent : List SeenRequest) (answers : List SeenAnswer) (left : Option Script)
    → Plays (Some (served p)) (take (length answers) sent) answers left → length answers ≡ length sent → answers ≡ served p sent
came_by p sent answers None plays all = absurd plays
came_by p sent answers (Some left) plays all =
    let whole : take (length answers) sent ≡ sent = ap (λ (n : ℕ). take n sent) all ∙ take-length sent in
    sym (gave (served p) (take (length answers) sent) answers left plays
    (served_length p (take (length answers) sent) ∙ ap length whole ∙ sym all))
    ∙ ap (served p) whole

module _ {AC GC : Type 0} (additional : List SeenMember → Result AC Refusal) (gender : SeenMember → Result GC Refusal) (additional_out : AC → List OutSeen) (gender_data : GC → Data)
    (p : SeenProvider) (logins : SeenLogins SymmetricKey) (t : ToIssue AC GC) (now : ℤ)
    (h : IsGrantedLogin additional gender additional_out gender_data p logins t now) where
  abbrev types : SiteTypes AC GC SymmetricKey CoreJsonWebKeyUse
  types = core_types additional gender

  abbrev a : Attempt SymmetricKey
  a = attempt logins (callback_query t.code h.begin.request.state) now

  abbrev Issued : Meant (SeenSignedIn AC GC) → Type 0
  Issued = IsIssuedReply additional_out gender_data p.settings h.registration h.begin t

  module _ (later : Known) (reply : Result (SeenSignedIn AC GC) (LoginError Infallible)) (follows : Follows login_errors (outcome types a) (known_of p) later reply) where
    abbrev answers : List SeenAnswer
    answers = follows.answers

    comes : length answers ≡ length (outcome types a answers).sent → Issued (outcome types a answers).reply
    comes all =
        grants.signs additional gender additional_out gender_data p logins t now h answers
        (came_by p (outcome types a answers).sent answers later.script follows.plays all)

    refused_so : (wants : Bool) (e : Error) → Unless wants (length answers ≡ length (outcome types a answers).sent)
        → Unless wants ((outcome types a answers).reply ≡ Err e) → Unless wants (Issued (Err e))
    refused_so true e all gives = tt
    refused_so false e all gives = subst Issued gives (comes all)

    ends : (r : Result (SeenSignedIn AC GC) (LoginError Infallible)) → OrMemory login_errors r (length answers ≡ length (outcome types a answers).sent)
        → Gives login_errors r (outcome types a answers).reply → SignsIn additional_out gender_data p.settings h.registration h.begin t r
    ends (Ok signed) all gives = subst Issued gives (comes all)
    ends (Err e) all gives = refused_so (wants_memory e) (seen e) all gives

    pub reply_signs : SignsIn additional_out gender_data p.settings h.registration h.begin t reply
    reply_signs = ends reply follows.all_sent follows.reply

  -- by the bytes of the query
  pub called_back : (bytes query : List ℕ) → bytes ≡ query → query ≡ callback_query t.code h.begin.request.state
      → (later : Known) (reply : Result (SeenSignedIn AC GC) (LoginError Infallible)) → Ran types (attempt logins bytes now) (known_of p) later reply
      → SignsIn additional_out gender_data p.settings h.registration h.begin t reply
  called_back bytes query same is later reply ran =
      reply_signs later reply (subst (λ (q : List ℕ). Ran types (attempt logins q now) (known_of p) later reply) (same ∙ is) ran).exchanged

-- what follows where the same query asks nothing
pub where_idle : {A : Type 0} (logins : SeenLogins SymmetricKey) (now : ℤ) (bytes query : List ℕ) → bytes ≡ query
    → (AsksNothing (attempt logins bytes now) → A) → AsksNothing (attempt logins query now) → A
where_idle logins now bytes query same follows nothing =
    follows (subst (λ (q : List ℕ). AsksNothing (attempt logins q now)) (sym same) nothing)

-- ---- the two calls

module _ {AC GC : Type 0} (additional : List SeenMember → Result AC Refusal) (gender : SeenMember → Result GC Refusal) (additional_out : AC → List OutSeen) (gender_data : GC → Data)
    (old : SeenProvider) (logins : SeenLogins SymmetricKey) (url : Parts) (t : ToIssue AC GC) (now : ℤ) where
  abbrev Honest : Type 0
  Honest = IsHonestLogin additional gender additional_out old logins url t now

  abbrev Kept : SeenProvider → List ℕ → Type 0
  Kept made query = Keeps additional gender additional_out gender_data t.claims t.user_info (asked_with url t) old made query

  abbrev Signs : Honest → Result (SeenSignedIn AC GC) (LoginError Infallible) → Type 0
  Signs h = SignsIn additional_out gender_data old.settings h.registration h.begin t

  -- what holds of the reply of the callback holds of the whole
  of_reply : (Holds : Result (SeenSignedIn AC GC) (LoginError Infallible) → Type 0) (reply : Result (SeenSignedIn AC GC) (LoginError Infallible))
      → Holds reply → OfCallback Holds (by_callback reply)
  of_reply Holds (Ok signed) holds = holds
  of_reply Holds (Err e) holds = holds

  module _ (made : SeenProvider) (bytes query : List ℕ) (same : bytes ≡ query) (own : Kept made query)
      (reply : Result (SeenSignedIn AC GC) (LoginError Infallible)) (result : Result (SeenSignedIn AC GC) SignInError) (is : result ≡ by_callback reply) where
    kept : Kept made bytes
    kept = subst (Kept made) (sym same) own

    known : (h : Honest) → registered old.registrations h.begin.request.client_id ≡ Some h.registration
    known h = ap (registered old.registrations) h.login.pending.own_client ∙ h.login.provider.own_id

    abbrev granted_login : Honest → IsGrantedLogin additional gender additional_out gender_data made logins t now
    granted_login h = record {
      begin = h.begin;
      registration = h.registration;
      login = login_over additional gender additional_out old logins t now h.begin h.registration h.login made _ kept.kept;
      stands = grant_made additional gender additional_out gender_data old made url t bytes h.begin h.registration kept h.own_url (known h);
    }

    pub signed_in : ((u : ToIssue AC GC) (g : IsGrantedLogin additional gender additional_out gender_data made logins u now) → bytes ≡ callback_query u.code g.begin.request.state
        → SignsIn additional_out gender_data made.settings g.registration g.begin u reply)
        → (h : Honest) → OfCallback (Signs h) result
    signed_in signs h =
        subst (OfCallback (Signs h)) (sym is)
        (of_reply (Signs h) reply
        (subst (λ (s : ProviderSettings). SignsIn additional_out gender_data s h.registration h.begin t reply)
        (made_settings additional gender additional_out gender_data old made url t bytes h.begin h.registration kept h.own_url (known h))
        (signs t (granted_login h) (query_is additional gender additional_out gender_data old made url t bytes h.begin h.registration kept h.own_url (known h)))))

    pub composed : (new : SeenProvider) (left : Pending) → Ran (core_types additional gender) (attempt logins bytes now) (known_of made) (known_of new) reply
        → Leaves (attempt logins bytes now) left reply
        → (is_spent_by reply ≡ false → (new ≡ made) × (left ≡ logins.pending))
        → (AsksNothing (attempt logins bytes now) → new ≡ made)
        → OfCallback (IsComposed additional gender additional_out gender_data url t now old new logins left) result
    composed new left ran store unspent idle =
        let Composed : Result (SeenSignedIn AC GC) (LoginError Infallible) → Type 0 = IsComposed additional gender additional_out gender_data url t now old new logins left in
        subst (OfCallback Composed) (sym is)
        (of_reply Composed reply (record {
          made = made;
          query = bytes;
          kept = kept;
          ran = ran;
          store = store;
          unspent = unspent;
          idle = idle;
        }))

  -- ---- what a provider can't refuse

  module _ (h : Honest) (may : IsGrantable old h.registration h.begin url t) where
    abbrev asked_pairs : Pairs
    asked_pairs = (asked_with url t).query

    found : client_of old asked_pairs ≡ Some h.registration
    found =
        ap (option_and_then (registered old.registrations)) (begun.one_value url (codes "client_id") h.begin.request.client_id h.own_url.once.client_id)
        ∙ ap (registered old.registrations) h.login.pending.own_client
        ∙ h.login.provider.own_id

    one_redirect : only asked_pairs (codes "redirect_uri") ≡ Some may.redirect.text
    one_redirect =
        begun.one_value url (codes "redirect_uri") may.redirect.text
        (h.own_url.once.redirect_uri ∙ begun.at_most_of h.begin.request.redirect_uri may.redirect may.own_redirect)

    own_redirect : says asked_pairs (codes "redirect_uri") h.registration.redirect.text ≡ true
    own_redirect =
        ap (λ (o : Option (List ℕ)). is_it o h.registration.redirect.text) one_redirect
        ∙ equal_texts may.redirect.text h.registration.redirect.text may.same_redirect

    says_one : (name value : List ℕ) → query_values url name ≡ value ∷ [] → says asked_pairs name value ≡ true
    says_one name value is = ap (λ (o : Option (List ℕ)). is_it o value) (begun.one_value url name value is) ∙ same_text value

    own_login : causes.AsksForCode asked_pairs (allowed_for h.registration h.begin).login
    own_login = record {
      response_type = says_one (codes "response_type") (codes "code") may.response_type;
      method = says_one (codes "code_challenge_method") (codes "S256") may.method;
      state = begun.one_value url (codes "state") h.begin.request.state h.own_url.once.state;
      nonce = begun.one_value url (codes "nonce") h.begin.request.nonce h.own_url.once.nonce;
      challenge = begun.one_value url (codes "code_challenge") (s256 h.begin.verifier) may.challenge;
    }

    is_allowed : causes.IsAllowed old (asked_with url t) (allowed_for h.registration h.begin)
    is_allowed = record {
      new_token = record {
        code = record {
          about = record {
            asks = record { names = record { registered = found; own_redirect = own_redirect }; own_login = own_login };
            one_subject = may.one_subject;
          };
          new_code = may.new_code;
        };
        new_token = may.new_token;
      };
      token_text = may.token_text;
    }

    none_refused : (e : AuthorizeError) (query : List ℕ) → Replies {A = List ℕ} (Err e) (Ok query) → Grants {A = SeenSignedIn AC GC} (Err (Authorize e))
    none_refused refusal.Client query is = absurd cc
    none_refused refusal.Redirect query is = absurd cc
    none_refused refusal.Request query is = absurd cc
    none_refused refusal.Subject query is = absurd cc
    none_refused refusal.CodeUsed query is = absurd cc
    none_refused refusal.TokenUsed query is = absurd cc
    none_refused refusal.TokenText query is = absurd cc
    none_refused refusal.Memory query is = tt

    pub not_refused : (e : AuthorizeError) → Replies {A = List ℕ} (Err e) (authorization_reply old (asked_with url t)) → Grants {A = SeenSignedIn AC GC} (Err (Authorize e))
    not_refused e replies =
        none_refused e (callback_query t.code h.begin.request.state)
        (granted old (asked_with url t) (Err e) replies (allowed_for h.registration h.begin) is_allowed)

-- ---- where it granted

whole_grants : {A : Type 0} (reply : Result A (LoginError Infallible)) → Grants (by_callback reply)
whole_grants (Ok signed) = tt
whole_grants (Err e) = tt

-- a callback's reply is no refusal of the provider
pub grants_it : {A : Type 0} (reply : Result A (LoginError Infallible)) (result : Result A SignInError) → result ≡ by_callback reply → Grants result
grants_it {A = A} reply result is = subst (Grants {A = A}) (sym is) (whole_grants reply)

-- ---- why it refused

pub caused_by : {A : Type 0} (p : SeenProvider) (a : Asked) (found e : AuthorizeError) → ◌≡◌ {A = Result A SignInError} (Err (Authorize found)) (Err (Authorize e))
    → Replies {A = List ℕ} (Err found) (authorization_reply p a) → causes.HasCause p a e
caused_by p a found e is replies =
    let same : found ≡ e = cc in subst (causes.HasCause p a) same (cause_of p a found replies)

pub no_refusal : {A : Type 0} (reply : Result A (LoginError Infallible)) (e : AuthorizeError) → by_callback reply ≡ Err (Authorize e) → ⊥
no_refusal (Ok signed) e is = cc
no_refusal (Err refused) e is = cc

-- what is granted had no cause to be refused
no_cause : {A : Type 0} (e : AuthorizeError) (query : List ℕ) (result : Result A SignInError) → Replies {A = List ℕ} (Ok query) (Err e) → RefusesWith e result
no_cause e query result is = absurd cc

pub never_caused : {A : Type 0} (p : SeenProvider) (a : Asked) (query : List ℕ) (result : Result A SignInError) → Replies (Ok query) (authorization_reply p a)
    → (e : AuthorizeError) → causes.Cause p a e → RefusesWith e result
never_caused p a query result replies e cause = no_cause e query result (refused p a (Ok query) replies e cause)

-- a refusal of the provider, as that of a whole login
module _ (A : Type 0) where
  abbrev refusal_in : Result (List ℕ) AuthorizeError → Result A SignInError
  refusal_in (Ok query) = Err (Authorize refusal.Memory)
  refusal_in (Err e) = Err (Authorize e)

  refusal_is : (found e : AuthorizeError) → Replies {A = List ℕ} (Err found) (Err e) → RefusesWith {A = A} e (Err (Authorize found))
  refusal_is refusal.Client e is = ap refusal_in is
  refusal_is refusal.Redirect e is = ap refusal_in is
  refusal_is refusal.Request e is = ap refusal_in is
  refusal_is refusal.Subject e is = ap refusal_in is
  refusal_is refusal.CodeUsed e is = ap refusal_in is
  refusal_is refusal.TokenUsed e is = ap refusal_in is
  refusal_is refusal.TokenText e is = ap refusal_in is
  refusal_is refusal.Memory e is = tt

  pub refused_with : (p : SeenProvider) (asked : Asked) (refused_by : AuthorizeError) → Replies {A = List ℕ} (Err refused_by) (authorization_reply p asked)
      → (e : AuthorizeError) → causes.Cause p asked e → RefusesWith {A = A} e (Err (Authorize refused_by))
  refused_with p asked refused_by replies e cause = refusal_is refused_by e (refused p asked (Err refused_by) replies e cause)
