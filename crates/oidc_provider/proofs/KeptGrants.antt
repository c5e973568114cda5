-- What a provider kept for the URL of a begin is a grant for that begin.
use Rattle.std.proofs.Common.{◌≡◌, ℕ, ℤ, List, Bool, cond, Some, Result, ap, sym, ◌∙◌, subst}
use Rattle.std.specs.Prelude.{codes, option_and_then}
use Rattle.std.specs.FinMap as finite
use Rattle.std.specs.Ordering.{nat_cmp, eq_by_cmp}
use Rattle.std.specs.Cmp.Lexicographic.{slice_cmp}
use Rattle.std.proofs.lemmas.Cmp.{nat_list_cmp_total}
use Rattle.serde_json.specs.Data.{Data}
use Rattle.url.specs.Parts.{Parts}
use Rattle.oidc_pairs.specs.Pairs.{pairs, only_of}
use Rattle.oidc_members.specs.Seen.{SeenMember, OutSeen}
use Rattle.oidc_members.specs.declared.refusal.Refusal.{Refusal}
use Rattle.oidc_types.specs.{TextAndUrl}
use Rattle.oidc_keys.specs.CoreJwk.{SymmetricKey}
use Rattle.oidc_oauth2.specs.Pkce.{s256}
use Rattle.oidc_login.specs.Logins.{SeenLogins}
use Rattle.oidc_login.specs.Begin.{Begin}
use Rattle.oidc_provider.specs.declared.settings.Registration.{Registration}
use Rattle.oidc_provider.specs.Settings.{registered}
use Rattle.oidc_provider.specs.Grants.{SeenGrant, SeenGrants, grant_of_code}
use Rattle.oidc_provider.specs.Provider.{SeenProvider}
use Rattle.oidc_provider.specs.Values.{Pairs, only}
use Rattle.oidc_provider.specs.Authorization.{Allowed, callback_pairs, callback_query}
use Rattle.oidc_provider.specs.AuthorizationCauses as causes
use Rattle.oidc_provider.specs.Issuing.{IsGranted}
use Rattle.oidc_provider.specs.Keeping.{Keeps}
use Rattle.oidc_provider.specs.SignIn.{ToIssue, asked_with, allowed_for, IsUrlOf, IsLoginOver, HasGrantFor, KeptGrantStands}
use Rattle.oidc_provider.proofs.Allowed.{allowed_forth}
use Rattle.oidc_provider.proofs.Begun as begun
use Rattle.oidc_provider.proofs.Begun.{same_Some}
use Rattle.oidc_provider.proofs.Served.{ties_itself}

abbrev tied : List ℕ → List ℕ → Bool
tied x y = eq_by_cmp (slice_cmp nat_cmp) x y

module _ {AC GC : Type 0} (additional : List SeenMember → Result AC Refusal) (gender : SeenMember → Result GC Refusal) (additional_out : AC → List OutSeen) (gender_data : GC → Data)
    (before made : SeenProvider) (url : Parts) (t : ToIssue AC GC) (query : List ℕ) (b : Begin) (client : Registration)
    (k : Keeps additional gender additional_out gender_data t.claims t.user_info (asked_with url t) before made query) (of : IsUrlOf b url)
    (known : registered before.registrations b.request.client_id ≡ Some client) where
  abbrev g : SeenGrant
  g = k.grant

  abbrev asked_pairs : Pairs
  asked_pairs = (asked_with url t).query

  is_allowed : causes.IsAllowed before (asked_with url t) k.allowed
  is_allowed = allowed_forth before (asked_with url t) k.allowed k.was_allowed

  abbrev asks : causes.AsksLogin before (asked_with url t) k.allowed
  asks = is_allowed.new_token.code.about.asks

  -- ---- what was allowed is what the begin asked for

  state_is : k.allowed.login.state ≡ b.request.state
  state_is = same_Some k.allowed.login.state b.request.state (sym asks.own_login.state ∙ begun.one_value url (codes "state") b.request.state of.once.state)

  nonce_is : k.allowed.login.nonce ≡ b.request.nonce
  nonce_is = same_Some k.allowed.login.nonce b.request.nonce (sym asks.own_login.nonce ∙ begun.one_value url (codes "nonce") b.request.nonce of.once.nonce)

  challenge_is : k.allowed.login.challenge ≡ s256 b.verifier
  challenge_is =
      let has = of.challenge.code_challenge in
      sym (begun.one_of_pair has.0 has.1 (s256 b.verifier) k.allowed.login.challenge (ap only_of (sym has.2) ∙ asks.own_login.challenge))

  id_found : registered before.registrations b.request.client_id ≡ Some k.allowed.client
  id_found =
      ap (option_and_then (registered before.registrations)) (sym (begun.one_value url (codes "client_id") b.request.client_id of.once.client_id))
      ∙ asks.names.registered

  client_is : k.allowed.client ≡ client
  client_is = same_Some k.allowed.client client (sym id_found ∙ known)

  allowed_is : k.allowed ≡ allowed_for client b
  allowed_is j = record {
    client = client_is j;
    login = record { state = state_is j; nonce = nonce_is j; challenge = challenge_is j };
  }

  redirect : (u : TextAndUrl) × (b.request.redirect_uri ≡ Some u) × (u.text ≡ k.allowed.client.redirect.text)
  redirect =
      begun.redirect_of b.request.redirect_uri (only asked_pairs (codes "redirect_uri")) k.allowed.client.redirect.text
      (ap only_of of.once.redirect_uri) asks.names.own_redirect

  pub query_is : query ≡ callback_query t.code b.request.state
  query_is = k.own_query ∙ ap (callback_query t.code) state_is

  named : pairs (callback_query t.code b.request.state) ≡ callback_pairs t.code b.request.state
  named = ap pairs (sym query_is) ∙ k.named ∙ ap (callback_pairs t.code) state_is

  granted : IsGranted additional gender additional_out gender_data before.settings (allowed_for client b) t.code t.token t.claims t.user_info g
  granted = subst (λ (x : Allowed). IsGranted additional gender additional_out gender_data before.settings x t.code t.token t.claims t.user_info g) allowed_is k.granted

  module _ (p : SeenProvider) (settings : p.settings ≡ before.settings) (by_code : grant_of_code p.grants t.code ≡ Some g)
      (by_token : finite.get p.grants.codes t.token ≡ Some t.code) where
    pub has_grant : HasGrantFor additional gender additional_out gender_data p t b client
    has_grant = record {
      grant = g;
      granted = subst (λ s. IsGranted additional gender additional_out gender_data s (allowed_for client b) t.code t.token t.claims t.user_info g) (sym settings) granted;
      by_code = by_code;
      by_token = by_token;
      redirect = redirect.0;
      own_redirect = redirect.1;
      same_redirect = redirect.2 ∙ ap (λ (r : Registration). r.redirect.text) client_is;
      one_subject = is_allowed.new_token.code.about.one_subject;
      token_text = is_allowed.token_text;
      named = named;
    }

  -- ---- at once

  pub made_settings : made.settings ≡ before.settings
  made_settings = ap (λ (q : SeenProvider). q.settings) k.kept

  made_code : grant_of_code made.grants t.code ≡ Some g
  made_code =
      ap (λ (q : SeenProvider). grant_of_code q.grants t.code) k.kept
      ∙ finite.get-insert nat_list_cmp_total before.grants.by_code g.code g t.code
      ∙ ap (λ (code : List ℕ). cond (tied t.code code) (Some g) (finite.get before.grants.by_code t.code)) granted.code
      ∙ ap (λ (same : Bool). cond same (Some g) (finite.get before.grants.by_code t.code)) (ties_itself t.code)

  made_token : finite.get made.grants.codes t.token ≡ Some t.code
  made_token =
      ap (λ (q : SeenProvider). finite.get q.grants.codes t.token) k.kept
      ∙ finite.get-insert nat_list_cmp_total before.grants.codes g.token g.code t.token
      ∙ ap (λ (token : List ℕ). cond (tied t.token token) (Some g.code) (finite.get before.grants.codes t.token)) granted.token
      ∙ ap (λ (same : Bool). cond same (Some g.code) (finite.get before.grants.codes t.token)) (ties_itself t.token)
      ∙ ap Some granted.code

  pub grant_made : HasGrantFor additional gender additional_out gender_data made t b client
  grant_made = has_grant made made_settings made_code made_token

pub kept_stands : {AC GC : Type 0} (additional : List SeenMember → Result AC Refusal) (gender : SeenMember → Result GC Refusal) (additional_out : AC → List OutSeen) (gender_data : GC → Data)
    → KeptGrantStands additional gender additional_out gender_data
kept_stands additional gender additional_out gender_data before made p url t query b client k of known settings by_code by_token = (
  has_grant additional gender additional_out gender_data before made url t query b client k of known p settings by_code by_token,
  query_is additional gender additional_out gender_data before made url t query b client k of known,
)

-- ---- a login over a provider that has one more grant

module _ {AC GC : Type 0} (additional : List SeenMember → Result AC Refusal) (gender : SeenMember → Result GC Refusal) (additional_out : AC → List OutSeen)
    (p : SeenProvider) (logins : SeenLogins SymmetricKey) (t : ToIssue AC GC) (now : ℤ) (b : Begin) (client : Registration)
    (login : IsLoginOver additional gender additional_out p logins t now b client) where
  with_grants : (grants : SeenGrants) → IsLoginOver additional gender additional_out (record p { grants = grants }) logins t now b client
  with_grants grants = record {
    pending = login.pending;
    provider = record {
      issuer = login.provider.issuer;
      own_id = login.provider.own_id;
      own_secret = login.provider.own_secret;
      token = login.provider.token;
      allows_hs256 = login.provider.allows_hs256;
    };
    info = login.info;
    in_range = login.in_range;
    unexpired = login.unexpired;
  }

  pub login_over : (made : SeenProvider) (grants : SeenGrants) → made ≡ record p { grants = grants } → IsLoginOver additional gender additional_out made logins t now b client
  login_over made grants is =
      subst (λ (q : SeenProvider). IsLoginOver additional gender additional_out q logins t now b client) (sym is) (with_grants grants)
