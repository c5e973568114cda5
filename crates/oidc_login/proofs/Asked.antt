-- The request for user info: what it asks, and why it isn't made.
use Rattle.std.proofs.Common.{◌≡◌, ℕ, List, Bool, true, false, Option, None, Some, Ok, Err, refl, sym, ap, subst}
use Rattle.std.specs.Prelude.{not, option_map, IsSomeAnd}
use Rattle.http_header.specs.FieldValue.{is_visible_text, plain_value}
use Rattle.oidc_types.specs.{TextAndUrl}
use Rattle.oidc_oauth2.specs.Messages.{SeenRequest}
use Rattle.oidc_oauth2.specs.HttpUtils.{bearer_of}
use Rattle.oidc_oauth2.specs.Requests.{is_address}
use Rattle.oidc_oauth2.specs.Replies.{◌>>=◌, ◌>>◌, ◌when◌, ◌or◌}
use Rattle.oidc_user_info.specs.InfoRequests.{SeenInfoRequest, get_with, info_request}
use Rattle.oidc_user_info.specs.declared.errors.InfoOther.TheVariants as info_other
use Rattle.oidc_user_info.specs.declared.errors.PrepareInfoError.TheVariants.{Bearer, Uri, Memory}
use Rattle.oidc_user_info.specs.declared.errors.UserInfoError.TheVariants as info_error
use Rattle.oidc_client.specs.Client.{info_request_at}
use Rattle.oidc_login.specs.Types.{SeenLoginClient}
use Rattle.oidc_login.specs.Token.{subject_of}
use Rattle.oidc_login.specs.SignedIn.{SeenSignedIn}
use Rattle.oidc_login.specs.UserInfo.{demanded, info_ask}
use Rattle.oidc_login.specs.Callback.{Meant, SeenPreparedInfo, prepared_info}
use Rattle.oidc_login.specs.Steps.{prepared_by}
use Rattle.oidc_login.specs.declared.types.UserInfoDemand.{UserInfoDemand}
use Rattle.oidc_login.specs.declared.errors.LoginError.TheVariants.{UserInfo}

-- ---- the rows of the request

bearer_by : (visible fits : Bool) (request : SeenRequest) → ((Bearer when not visible) >> ((Uri when not fits) >> Ok request)) ≡ Err Bearer → visible ≡ false
bearer_by false fits request is = refl
bearer_by true false request is = cc
bearer_by true true request is = cc

uri_by : (visible fits : Bool) (request : SeenRequest) → ((Bearer when not visible) >> ((Uri when not fits) >> Ok request)) ≡ Err Uri → (visible ≡ true) × (fits ≡ false)
uri_by false fits request is = absurd (cc)
uri_by true false request is = (refl, refl)
uri_by true true request is = absurd (cc)

memory_by : (visible fits : Bool) (request : SeenRequest) → ((Bearer when not visible) >> ((Uri when not fits) >> Ok request)) ≡ Err Memory → ⊥
memory_by false fits request is = cc
memory_by true false request is = cc
memory_by true true request is = cc

module _ {Key : Type 0} (ask : SeenInfoRequest Key) where
  pub bearer : info_request ask ≡ Err Bearer → is_visible_text ask.access_token ≡ false
  unfolding info_request
  bearer is = bearer_by (is_visible_text ask.access_token) (is_address ask.address) _ is

  pub uri : info_request ask ≡ Err Uri → (is_visible_text ask.access_token ≡ true) × (is_address ask.address ≡ false)
  unfolding info_request
  uri is = uri_by (is_visible_text ask.access_token) (is_address ask.address) _ is

  pub never_memory : info_request ask ≡ Err Memory → ⊥
  unfolding info_request
  never_memory is = memory_by (is_visible_text ask.access_token) (is_address ask.address) _ is

  pub bearer_back : is_visible_text ask.access_token ≡ false → info_request ask ≡ Err Bearer
  unfolding info_request
  bearer_back is = rw is refl

  pub uri_back : is_visible_text ask.access_token ≡ true → is_address ask.address ≡ false → info_request ask ≡ Err Uri
  unfolding info_request
  uri_back visible address = rw (visible, address) refl

  pub made : is_visible_text ask.access_token ≡ true → is_address ask.address ≡ true → (request : SeenRequest) × (info_request ask ≡ Ok request)
  unfolding info_request
  made visible address = (get_with ask.address ask.response_type (plain_value (bearer_of ask.access_token)), rw (visible, address) refl)

-- ---- what is asked of a client

module _ {Key : Type 0} (client : SeenLoginClient Key) (demand : UserInfoDemand) (token subject : List ℕ) where
  none_by : (endpoint : Option TextAndUrl) → option_map (λ e. demanded demand (info_request_at client token (Some subject) e)) endpoint ≡ None → endpoint ≡ None
  none_by None is = refl
  none_by (Some e) is = cc

  pub no_endpoint : info_ask client demand token subject ≡ None → client.user_info_url ≡ None
  no_endpoint is = none_by client.user_info_url is

  token_by : (endpoint : Option TextAndUrl) (ask : SeenInfoRequest Key) → option_map (λ e. demanded demand (info_request_at client token (Some subject) e)) endpoint ≡ Some ask → ask.access_token ≡ token
  token_by None ask is = absurd (cc)
  token_by (Some e) ask is = sym (ap (λ o. elim o as (λ _. List ℕ) [ None ↦ token | Some a ↦ a.access_token ]) is)

  pub own_token : (ask : SeenInfoRequest Key) → info_ask client demand token subject ≡ Some ask → ask.access_token ≡ token
  own_token ask is = token_by client.user_info_url ask is

  about_by : (endpoint : Option TextAndUrl) (ask : SeenInfoRequest Key) → option_map (λ e. demanded demand (info_request_at client token (Some subject) e)) endpoint ≡ Some ask
      → ask.demand.verifier.expected_subject ≡ Some subject
  about_by None ask is = absurd (cc)
  about_by (Some e) ask is = sym (ap (λ o. elim o as (λ _. Option (List ℕ)) [ None ↦ Some subject | Some a ↦ a.demand.verifier.expected_subject ]) is)

  pub about : (ask : SeenInfoRequest Key) → info_ask client demand token subject ≡ Some ask → ask.demand.verifier.expected_subject ≡ Some subject
  about ask is = about_by client.user_info_url ask is

  -- what the client's own request asks, with a demand's values
  asks_by : (endpoint : Option TextAndUrl) (ask : SeenInfoRequest Key) → IsSomeAnd endpoint (λ e. ask ≡ info_request_at client token (Some subject) e)
      → option_map (λ e. demanded demand (info_request_at client token (Some subject) e)) endpoint ≡ Some (demanded demand ask)
  asks_by None ask own = absurd own
  asks_by (Some e) ask own = ap (λ a. Some (demanded demand a)) (sym own)

  pub asks : (ask : SeenInfoRequest Key) → IsSomeAnd client.user_info_url (λ e. ask ≡ info_request_at client token (Some subject) e) → info_ask client demand token subject ≡ Some (demanded demand ask)
  asks ask own = asks_by client.user_info_url ask own

-- ---- the step before the request

module _ {AC GC Key : Type 0} (client : SeenLoginClient Key) (demand : UserInfoDemand) (user : SeenSignedIn AC GC) where
  abbrev uri_missing : Option (SeenInfoRequest Key) → Meant (SeenPreparedInfo Key)
  uri_missing o = (o or UserInfo (info_error.Other info_other.Uri)) >>= prepared_by

  -- by what the client is asked
  pub asking_of : (ask : SeenInfoRequest Key) → info_ask client demand user.access_token (subject_of user.id_token) ≡ Some ask → prepared_info client demand user ≡ prepared_by ask
  unfolding prepared_info
  asking_of ask is = ap uri_missing is

  pub asking_nowhere : client.user_info_url ≡ None → prepared_info client demand user ≡ Err (UserInfo (info_error.Other info_other.Uri))
  unfolding prepared_info
  asking_nowhere none =
      ap (λ o. uri_missing (option_map (λ e. demanded demand (info_request_at client user.access_token (Some (subject_of user.id_token)) e)) o)) none

  -- the request that the client makes, by the copies of token and subject
  pub asked : (token subject : List ℕ) (ask : SeenInfoRequest Key) → token ≡ user.access_token → subject ≡ subject_of user.id_token
      → IsSomeAnd client.user_info_url (λ e. ask ≡ info_request_at client token (Some subject) e) → prepared_info client demand user ≡ prepared_by (demanded demand ask)
  asked token subject ask same_token same_subject own =
      asking_of (demanded demand ask)
      (subst (λ t. info_ask client demand t (subject_of user.id_token) ≡ Some (demanded demand ask)) same_token
      (subst (λ s. info_ask client demand token s ≡ Some (demanded demand ask)) same_subject (asks client demand token subject ask own)))
