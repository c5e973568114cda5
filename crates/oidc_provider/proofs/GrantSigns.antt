-- A login over a provider that has a grant for its begin is honest, and signs in.
use Rattle.std.proofs.Common.{◌≡◌, ◌⊎◌, inl, inr, ℕ, ℤ, List, [], ◌∷◌, Bool, ◌&&◌, Option, None, Some, Result, Ok, refl, ap, sym, ◌∙◌, subst, ⊎_elim}
use Rattle.std.specs.Prelude.{is_some, option_map, IsUtf8}
use Rattle.std.specs.Option.{ok_or}
use Rattle.serde_json.specs.Data.{Data}
use Rattle.http_header.specs.FieldValue.{is_visible_text}
use Rattle.oidc_members.specs.Seen.{SeenMember, OutSeen}
use Rattle.oidc_readers.proofs.Theorems.{standing_free}
use Rattle.oidc_members.specs.declared.refusal.Refusal.{Refusal}
use Rattle.oidc_types.specs.declared.core_algorithms.CoreJwsSigningAlgorithm.{CoreJwsSigningAlgorithm}
use Rattle.oidc_types.specs.declared.core_algorithms.CoreJwsSigningAlgorithm.TheVariants.{HmacSha256}
use Rattle.oidc_types.specs.declared.core_algorithms.CoreJweContentEncryptionAlgorithm.{CoreJweContentEncryptionAlgorithm}
use Rattle.oidc_keys.specs.CoreJwk.{SymmetricKey, hash_function}
use Rattle.oidc_keys.specs.declared.core_jwk.CoreJsonWebKeyUse.{CoreJsonWebKeyUse}
use Rattle.oidc_keys.specs.declared.refusals.SignatureVerificationError.TheVariants.{DisallowedAlg}
use Rattle.oidc_jwt.specs.declared.header.TokenHeader.{TokenHeader}
use Rattle.oidc_jwt.specs.declared.header.JsonWebTokenAlgorithm.{JsonWebTokenAlgorithm}
use Rattle.oidc_jwt.specs.declared.header.JsonWebTokenAlgorithm.TheVariants as algorithm
use Rattle.oidc_oauth2.specs.Messages.{SeenAnswer}
use Rattle.oidc_oauth2.specs.Replies.{◌>>◌, ◌when◌}
use Rattle.oidc_oauth2.specs.TokenAnswers.{is_over_long, record_in}
use Rattle.oidc_tokens.specs.Hashes.{hash_text}
use Rattle.oidc_tokens.specs.Issuing.{Expects}
use Rattle.oidc_login.specs.Types.{SiteTypes}
use Rattle.oidc_login.specs.Logins.{SeenLogin, SeenLogins}
use Rattle.oidc_login.specs.Begin.{Begin}
use Rattle.oidc_login.specs.Token.{SeenIdToken, tokens_read, verifier_of, is_sent, subject_of, IsAcceptedBy, FitsHash}
use Rattle.oidc_login.specs.SignedIn.{SeenSignedIn}
use Rattle.oidc_login.specs.Callback.{Attempt, Meant, outcome}
use Rattle.oidc_login.specs.Runs.{attempt}
use Rattle.oidc_login.specs.declared.types.UserInfoDemand.{UserInfoDemand}
use Rattle.oidc_login.specs.declared.errors.LoginError.TheVariants as login_error
use Rattle.oidc_login.specs.declared.errors.TooLong.TheVariants as place
use Rattle.oidc_provider.specs.declared.settings.Registration.{Registration}
use Rattle.std.specs.FinMap as finite
use Rattle.oidc_provider.specs.Settings.{registered}
use Rattle.oidc_provider.specs.Grants.{SeenGrant, grant_of_code}
use Rattle.oidc_provider.specs.Provider.{SeenProvider}
use Rattle.oidc_provider.specs.Authorization.{Allowed, callback_pairs, callback_query}
use Rattle.oidc_provider.specs.Issuing.{core_types, key_of_secret, claims_for, tokens, token_body, IsGranted}
use Rattle.oidc_provider.specs.Answers.{served}
use Rattle.oidc_provider.specs.Honest.{AreFormTexts, NamesLogin, Knows, StandsUnredeemed, HoldsToken, HoldsInfo, IsHonest, user_by, honest_reply}
use Rattle.oidc_provider.specs.SignIn.{ToIssue, login_of_begin, allowed_for, MayBeDemanded, IsGrantedLogin, info_text, issued_reply, IsIssuedReply, GrantSignsIn}
use Rattle.oidc_provider.proofs.HonestLogins.{honest}
use Rattle.oidc_provider.proofs.IssuedHash.{hashed_as}
use Rattle.oidc_provider.proofs.ReadAgain.{tokens_again, some_body}
use Rattle.oidc_provider.proofs.Registered.{own_id, equal_texts}

same_alg : (x y : CoreJwsSigningAlgorithm)
    → ◌≡◌ {A = JsonWebTokenAlgorithm CoreJweContentEncryptionAlgorithm CoreJwsSigningAlgorithm} (algorithm.Signature x) (algorithm.Signature y) → x ≡ y
same_alg x y e = cc

-- a text counts where user info is demanded
same_length : (demand : Option UserInfoDemand) (body text : List ℕ) → (demand ≡ None) ⊎ (body ≡ text)
    → (is_some demand && is_over_long body) ≡ (is_some demand && is_over_long text)
same_length None body text either = refl
same_length (Some demand) body text (inl none) = absurd cc
same_length (Some demand) body text (inr is) = ap (λ (b : List ℕ). is_over_long b) is

module _ {AC GC : Type 0} (additional : List SeenMember → Result AC Refusal) (gender : SeenMember → Result GC Refusal) (additional_out : AC → List OutSeen) (gender_data : GC → Data)
    (p : SeenProvider) (logins : SeenLogins SymmetricKey) (t : ToIssue AC GC) (now : ℤ)
    (h : IsGrantedLogin additional gender additional_out gender_data p logins t now) where
  abbrev types : SiteTypes AC GC SymmetricKey CoreJsonWebKeyUse
  types = core_types additional gender

  abbrev b : Begin
  b = h.begin

  abbrev query : List ℕ
  query = callback_query t.code h.begin.request.state

  abbrev a : Attempt SymmetricKey
  a = attempt logins query now

  abbrev g : SeenGrant
  g = h.stands.grant

  abbrev login : SeenLogin
  login = login_of_begin h.begin

  abbrev client : Registration
  client = h.registration

  abbrev allowed : Allowed
  allowed = allowed_for h.registration h.begin

  abbrev granted : IsGranted additional gender additional_out gender_data p.settings allowed t.code t.token t.claims t.user_info g
  granted = h.stands.granted

  abbrev id_token : SeenIdToken AC GC
  id_token = granted.id_token

  -- ---- the login, the client and the grant

  names : NamesLogin types p a g login
  names = record {
    state = b.request.state;
    query = h.stands.named ∙ ap (λ (code : List ℕ). callback_pairs code b.request.state) (sym granted.code);
    pending = h.login.pending.pending;
  }

  id_is : client.client_id ≡ logins.client.client_id
  id_is = own_id p.registrations logins.client.client_id client h.login.provider.own_id

  knows : Knows types p a g client
  knows = record {
    known = ap (registered p.registrations) (granted.client ∙ id_is) ∙ h.login.provider.own_id;
    own_id = sym id_is;
    own_secret = h.login.provider.own_secret;
    endpoint = h.login.provider.token.endpoint;
    own_endpoint = h.login.provider.token.own_endpoint;
    same_address = h.login.provider.token.same_address;
    address = h.login.provider.token.address;
  }

  was_granted : StandsUnredeemed types p a g login
  was_granted = record {
    of_own_code = ap (grant_of_code p.grants) granted.code ∙ h.stands.by_code;
    of_own_token = ap (finite.get p.grants.codes) granted.token ∙ h.stands.by_token ∙ ap Some (sym granted.code);
    unredeemed = granted.unredeemed;
    redirect = h.stands.redirect;
    own_redirect = h.stands.own_redirect;
    same_redirect = h.stands.same_redirect ∙ sym granted.redirect;
    same_challenge = sym granted.challenge;
    header_text = ap is_visible_text granted.token ∙ h.stands.token_text;
  }

  texts : AreFormTexts client login h.stands.redirect.text g.code
  texts = record {
    code_text = subst IsUtf8 (sym granted.code) granted.texts.code;
    verifier_text = h.login.pending.verifier_text;
    redirect_text = subst IsUtf8 (sym h.stands.same_redirect) granted.texts.redirect;
    id_text = granted.texts.id;
    secret_text = granted.texts.secret;
  }

  -- ---- the ID token

  read : record_in (tokens_read types logins.client.reading) g.token_body ≡ Ok (tokens g.token id_token)
  read =
      tokens_again types logins.client.reading t.token id_token (granted.usable.reads_back logins.client.reading h.login.in_range)
      g.token_body granted.token_text granted.texts.token granted.usable.text
      ∙ ap (λ (token : List ℕ). Ok (tokens token id_token)) (sym granted.token)

  expects : Expects types.keys (verifier_of types logins.client) (is_sent b.request.nonce) now HmacSha256 (key_of_secret client.secret) (claims_for p.settings allowed t.claims)
  expects = record {
    issuer = h.login.provider.issuer;
    audience = ap (λ (id : List ℕ). id ∷ []) id_is;
    allowed = h.login.provider.allows_hs256;
    chosen = ap (λ (o : Option (List ℕ)). ok_or (option_map key_of_secret o) DisallowedAlg) h.login.provider.own_secret;
    unexpired = h.login.unexpired;
    nonce = equal_texts b.request.nonce b.request.nonce refl;
  }

  accepted : IsAcceptedBy types logins.client login.nonce now id_token
  accepted = granted.usable.accepted (verifier_of types logins.client) (is_sent b.request.nonce) now expects

  alg_is : accepted.alg ≡ HmacSha256
  alg_is = same_alg accepted.alg HmacSha256 (sym accepted.signed ∙ ap (λ (header : TokenHeader CoreJweContentEncryptionAlgorithm CoreJwsSigningAlgorithm). header.alg) granted.issued.header)

  fits_hash : FitsHash types id_token accepted.key accepted.alg g.token
  fits_hash claim is =
      ap (λ (alg : CoreJwsSigningAlgorithm). hash_text (hash_function alg) g.token) alg_is
      ∙ ap (hash_text (hash_function HmacSha256)) granted.token
      ∙ (hashed_as t.token (claims_for p.settings allowed t.claims) id_token.payload granted.issued.claimed).own_hash
      ∙ is

  holds : HoldsToken types p a g login id_token
  holds = record {
    some_body = some_body (tokens_read types logins.client.reading) (tokens g.token id_token) g.token_body read;
    read = read;
    accepted = accepted;
    fits_hash = fits_hash;
  }

  -- ---- user info

  about : t.user_info.standard_claims.subject ≡ subject_of id_token
  about =
      sym h.stands.one_subject
      ∙ sym (hashed_as t.token (claims_for p.settings allowed t.claims) id_token.payload granted.issued.claimed).subject

  info_held : (demand : UserInfoDemand) → MayBeDemanded additional gender additional_out p.settings logins.client t.user_info demand
      → HoldsInfo types p a g id_token demand t.user_info
  info_held demand may = record {
    unsigned_allowed = may.unsigned_allowed;
    endpoint = may.endpoint.endpoint;
    own_endpoint = may.endpoint.own_endpoint;
    same_address = may.endpoint.same_address;
    address = may.endpoint.address;
    read = granted.info_back logins.client.reading may.in_range;
    about = about;
  }

  abbrev Demands : Type 0
  Demands = (demand : UserInfoDemand) × (b.user_info ≡ Some demand) × MayBeDemanded additional gender additional_out p.settings logins.client t.user_info demand

  abbrev Demanded : Type 0
  Demanded = (demand : UserInfoDemand) × (login.user_info ≡ Some demand) × HoldsInfo types p a g id_token demand t.user_info

  demanded : Demands → (login.user_info ≡ None) ⊎ Demanded
  demanded (demand, is, may) = inr (demand, is, info_held demand may)

  info : (login.user_info ≡ None) ⊎ Demanded
  info = ⊎_elim (λ none. inl none) demanded h.login.info

  -- claims in range hold no float, so their text is known
  abbrev own_text : List ℕ
  own_text = info_text additional_out gender_data p.settings h.registration h.begin t

  text_written : Demands → (b.user_info ≡ None) ⊎ (g.info_body ≡ own_text)
  text_written (demand, is, may) = inr (granted.info_text (standing_free (additional_out t.user_info.additional_claims) may.in_range.values))

  info_length : (is_some b.user_info && is_over_long g.info_body) ≡ (is_some b.user_info && is_over_long own_text)
  info_length = same_length b.user_info g.info_body own_text (⊎_elim (λ none. inl none) text_written h.login.info)

  -- ---- the whole

  is_honest : IsHonest types p a g login id_token t.user_info
  unfolding was_granted
  is_honest = record {
    names = names;
    client = client;
    knows = knows;
    granted = was_granted;
    texts = texts;
    holds = holds;
    info = info;
  }

  abbrev reply_by : Bool → Bool → Bool → List ℕ → Meant (SeenSignedIn AC GC)
  reply_by long_query long_body long_info token = do
    login_error.TooLong place.Callback when long_query
    login_error.TooLong place.TokenAnswer when long_body
    login_error.TooLong place.UserInfoAnswer when long_info
    Ok (user_by id_token token t.user_info b.user_info)

  honest_is : honest_reply a g login id_token t.user_info
      ≡ reply_by (is_over_long query) (is_over_long g.token_body) (is_some b.user_info && is_over_long g.info_body) g.token
  unfolding honest_reply
  honest_is = refl

  issued_is : issued_reply additional_out gender_data p.settings h.registration h.begin t id_token
      ≡ reply_by (is_over_long query) (is_over_long (token_body t.token id_token)) (is_some b.user_info && is_over_long own_text) t.token
  unfolding issued_reply
  issued_is = refl

  same_reply : honest_reply a g login id_token t.user_info ≡ issued_reply additional_out gender_data p.settings h.registration h.begin t id_token
  same_reply =
      honest_is
      ∙ (λ j. reply_by (is_over_long query) (is_over_long (granted.token_text j)) (info_length j) (granted.token j))
      ∙ sym issued_is

  pub signs : (answers : List SeenAnswer) → answers ≡ served p (outcome types a answers).sent
      → IsIssuedReply additional_out gender_data p.settings h.registration h.begin t (outcome types a answers).reply
  signs answers came = record {
    id_token = id_token;
    claims = granted.issued.claimed;
    issued = granted.issued;
    is_reply = honest types p a g login id_token t.user_info answers is_honest came ∙ same_reply;
  }

pub grant_signs_in : {AC GC : Type 0} (additional : List SeenMember → Result AC Refusal) (gender : SeenMember → Result GC Refusal) (additional_out : AC → List OutSeen) (gender_data : GC → Data)
    → GrantSignsIn additional gender additional_out gender_data
grant_signs_in additional gender additional_out gender_data p logins t now h answers came =
    signs additional gender additional_out gender_data p logins t now h answers came
