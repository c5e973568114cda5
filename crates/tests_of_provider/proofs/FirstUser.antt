-- Who is signed in by the first login, and what its other ends are.
use Rattle.std.proofs.Common.{◌≡◌, ℕ, ℤ, List, Bool, true, false, Some, Result, Ok, Err, refl, sym, ap, subst, ◌∙◌}
use Rattle.std.specs.Prelude.{codes, pos, is_some, ◌&&◌, IfOk, IfErr}
use Rattle.std.specs.declared.convert.Infallible.{Infallible}
use Rattle.base64.proofs.OnLiterals.{base64_on_literals}
use Rattle.sha2.specs.Sha256.{sha256, digest_bytes, hash_after, compress, rounds, schedule, first_words}
use Rattle.serde_json.specs.Data.{Data}
use Rattle.url.specs.Parts.{Parts}
use Rattle.oidc_members.specs.Seen.{SeenMember}
use Rattle.oidc_members.specs.declared.refusal.Refusal.{Refusal}
use Rattle.oidc_types.specs.declared.signing_error.SigningError.{SigningError}
use Rattle.oidc_keys.specs.CoreJwk.{SymmetricKey}
use Rattle.oidc_claims.specs.declared.additional.EmptyAdditionalClaims.{EmptyAdditionalClaims}
use Rattle.oidc_readers.specs.Moments.{moment_at}
use Rattle.oidc_user_info.specs.UserInfoClaims.{SeenUserInfoClaims}
use Rattle.oidc_oauth2.specs.Replies.{◌>>◌, ◌when◌, Unless}
use Rattle.oidc_oauth2.specs.TokenAnswers.{is_over_long}
use Rattle.oidc_tokens.specs.Hashes.{with_hashes}
use Rattle.oidc_login.specs.Logins.{SeenLogins}
use Rattle.oidc_login.specs.Token.{SeenIdToken}
use Rattle.oidc_login.specs.SignedIn.{SeenSignedIn}
use Rattle.oidc_login.specs.Callback.{Meant}
use Rattle.oidc_login.specs.Errors.{Error, seen, wants_memory}
use Rattle.oidc_login.specs.declared.errors.TooLong.TheVariants as place
use Rattle.oidc_login.specs.declared.errors.LoginError.{LoginError}
use Rattle.oidc_login.specs.declared.errors.LoginError.TheVariants as login
use Rattle.oidc_provider.specs.Provider.{SeenProvider}
use Rattle.oidc_provider.specs.Authorization.{callback_query}
use Rattle.oidc_provider.specs.Issuing.{hashed, token_body, claims_for}
use Rattle.oidc_provider.specs.Honest.{user_by}
use Rattle.oidc_provider.specs.SignIn.{ToIssue, to_issue, allowed_for, info_text, issued_reply, IsIssuedReply, SignsIn, IsHonestLogin, IsGrantable}
use Rattle.oidc_provider.specs.TwoCalls.{OfCallback, Grants}
use Rattle.oidc_provider.specs.declared.errors.AuthorizeError.TheVariants as refusal
use Rattle.oidc_provider.specs.declared.errors.SignInError.{SignInError}
use Rattle.oidc_provider.specs.declared.errors.SignInError.TheVariants.{Authorize, Login}
use Rattle.tests_of_provider.specs.Literals.{OwnClaims, own_settings, own_registration, own_provider, own_begin, own_request, own_url, own_logins, own_claims, own_info, own_grant, own_moment, own_demand, signed_claims, IsFirstUser, IsEndOfCallback, IsEnd}
use Rattle.tests_of_provider.proofs.FirstHonest.{nothing, honest, grantable}

-- ---- what is handed over

pub grant_is : (claims : OwnClaims) (info : SeenUserInfoClaims EmptyAdditionalClaims (List ℕ)) (code token : List ℕ)
    → claims ≡ own_claims → info ≡ own_info → code ≡ codes "c1" → token ≡ codes "abc" → to_issue claims info code token ≡ own_grant
unfolding own_grant
grant_is claims info code token ic ii ik it = λ i. to_issue (ic i) (ii i) (ik i) (it i)

pub moment_is : (now : ℤ) → Some now ≡ moment_at (pos 1000) → now ≡ own_moment
moment_is now is = cc

abbrev User : Type 0
User = SeenSignedIn EmptyAdditionalClaims (List ℕ)

abbrev IdToken : Type 0
IdToken = SeenIdToken EmptyAdditionalClaims (List ℕ)

-- ---- the claims

abbrev handed_in : OwnClaims
handed_in = claims_for own_settings (allowed_for own_registration own_begin) own_claims

hashed_is : hashed (codes "abc") handed_in ≡ Ok signed_claims
unfolding with_hashes own_settings own_registration own_begin own_request own_claims signed_claims sha256 digest_bytes hash_after compress rounds schedule first_words base64_on_literals
hashed_is = refl

same_claims : (x y : OwnClaims) → ◌≡◌ {A = Result OwnClaims SigningError} (Ok x) (Ok y) → x ≡ y
same_claims x y e = cc

-- ---- the reply

same_user : (x y : User) → ◌≡◌ {A = Meant User} (Ok x) (Ok y) → x ≡ y
same_user x y e = cc

by_lengths : (query body info : Bool) (user signed : User)
    → ◌≡◌ {A = Meant User} (Ok signed) ((login.TooLong place.Callback when query) >> ((login.TooLong place.TokenAnswer when body) >> ((login.TooLong place.UserInfoAnswer when info) >> Ok user)))
    → signed ≡ user
by_lengths true body info user signed is = absurd cc
by_lengths false true info user signed is = absurd cc
by_lengths false false true user signed is = absurd cc
by_lengths false false false user signed is = same_user signed user is

same_error : (x y : Error) → ◌≡◌ {A = Meant User} (Err x) (Err y) → y ≡ x
same_error x y e = let same : x ≡ y = cc in sym same

by_refusals : (query body info : Bool) (user : User) (e : Error)
    → ◌≡◌ {A = Meant User} (Err e) ((login.TooLong place.Callback when query) >> ((login.TooLong place.TokenAnswer when body) >> ((login.TooLong place.UserInfoAnswer when info) >> Ok user)))
    → IsEndOfCallback e
by_refusals true body info user e is = subst IsEndOfCallback (same_error e (login.TooLong place.Callback) is) tt
by_refusals false true info user e is = subst IsEndOfCallback (same_error e (login.TooLong place.TokenAnswer) is) tt
by_refusals false false true user e is = subst IsEndOfCallback (same_error e (login.TooLong place.UserInfoAnswer) is) tt
by_refusals false false false user e is = absurd cc

module _ (gender_data : List ℕ → Data) where
  abbrev Replies : Meant User → Type 0
  Replies reply = IsIssuedReply nothing gender_data own_settings own_registration own_begin own_grant reply

  abbrev info_is_long : Bool
  info_is_long = is_some own_begin.user_info && is_over_long (info_text nothing gender_data own_settings own_registration own_begin own_grant)

  signed_is : (id_token : IdToken) (signed : User) → Ok signed ≡ issued_reply nothing gender_data own_settings own_registration own_begin own_grant id_token
      → signed ≡ user_by id_token own_grant.token own_grant.user_info own_begin.user_info
  unfolding issued_reply
  signed_is id_token signed is =
      by_lengths (is_over_long (callback_query own_grant.code own_begin.request.state)) (is_over_long (token_body own_grant.token id_token)) info_is_long
      (user_by id_token own_grant.token own_grant.user_info own_begin.user_info) signed is

  refused_by : (id_token : IdToken) (e : Error) → Err e ≡ issued_reply nothing gender_data own_settings own_registration own_begin own_grant id_token
      → IsEndOfCallback e
  unfolding issued_reply
  refused_by id_token e is =
      by_refusals (is_over_long (callback_query own_grant.code own_begin.request.state)) (is_over_long (token_body own_grant.token id_token)) info_is_long
      (user_by id_token own_grant.token own_grant.user_info own_begin.user_info) e is

  user_is : (signed : User) (x : Replies (Ok signed)) → signed ≡ user_by x.id_token (codes "abc") own_info (Some own_demand)
  unfolding own_grant own_begin
  user_is signed x = signed_is x.id_token signed x.is_reply

  payload_is : (payload : OwnClaims) → hashed own_grant.token (claims_for own_settings (allowed_for own_registration own_begin) own_grant.claims) ≡ Ok payload
      → payload ≡ signed_claims
  unfolding own_grant
  payload_is payload is = same_claims payload signed_claims (sym is ∙ hashed_is)

  first_user : (signed : User) → Replies (Ok signed) → IsFirstUser signed
  first_user signed x =
      let same : signed ≡ user_by x.id_token (codes "abc") own_info (Some own_demand) = user_is signed x in record {
        claims = ap (λ (user : User). user.id_token.payload) same ∙ payload_is x.id_token.payload x.claims;
        access_token = ap (λ (user : User). user.access_token) same;
        refresh_token = ap (λ (user : User). user.refresh_token) same;
        user_info = ap (λ (user : User). user.user_info) same;
      }

  -- ---- its ends

  end_of : (e : LoginError Infallible) → Unless (wants_memory e) (Replies (Err (seen e))) → IsEndOfCallback e
  end_of (login.Memory spent) x = tt
  end_of (login.TooLong at) x = tt
  end_of login.State x = refused_by x.id_token (seen {E = Infallible} login.State) x.is_reply
  end_of (login.Provider code) x = refused_by x.id_token (seen {E = Infallible} (login.Provider code)) x.is_reply
  end_of login.Callback x = refused_by x.id_token (seen {E = Infallible} login.Callback) x.is_reply
  end_of (login.Token e) x = refused_by x.id_token (seen {E = Infallible} (login.Token e)) x.is_reply
  end_of login.NoIdToken x = refused_by x.id_token (seen {E = Infallible} login.NoIdToken) x.is_reply
  end_of (login.Claims kind) x = refused_by x.id_token (seen {E = Infallible} (login.Claims kind)) x.is_reply
  end_of (login.Signing e) x = refused_by x.id_token (seen {E = Infallible} (login.Signing e)) x.is_reply
  end_of login.TokenHash x = refused_by x.id_token (seen {E = Infallible} login.TokenHash) x.is_reply
  end_of (login.UserInfo e) x = refused_by x.id_token (seen {E = Infallible} (login.UserInfo e)) x.is_reply

  abbrev Signs : Result User SignInError → Type 0
  Signs result = OfCallback (SignsIn nothing gender_data own_settings own_registration own_begin own_grant) result

  ends : (result : Result User SignInError) → Signs result → Grants result → IfOk result IsFirstUser × IfErr result IsEnd
  ends (Ok signed) signs grants = (first_user signed signs, tt)
  ends (Err (Login e)) signs grants = (tt, end_of e signs)
  ends (Err (Authorize refusal.Memory)) signs grants = (tt, tt)
  ends (Err (Authorize e)) signs grants = (tt, absurd grants)

  -- ---- of a login that is the first one

  module _ (additional : List SeenMember → Result EmptyAdditionalClaims Refusal) (gender : SeenMember → Result (List ℕ) Refusal)
      (result : Result User SignInError) where
    abbrev Comes : SeenProvider → SeenLogins SymmetricKey → Parts → ToIssue EmptyAdditionalClaims (List ℕ) → ℤ → Type 0
    Comes p logins url t now =
        ((h : IsHonestLogin additional gender nothing p logins url t now)
        → OfCallback (SignsIn nothing gender_data p.settings h.registration h.begin t) result)
        → ((h : IsHonestLogin additional gender nothing p logins url t now) → IsGrantable p h.registration h.begin url t → Grants result)
        → IfOk result IsFirstUser × IfErr result IsEnd

    comes : Comes own_provider own_logins own_url own_grant own_moment
    unfolding own_provider honest
    comes signs grants = ends result (signs (honest additional gender)) (grants (honest additional gender) grantable)

    pub first : (p : SeenProvider) (logins : SeenLogins SymmetricKey) (url : Parts) (t : ToIssue EmptyAdditionalClaims (List ℕ)) (now : ℤ)
        → p ≡ own_provider → logins ≡ own_logins → url ≡ own_url → t ≡ own_grant → now ≡ own_moment → Comes p logins url t now
    first p logins url t now ip il iu it im =
        subst (λ p. Comes p logins url t now) (sym ip)
        (subst (λ logins. Comes own_provider logins url t now) (sym il)
        (subst (λ url. Comes own_provider own_logins url t now) (sym iu)
        (subst (λ t. Comes own_provider own_logins own_url t now) (sym it)
        (subst (λ now. Comes own_provider own_logins own_url own_grant now) (sym im) comes))))
