-- A valid login signs in.
use Rattle.std.proofs.Common.{◌≡◌, ℕ, List, drop, false, Option, None, Some, refl, sym, ap, ◌∙◌, inl, ⊎_elim}
use Rattle.std.specs.Prelude.{option_map}
use Rattle.oidc_members.specs.declared.reading.Reading.{Reading}
use Rattle.oidc_oauth2.specs.Messages.{SeenResponse, SeenAnswer}
use Rattle.oidc_oauth2.specs.Transport.{first_answer}
use Rattle.oidc_oauth2.specs.AnswerCauses.{HoldsTokens}
use Rattle.oidc_user_info.specs.UserInfoClaims.{SeenUserInfoClaims}
use Rattle.oidc_user_info.specs.InfoRequests.{SeenInfoRequest}
use Rattle.oidc_user_info.specs.InfoCauses.{IsAsked, Fits as FitsAnswer, HoldsObject, ReadsObject, IsUserInfo}
use Rattle.oidc_client.specs.Client.{info_request_at}
use Rattle.oidc_login.specs.Types.{SiteTypes}
use Rattle.oidc_login.specs.Token.{Tokens, error_read, tokens_read, subject_of}
use Rattle.oidc_login.specs.SignedIn.{SeenSignedIn}
use Rattle.oidc_login.specs.UserInfo.{demanded, info_ask}
use Rattle.oidc_login.specs.Callback.{Attempt}
use Rattle.oidc_login.specs.Causes.{Names, HasCode, Asks, Held, Answered, Reads, Holds, Accepted, Fits, Demands, AsksInfo, InfoAnswered, HoldsInfo, IsSignedIn}
use Rattle.oidc_login.specs.ValidLogin.{IsValidTokenAnswer, IsValidInfoAnswer, IsValidInfo, IsValidLogin}
use Rattle.oidc_login.specs.declared.types.UserInfoDemand.{UserInfoDemand}
use Rattle.oidc_login.proofs.Asked.{made}

module _ {AC GC Key Use : Type 0} (types : SiteTypes AC GC Key Use) where
  -- ---- what the two answers hold

  tokens_held : (reading : Reading) (tokens : Tokens AC GC) (r : SeenResponse) → IsValidTokenAnswer types reading tokens r → HoldsTokens error_read (tokens_read types reading) r tokens
  tokens_held reading tokens r x = record { holds = record { success = x.success; json = x.json; some_body = x.some_body }; read = x.read }

  same_text : (x y : List ℕ) → ◌≡◌ {A = Option (List ℕ)} (Some x) (Some y) → x ≡ y
  same_text x y e = cc

  info_held : (ask : SeenInfoRequest Key) (answers : List SeenAnswer) (subject : List ℕ) (found : SeenUserInfoClaims AC GC) (r : SeenResponse)
      → IsAsked ask → first_answer answers ≡ Some r → IsValidInfoAnswer types ask.demand.reading subject found r → ask.demand.signed ≡ false
      → ask.demand.verifier.expected_subject ≡ Some subject → IsUserInfo ask answers types found
  info_held ask answers subject found r asked came x unsigned expected =
      let fits : FitsAnswer ask answers r = record { came = record { asked = asked; response_came = came }; not_too_long = x.not_too_long } in
      let holds : HoldsObject ask answers r.body = record { response = r; succeeds = record { fits = fits; success = x.success }; json = x.json; own_body = refl } in
      let reads : ReadsObject ask answers types found = record { body = r.body; allows = record { holds = holds; unsigned_allowed = unsigned }; read = x.read } in
      inl (record { reads = reads; about = λ e is. x.about ∙ same_text subject e (sym expected ∙ is) })

  module _ (a : Attempt Key) (answers : List SeenAnswer) where
    -- ---- up to user info

    held : IsValidLogin types a answers → Held AC GC
    held v = record { login = v.login; tokens = v.tokens; token = v.token }

    fits : (v : IsValidLogin types a answers) → Fits types a answers (held v)
    unfolding held
    fits v =
        let names : Names a v.login = record { short_query = v.short_query; login_named = v.login_named } in
        let has_code : HasCode a v.login v.code = record { names = names; no_error = v.no_error; one_code = v.one_code } in
        let asked : Asks a v.login v.request = record { code = v.code; has_code = has_code; request_made = v.request_made } in
        let answered : Answered types a answers v.login v.response =
        record { request = v.request; asked = asked; response_came = v.response_came; not_too_long = v.token_answer.not_too_long } in
        let reads : Reads types a answers v.login v.tokens =
        record { response = v.response; answered = answered; tokens_held = tokens_held a.client.reading v.tokens v.response v.token_answer } in
        let holds : Holds types a answers (held v) = record { reads = reads; own_id_token = v.own_id_token } in
        let accepted : Accepted types a answers (held v) = record { holds = holds; accepts = v.accepted } in
        record { accepted = accepted; fits_hash = v.fits_hash }

    without_info : (v : IsValidLogin types a answers) → v.login.user_info ≡ None → (signed : SeenSignedIn AC GC) × IsSignedIn types a answers signed
    unfolding held
    without_info v none =
        let x = fits v in (
          record { id_token = v.token; access_token = v.tokens.access_token; refresh_token = v.tokens.refresh_token; user_info = None },
          record {
            held = held v;
            holds = x.accepted.holds;
            accepted = x.accepted.accepts;
            fits_hash = x.fits_hash;
            own_id_token = refl;
            own_access_token = refl;
            own_refresh_token = refl;
            info = none;
          },
        )

    -- ---- with user info

    module _ (v : IsValidLogin types a answers) (demand : UserInfoDemand) (is : v.login.user_info ≡ Some demand)
        (i : IsValidInfo types a answers demand v.tokens.access_token (subject_of v.token)) where
      abbrev ask : SeenInfoRequest Key
      ask = demanded demand (info_request_at a.client v.tokens.access_token (Some (subject_of v.token)) i.endpoint)

      own_ask : info_ask a.client demand v.tokens.access_token (subject_of v.token) ≡ Some ask
      own_ask =
          ap (λ o. option_map (λ e. demanded demand (info_request_at a.client v.tokens.access_token (Some (subject_of v.token)) e)) o) i.own_endpoint

      demands : Demands types a answers (held v) ask
      unfolding held
      demands = record { fits = fits v; demand = demand; demanded = is; own_ask = own_ask }

      holds_info : HoldsInfo types a answers (held v) i.found
      unfolding held
      holds_info =
          let request = made ask i.header_text i.address in
          let asked : AsksInfo types a answers (held v) ask request.0 = record { demands = demands; request_made = request.1 } in
          let answered : InfoAnswered types a answers (held v) ask i.response =
          record { request = request.0; asked = asked; response_came = i.response_came; not_too_long = i.info_answer.not_too_long } in
          record {
            ask = ask;
            response = i.response;
            answered = answered;
            info_held = info_held ask (drop 1 answers) (subject_of v.token) i.found i.response (record { token_fits = i.header_text; address_fits = i.address }) i.response_came
                i.info_answer i.unsigned_allowed refl;
          }

      with_info : (signed : SeenSignedIn AC GC) × IsSignedIn types a answers signed
      unfolding held
      with_info =
          let x = fits v in (
            record { id_token = v.token; access_token = v.tokens.access_token; refresh_token = v.tokens.refresh_token; user_info = Some i.found },
            record {
              held = held v;
              holds = x.accepted.holds;
              accepted = x.accepted.accepts;
              fits_hash = x.fits_hash;
              own_id_token = refl;
              own_access_token = refl;
              own_refresh_token = refl;
              info = holds_info;
            },
          )

    with_demand : (v : IsValidLogin types a answers)
        → (demand : UserInfoDemand) × (v.login.user_info ≡ Some demand) × IsValidInfo types a answers demand v.tokens.access_token (subject_of v.token)
        → (signed : SeenSignedIn AC GC) × IsSignedIn types a answers signed
    with_demand v (demand, is, i) = with_info v demand is i

    pub signed_of_valid : IsValidLogin types a answers → (signed : SeenSignedIn AC GC) × IsSignedIn types a answers signed
    signed_of_valid v = ⊎_elim (without_info v) (with_demand v) v.info
