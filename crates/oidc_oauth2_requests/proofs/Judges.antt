-- What a judge's replies rest on, and what a request that it judges leaves of a transport.
use Rattle.std.proofs.Common.{◌≡◌, ℕ, Bool, true, false, List, Option, None, Some, refl, ap, subst, sym, ◌∙◌}
use Rattle.std.specs.Prelude.{Result, Ok, Err, if◌then◌else◌, IfOk, IfErr}
use Rattle.http.specs.declared.response.Response.{Response}
use Rattle.oidc_oauth2.specs.Messages.{SeenRequest, SeenResponse, SeenAnswer, seen_response}
use Rattle.oidc_oauth2.specs.Transport.{first_answer}
use Rattle.oidc_oauth2.specs.Requests.{is_address}
use Rattle.oidc_oauth2.specs.Replies.{◌or◌, OrMemory, Gives}
use Rattle.oidc_oauth2.specs.TokenAnswers.{TokenRefusal, seen_refusal, wants_memory, is_fault, token_errors}
use Rattle.oidc_oauth2.specs.Exchanges.{Known, reply_by, one_request, Follows}
use Rattle.oidc_oauth2.specs.declared.token_answers.OtherCause.TheVariants.{Uri, EmptyBody, MediaType}
use Rattle.oidc_oauth2.specs.declared.token_answers.RequestTokenError.{RequestTokenError}
use Rattle.oidc_oauth2.specs.declared.token_answers.RequestTokenError.TheVariants.{ServerResponse, Request, Parse, Other, TooLong, Memory}
use Rattle.oidc_oauth2.proofs.Runs.{unless_map, memory_first, unmade, answered}
use Rattle.oidc_oauth2_requests.specs.FormRequests.{SeenFormRequest, form_request}
use Rattle.oidc_oauth2_requests.specs.RequestCauses.{AnswerCame, IsRefused, IsHeld, Cause}
use Rattle.oidc_oauth2_requests.specs.RequestRuns.{request_run, Ran}
use Rattle.oidc_oauth2_requests.specs.Sending.{Took, Unmade, Sent}

not_fitting : {A : Type 0} (x : A) (fits : Bool) → (if fits then Some x else None) ≡ None → fits ≡ false
not_fitting x true none = absurd cc
not_fitting x false none = refl

unfitting : {A : Type 0} (x : A) (fits : Bool) → fits ≡ false → (if fits then Some x else None) ≡ None
unfitting x true is = absurd cc
unfitting x false is = refl

module _ {A TE : Type 0} (Refuses : SeenResponse → TokenRefusal TE → Type 0) (Holds : SeenResponse → A → Type 0) where
  -- what a reply to a response rests on
  abbrev pub Rests : SeenResponse → Result A (TokenRefusal TE) → Type 0
  Rests r (Ok value) = Holds r value
  Rests r (Err e) = Refuses r e

  -- The replies rest on causes, in both directions, and none is a refusal that comes without a response.
  pub record IsJudge (worth : SeenResponse → Result A (TokenRefusal TE)) : Type 0 where
    pub rests : (r : SeenResponse) → Rests r (worth r)
    pub refused : (r : SeenResponse) (e : TokenRefusal TE) → Refuses r e → worth r ≡ Err e
    pub held : (r : SeenResponse) (value : A) → Holds r value → worth r ≡ Ok value
    pub no_fault : (r : SeenResponse) (u : Unit {0}) → Refuses r (Request u) → ⊥
    pub no_address : (r : SeenResponse) → Refuses r (Other Uri) → ⊥
    pub no_memory : (r : SeenResponse) → Refuses r Memory → ⊥

  module _ (worth : SeenResponse → Result A (TokenRefusal TE)) (judge : IsJudge worth) where
    -- a result that is what a response is worth is no fault of the transport
    pub unblamed : {RE : Type 0} (r : SeenResponse) (result : Result A (RequestTokenError RE TE)) → Gives token_errors result (worth r)
        → IfErr result (λ e. is_fault e ≡ false)
    unblamed r (Ok value) gives = tt
    unblamed r (Err (ServerResponse error)) gives = refl
    unblamed r (Err (Request e)) gives = absurd (judge.no_fault r tt (subst (Rests r) gives (judge.rests r)))
    unblamed r (Err (Parse refusal body)) gives = refl
    unblamed r (Err (Other cause)) gives = refl
    unblamed r (Err (TooLong body)) gives = refl
    unblamed r (Err Memory) gives = refl

    -- ---- what a whole request rests on

    module _ (ask : SeenFormRequest) (answers : List SeenAnswer) where
      abbrev WholeRests : Result A (TokenRefusal TE) → Type 0
      WholeRests (Ok value) = IsHeld ask answers Holds value
      WholeRests (Err e) = Cause ask answers Refuses e

      response_rests : (response : SeenResponse) → AnswerCame ask answers (Some response) → (reply : Result A (TokenRefusal TE)) → Rests response reply → WholeRests reply
      response_rests response came (Ok value) rests = record { response = response; came = came; held = rests }
      response_rests response came (Err (ServerResponse error)) rests = record { response = response; came = came; cause = rests }
      response_rests response came (Err (Request u)) rests = absurd (judge.no_fault response u rests)
      response_rests response came (Err (Parse refusal body)) rests = record { response = response; came = came; cause = rests }
      response_rests response came (Err (Other Uri)) rests = absurd (judge.no_address response rests)
      response_rests response came (Err (Other EmptyBody)) rests = record { response = response; came = came; cause = rests }
      response_rests response came (Err (Other MediaType)) rests = record { response = response; came = came; cause = rests }
      response_rests response came (Err (TooLong body)) rests = record { response = response; came = came; cause = rests }
      response_rests response came (Err Memory) rests = absurd (judge.no_memory response rests)

      abbrev reply_to : SeenAnswer → Result A (TokenRefusal TE)
      reply_to = reply_by (Request tt) worth

      came_rests : (request : SeenRequest) → form_request ask ≡ Some request → (answer : SeenAnswer) → first_answer answers ≡ answer → WholeRests (reply_to answer)
      came_rests request made None is = record { request = request; request_made = made; answer_came = is }
      came_rests request made (Some response) is =
          response_rests response (record { request = request; request_made = made; answer_came = is }) (worth response) (judge.rests response)

      no_address : form_request ask ≡ None → is_address ask.address ≡ false
      unfolding form_request
      no_address none = not_fitting _ (is_address ask.address) none

      abbrev reply_where : Option SeenRequest → Result A (TokenRefusal TE)
      reply_where meant = (one_request reply_to (meant or Other Uri) answers).reply

      made_rests : (meant : Option SeenRequest) → form_request ask ≡ meant → WholeRests (reply_where meant)
      made_rests None is = no_address is
      made_rests (Some request) is = came_rests request is (first_answer answers) refl

      abbrev reply : Result A (TokenRefusal TE)
      reply = (request_run worth ask answers).reply

      whole_rests : WholeRests reply
      whole_rests = made_rests (form_request ask) refl

      -- ---- and back

      not_made : is_address ask.address ≡ false → form_request ask ≡ None
      unfolding form_request
      not_made is = unfitting _ (is_address ask.address) is

      came_reply : (answer : SeenAnswer) → AnswerCame ask answers answer → reply ≡ reply_to answer
      came_reply answer came = ap reply_where came.request_made ∙ ap reply_to came.answer_came

      refused_reply : (e : TokenRefusal TE) → IsRefused ask answers Refuses e → reply ≡ Err e
      refused_reply e c = came_reply (Some c.response) c.came ∙ judge.refused c.response e c.cause

      replies : (e : TokenRefusal TE) → Cause ask answers Refuses e → reply ≡ Err e
      replies (ServerResponse error) c = refused_reply _ c
      replies (Request u) c = came_reply None c
      replies (Parse refusal body) c = refused_reply _ c
      replies (Other Uri) c = ap reply_where (not_made c)
      replies (Other EmptyBody) c = refused_reply _ c
      replies (Other MediaType) c = refused_reply _ c
      replies (TooLong body) c = refused_reply _ c
      replies Memory c = absurd c

      held_reply : (value : A) → IsHeld ask answers Holds value → reply ≡ Ok value
      held_reply value c = came_reply (Some c.response) c.came ∙ judge.held c.response value c.held

      -- ---- results

      module _ {RE : Type 0} where
        turned : (result : Result A (RequestTokenError RE TE)) → Gives token_errors result reply
            → (meant : Result A (TokenRefusal TE)) → reply ≡ meant → Gives token_errors result meant
        turned result gives meant is = subst (Gives token_errors result) is gives

        caused : (result : Result A (RequestTokenError RE TE)) → Gives token_errors result reply
            → IfErr result (λ e. OrMemory token_errors result (Cause ask answers Refuses (seen_refusal e)))
        caused (Ok value) gives = tt
        caused (Err e) gives = unless_map (wants_memory e) (λ is. subst WholeRests is whole_rests) gives

        held_by : (result : Result A (RequestTokenError RE TE)) → Gives token_errors result reply → IfOk result (IsHeld ask answers Holds)
        held_by (Ok value) gives = subst WholeRests gives whole_rests
        held_by (Err e) gives = tt

    -- the request, or the refusal where none is made
    abbrev made_for : SeenFormRequest → Result SeenRequest (TokenRefusal TE)
    made_for ask = form_request ask or Other Uri

    module _ {RE : Type 0} (ask : SeenFormRequest) (old new : Known) where
      ran : (result : Result A (RequestTokenError RE TE)) → Follows token_errors (request_run worth ask) old new result → Ran worth Refuses Holds ask old new result
      ran result x = record {
        exchanged = x;
        cause = caused ask x.answers result x.reply;
        refused = λ e c. turned ask x.answers result x.reply (Err e) (replies ask x.answers e c);
        held = held_by ask x.answers result x.reply;
        holds = λ value c. turned ask x.answers result x.reply (Ok value) (held_reply ask x.answers value c);
      }

      -- ---- by what was sent

      abbrev Leaves : Result A (RequestTokenError RE TE) → Type 0
      Leaves result = Follows token_errors (request_run worth ask) old new result

      took : (answer : SeenAnswer) (result : Result A (RequestTokenError RE TE)) → Took (form_request ask) old new answer
          → Gives token_errors result (reply_by (Request tt) worth answer) → Leaves result
      took answer result sent gives =
          answered token_errors (reply_by (Request tt) worth) (made_for ask) sent.request (ap (λ meant. meant or Other Uri) sent.made) old new answer result sent.exchanged gives

      abbrev LeavesAt : Known → Result A (RequestTokenError RE TE) → Type 0
      LeavesAt after result = Follows token_errors (request_run worth ask) old after result

      abbrev unsent : Result A (RequestTokenError RE TE)
      unsent = Err (Other Uri)

      not_sent : Unmade (form_request ask) old new → Leaves (Err (Other Uri))
      not_sent none =
          subst (λ (after : Known). LeavesAt after unsent) (sym none.same)
          (unmade token_errors (reply_by (Request tt) worth) (made_for ask) (Other Uri) (ap (λ meant. meant or Other Uri) none.none) old unsent refl)

      abbrev Sends : Result (Response (List ℕ)) (RequestTokenError RE TE) → Type 0
      Sends = Sent (form_request ask) old new

      leaves : (e : RequestTokenError RE TE) → Sends (Err e) → Leaves (Err e)
      leaves (ServerResponse error) sent = absurd sent
      leaves (Request e) sent = took None (Err (Request e)) sent refl
      leaves (Parse refusal body) sent = absurd sent
      leaves (Other Uri) sent = not_sent sent
      leaves (Other EmptyBody) sent = absurd sent
      leaves (Other MediaType) sent = absurd sent
      leaves (TooLong body) sent = absurd sent
      leaves Memory sent = memory_first token_errors (request_run worth ask) old new Memory refl sent

      -- without a response
      pub ran_refused : (e : RequestTokenError RE TE) (result : Result A (RequestTokenError RE TE)) → result ≡ Err e → Sends (Err e) → Ran worth Refuses Holds ask old new result
      ran_refused e result is sent = subst (Ran worth Refuses Holds ask old new) (sym is) (ran (Err e) (leaves e sent))

      -- with one
      pub ran_answered : (response : Response (List ℕ)) (result : Result A (RequestTokenError RE TE)) → Sends (Ok response)
          → Gives token_errors result (worth (seen_response response)) → Ran worth Refuses Holds ask old new result
      ran_answered response result sent gives = ran result (took (Some (seen_response response)) result sent gives)
