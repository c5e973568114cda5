-- What each reply to a request for tokens rests on, by the table, and back.
use Rattle.std.proofs.Common.{◌≡◌, ◌≢◌, ◌==◌, ℕ, Bool, true, false, List, Option, None, Some, refl, ap, subst, sym, ◌∙◌, inl, inr, ⊎_elim, arith}
use Rattle.std.specs.Prelude.{Result, Ok, Err, not, if◌then◌else◌, IfOk, IfErr}
use Rattle.oidc_members.specs.Seen.{SeenMember}
use Rattle.oidc_members.specs.declared.refusal.Refusal.{Refusal}
use Rattle.oidc_oauth2.specs.Messages.{SeenRequest, SeenResponse, SeenAnswer}
use Rattle.oidc_oauth2.specs.Transport.{first_answer}
use Rattle.oidc_oauth2.specs.Requests.{SeenCodeRequest, is_address, code_request}
use Rattle.oidc_oauth2.specs.Replies.{◌>>=◌, ◌>>◌, ◌when◌, ◌or◌, ◌or_as◌, OrMemory, Gives}
use Rattle.oidc_oauth2.specs.TokenAnswers.{TokenRefusal, is_over_long, is_empty, may_be_json, record_in, error_in, tokens_in, status_worth, token_answer, seen_refusal, wants_memory, token_errors}
use Rattle.oidc_oauth2.specs.Exchanges.{Known, Exchanged, Untouched, one_request, Follows}
use Rattle.oidc_oauth2.specs.AnswerCauses.{HoldsObject, HoldsErrorObject, HoldsTokens, HoldsNoTokens, HoldsNoError, HasEmptyBody, HasOtherType, IsTooLong, StatusCause, FailsWith, AnswerCause, IsTokenAnswer, Because, Came, IsRefused, Cause, TokensCame, code_reply, code_run, RanTokenRequest}
use Rattle.oidc_oauth2.proofs.Runs.{unless_map, memory_first, unmade, answered}
use Rattle.oidc_oauth2.specs.declared.token_answers.OtherCause.TheVariants.{Uri, EmptyBody, MediaType}
use Rattle.oidc_oauth2.specs.declared.token_answers.RequestTokenError.{RequestTokenError}
use Rattle.oidc_oauth2.specs.declared.token_answers.RequestTokenError.TheVariants.{ServerResponse, Request, Parse, Other, TooLong, Memory}

equal : (n m : ℕ) → (n == m) ≡ true → n ≡ m
equal n m h = grind arith

apart : (n m : ℕ) → n ≢ m → (n == m) ≡ false
apart n m h = grind arith

unequal : (n m : ℕ) → (n == m) ≡ false → n ≢ m
unequal n m h = grind arith

not_fitting : {A : Type 0} (x : A) (fits : Bool) → (if fits then Some x else None) ≡ None → fits ≡ false
not_fitting x true none = absurd cc
not_fitting x false none = refl

unfitting : {A : Type 0} (x : A) (fits : Bool) → fits ≡ false → (if fits then Some x else None) ≡ None
unfitting x true is = absurd cc
unfitting x false is = refl

module _ {TE TR : Type 0} (error_of : List SeenMember → Result TE Refusal) (token_of : List SeenMember → Result TR Refusal) where
  module _ (r : SeenResponse) where
    -- what a response of no over-long body rests on
    abbrev pub StatusRests : Result TR (TokenRefusal TE) → Type 0
    StatusRests (Ok tokens) = HoldsTokens error_of token_of r tokens
    StatusRests (Err e) = StatusCause error_of token_of r e

    -- ---- from the table

    -- the lines behind an empty body
    abbrev of_tokens : Result TR Refusal → Result TR (TokenRefusal TE)
    of_tokens read = read or_as (λ refusal. Parse refusal r.body)

    abbrev of_error : Result TE Refusal → Result TR (TokenRefusal TE)
    of_error read = (read or_as (λ refusal. Parse refusal r.body)) >>= (λ error. Err (ServerResponse error))

    error_rests : HoldsErrorObject r → (read : Result TE Refusal) → record_in error_of r.body ≡ read → StatusRests (of_error read)
    error_rests holds (Ok error) is = record { holds = holds; read = is }
    error_rests holds (Err refusal) is = record { own_body = refl; unread = inr (record { holds = holds; unread = is }) }

    other_rests : r.status ≢ 200 → (empty : Bool) → is_empty r.body ≡ empty
        → StatusRests ((Other EmptyBody when empty) >> of_error (record_in error_of r.body))
    other_rests other true is = record { empty = is; json = λ success. absurd (other success) }
    other_rests other false is = error_rests (record { no_success = other; some_body = is }) (record_in error_of r.body) refl

    object_rests : HoldsObject r → (read : Result TR Refusal) → record_in token_of r.body ≡ read → StatusRests (of_tokens read)
    object_rests holds (Ok tokens) is = record { holds = holds; read = is }
    object_rests holds (Err refusal) is = record { own_body = refl; unread = inl (record { holds = holds; unread = is }) }

    json_rests : r.status ≡ 200 → may_be_json r ≡ true → (empty : Bool) → is_empty r.body ≡ empty
        → StatusRests ((Other EmptyBody when empty) >> of_tokens (record_in token_of r.body))
    json_rests success json true is = record { empty = is; json = λ s. json }
    json_rests success json false is = object_rests (record { success = success; json = json; some_body = is }) (record_in token_of r.body) refl

    success_rests : r.status ≡ 200 → (json : Bool) → may_be_json r ≡ json
        → StatusRests ((Other MediaType when not json) >> ((Other EmptyBody when is_empty r.body) >> of_tokens (record_in token_of r.body)))
    success_rests success false is = record { success = success; no_json = is }
    success_rests success true is = json_rests success is (is_empty r.body) refl

    by_status : (success : Bool) → (r.status == 200) ≡ success
        → StatusRests (if success then tokens_in error_of token_of r else error_in error_of token_of r)
    unfolding tokens_in error_in
    by_status true is = success_rests (equal r.status 200 is) (may_be_json r) refl
    by_status false is = other_rests (unequal r.status 200 is) (is_empty r.body) refl

    -- what a response is worth rests on its cause
    pub status-rests : StatusRests (status_worth error_of token_of r)
    unfolding status_worth
    status-rests = by_status (r.status == 200) refl

    -- ---- to the table

    success_worth : r.status ≡ 200 → status_worth error_of token_of r ≡ tokens_in error_of token_of r
    unfolding status_worth
    success_worth success = ap (λ n. if n == 200 then tokens_in error_of token_of r else error_in error_of token_of r) success

    other_worth : r.status ≢ 200 → status_worth error_of token_of r ≡ error_in error_of token_of r
    unfolding status_worth
    other_worth other = ap (λ b. if b then tokens_in error_of token_of r else error_in error_of token_of r) (apart r.status 200 other)

    object_worth : HoldsObject r → status_worth error_of token_of r ≡ of_tokens (record_in token_of r.body)
    unfolding tokens_in
    object_worth holds = success_worth holds.success ∙ rw (holds.json, holds.some_body) refl

    error_object_worth : HoldsErrorObject r → status_worth error_of token_of r ≡ of_error (record_in error_of r.body)
    unfolding error_in
    error_object_worth holds = other_worth holds.no_success ∙ rw holds.some_body refl

    empty_success : r.status ≡ 200 → may_be_json r ≡ true → is_empty r.body ≡ true → status_worth error_of token_of r ≡ Err (Other EmptyBody)
    unfolding tokens_in
    empty_success success json empty = success_worth success ∙ rw (json, empty) refl

    empty_other : r.status ≢ 200 → is_empty r.body ≡ true → status_worth error_of token_of r ≡ Err (Other EmptyBody)
    unfolding error_in
    empty_other other empty = other_worth other ∙ rw empty refl

    empty_by : HasEmptyBody r → (success : Bool) → (r.status == 200) ≡ success → status_worth error_of token_of r ≡ Err (Other EmptyBody)
    empty_by c true is = let s = equal r.status 200 is in empty_success s (c.json s) c.empty
    empty_by c false is = empty_other (unequal r.status 200 is) c.empty

    type_worth : HasOtherType r → status_worth error_of token_of r ≡ Err (Other MediaType)
    unfolding tokens_in
    type_worth c = success_worth c.success ∙ rw c.no_json refl

    unread_tokens : (refusal : Refusal) → HoldsNoTokens error_of token_of r refusal → status_worth error_of token_of r ≡ Err (Parse refusal r.body)
    unread_tokens refusal c = object_worth c.holds ∙ ap of_tokens c.unread

    unread_error : (refusal : Refusal) → HoldsNoError error_of token_of r refusal → status_worth error_of token_of r ≡ Err (Parse refusal r.body)
    unread_error refusal c = error_object_worth c.holds ∙ ap of_error c.unread

    -- tokens that are held are what the response is worth
    pub tokens_worth : (tokens : TR) → HoldsTokens error_of token_of r tokens → status_worth error_of token_of r ≡ Ok tokens
    tokens_worth tokens c = object_worth c.holds ∙ ap of_tokens c.read

    -- a refusal that has its cause is what it is worth
    pub refusal_worth : (e : TokenRefusal TE) → StatusCause error_of token_of r e → status_worth error_of token_of r ≡ Err e
    refusal_worth (ServerResponse error) c = error_object_worth c.holds ∙ ap of_error c.read
    refusal_worth (Request u) c = absurd c
    refusal_worth (Parse refusal body) c =
        ⊎_elim (unread_tokens refusal) (unread_error refusal) c.unread ∙ ap (λ b. Err (Parse refusal b)) c.own_body
    refusal_worth (Other Uri) c = absurd c
    refusal_worth (Other EmptyBody) c = empty_by c (r.status == 200) refl
    refusal_worth (Other MediaType) c = type_worth c
    refusal_worth (TooLong body) c = absurd c
    refusal_worth Memory c = absurd c

    -- ---- the size, which is looked at first

    abbrev pub AnswerRests : Result TR (TokenRefusal TE) → Type 0
    AnswerRests (Ok tokens) = IsTokenAnswer error_of token_of r tokens
    AnswerRests (Err e) = AnswerCause error_of token_of r e

    short_rests : is_over_long r.body ≡ false → (worth : Result TR (TokenRefusal TE)) → StatusRests worth → AnswerRests worth
    short_rests short (Ok tokens) rests = record { not_too_long = short; tokens_held = rests }
    short_rests short (Err (ServerResponse error)) rests = record { not_too_long = short; cause = rests }
    short_rests short (Err (Request u)) rests = absurd rests
    short_rests short (Err (Parse refusal body)) rests = record { not_too_long = short; cause = rests }
    short_rests short (Err (Other cause)) rests = record { not_too_long = short; cause = rests }
    short_rests short (Err (TooLong body)) rests = absurd rests
    short_rests short (Err Memory) rests = absurd rests

    size_rests : (long : Bool) → is_over_long r.body ≡ long → AnswerRests ((TooLong r.body when long) >> status_worth error_of token_of r)
    size_rests true is = record { too_long = is; own_body = refl }
    size_rests false is = short_rests is (status_worth error_of token_of r) status-rests

    pub answer-rests : AnswerRests (token_answer error_of token_of r)
    unfolding token_answer
    answer-rests = size_rests (is_over_long r.body) refl

    short_worth : is_over_long r.body ≡ false → token_answer error_of token_of r ≡ status_worth error_of token_of r
    unfolding token_answer
    short_worth short = ap (λ long. (TooLong r.body when long) >> status_worth error_of token_of r) short

    long_answer : (body : List ℕ) → IsTooLong r body → token_answer error_of token_of r ≡ Err (TooLong body)
    unfolding token_answer
    long_answer body c = ap (λ long. (TooLong r.body when long) >> status_worth error_of token_of r) c.too_long ∙ ap (λ b. Err (TooLong b)) c.own_body

    pub tokens_answer : (tokens : TR) → IsTokenAnswer error_of token_of r tokens → token_answer error_of token_of r ≡ Ok tokens
    tokens_answer tokens c = short_worth c.not_too_long ∙ tokens_worth tokens c.tokens_held

    failed_answer : (e : TokenRefusal TE) → FailsWith error_of token_of r e → token_answer error_of token_of r ≡ Err e
    failed_answer e c = short_worth c.not_too_long ∙ refusal_worth e c.cause

    pub refused_answer : (e : TokenRefusal TE) → AnswerCause error_of token_of r e → token_answer error_of token_of r ≡ Err e
    refused_answer (ServerResponse error) c = failed_answer _ c
    refused_answer (Request u) c = failed_answer _ c
    refused_answer (Parse refusal body) c = failed_answer _ c
    refused_answer (Other cause) c = failed_answer _ c
    refused_answer (TooLong body) c = long_answer body c
    refused_answer Memory c = failed_answer _ c

    -- ---- results

    abbrev ErrBecause : {RE : Type 0} → Result TR (RequestTokenError RE TE) → Type 0
    ErrBecause result = IfErr result (Because error_of token_of r)

    -- a result that is what a response is worth has its cause, and is the refusal that has its cause
    pub because : {RE : Type 0} (result : Result TR (RequestTokenError RE TE)) → Gives token_errors result (token_answer error_of token_of r) → ErrBecause result
    because (Ok tokens) gives = tt
    because (Err e) gives = unless_map (wants_memory e) (λ is. subst AnswerRests is answer-rests) gives

    pub refused-because : {RE : Type 0} (result : Result TR (RequestTokenError RE TE)) → Gives token_errors result (token_answer error_of token_of r)
        → (e : TokenRefusal TE) → AnswerCause error_of token_of r e → Gives token_errors result (Err e)
    refused-because result gives e c = subst (Gives token_errors result) (refused_answer e c) gives

  -- ---- a whole request

  module _ (ask : SeenCodeRequest) (answers : List SeenAnswer) where
    abbrev Rests : Result TR (TokenRefusal TE) → Type 0
    Rests (Ok tokens) = TokensCame error_of token_of ask answers tokens
    Rests (Err e) = Cause error_of token_of ask answers e

    response_rests : (response : SeenResponse) → Came error_of token_of ask answers (Some response)
        → (worth : Result TR (TokenRefusal TE)) → AnswerRests response worth → Rests worth
    response_rests response came (Ok tokens) rests = record { response = response; came = came; tokens_in_response = rests }
    response_rests response came (Err (ServerResponse error)) rests = record { response = response; came = came; cause = rests }
    response_rests response came (Err (Request u)) rests = absurd rests.cause
    response_rests response came (Err (Parse refusal body)) rests = record { response = response; came = came; cause = rests }
    response_rests response came (Err (Other Uri)) rests = absurd rests.cause
    response_rests response came (Err (Other EmptyBody)) rests = record { response = response; came = came; cause = rests }
    response_rests response came (Err (Other MediaType)) rests = record { response = response; came = came; cause = rests }
    response_rests response came (Err (TooLong body)) rests = record { response = response; came = came; cause = rests }
    response_rests response came (Err Memory) rests = absurd rests.cause

    came_rests : (request : SeenRequest) → code_request ask ≡ Some request → (answer : SeenAnswer) → first_answer answers ≡ answer
        → Rests (code_reply error_of token_of answer)
    came_rests request made None is = record { request = request; request_made = made; answer_came = is }
    came_rests request made (Some response) is =
        response_rests response (record { request = request; request_made = made; answer_came = is }) _ (answer-rests response)

    no_address : code_request ask ≡ None → is_address ask.address ≡ false
    unfolding code_request
    no_address none = not_fitting _ (is_address ask.address) none

    abbrev reply_where : Option SeenRequest → Result TR (TokenRefusal TE)
    reply_where meant = (one_request (code_reply error_of token_of) (meant or Other Uri) answers).reply

    made_rests : (meant : Option SeenRequest) → code_request ask ≡ meant → Rests (reply_where meant)
    made_rests None is = no_address is
    made_rests (Some request) is = came_rests request is (first_answer answers) refl

    abbrev reply : Result TR (TokenRefusal TE)
    reply = (code_run error_of token_of ask answers).reply

    rests : Rests reply
    rests = made_rests (code_request ask) refl

    abbrev Replies : Result TR (TokenRefusal TE) → Type 0
    Replies meant = reply ≡ meant

    not_made : is_address ask.address ≡ false → code_request ask ≡ None
    unfolding code_request
    not_made is = unfitting _ (is_address ask.address) is

    unmade_reply : is_address ask.address ≡ false → Replies (Err (Other Uri))
    unmade_reply is = ap reply_where (not_made is)

    came_reply : (answer : SeenAnswer) → Came error_of token_of ask answers answer → Replies (code_reply error_of token_of answer)
    came_reply answer came = ap reply_where came.request_made ∙ ap (code_reply error_of token_of) came.answer_came

    refused_reply : (e : TokenRefusal TE) → IsRefused error_of token_of ask answers e → Replies (Err e)
    refused_reply e c = came_reply (Some c.response) c.came ∙ refused_answer c.response e c.cause

    replies : (e : TokenRefusal TE) → Cause error_of token_of ask answers e → Replies (Err e)
    replies (ServerResponse error) c = refused_reply _ c
    replies (Request u) c = came_reply None c
    replies (Parse refusal body) c = refused_reply _ c
    replies (Other Uri) c = unmade_reply c
    replies (Other EmptyBody) c = refused_reply _ c
    replies (Other MediaType) c = refused_reply _ c
    replies (TooLong body) c = refused_reply _ c
    replies Memory c = absurd c

    tokens_reply : (tokens : TR) → TokensCame error_of token_of ask answers tokens → Replies (Ok tokens)
    tokens_reply tokens c = came_reply (Some c.response) c.came ∙ tokens_answer c.response tokens c.tokens_in_response

    turned : {RE : Type 0} (result : Result TR (RequestTokenError RE TE)) → Gives token_errors result reply
        → (meant : Result TR (TokenRefusal TE)) → Replies meant → Gives token_errors result meant
    turned result gives meant is = subst (Gives token_errors result) is gives

    abbrev CausedUnless : {RE : Type 0} → Result TR (RequestTokenError RE TE) → Type 0
    CausedUnless result = IfErr result (λ e. OrMemory token_errors result (Cause error_of token_of ask answers (seen_refusal e)))

    caused : {RE : Type 0} (result : Result TR (RequestTokenError RE TE)) → Gives token_errors result reply → CausedUnless result
    caused (Ok tokens) gives = tt
    caused (Err e) gives = unless_map (wants_memory e) (λ is. subst Rests is rests) gives

    held_by : {RE : Type 0} (result : Result TR (RequestTokenError RE TE)) → Gives token_errors result reply
        → IfOk result (TokensCame error_of token_of ask answers)
    held_by (Ok tokens) gives = subst Rests gives rests
    held_by (Err e) gives = tt

  -- what a request leaves of a transport tells what its result rests on
  pub ran : {RE : Type 0} (ask : SeenCodeRequest) (old new : Known) (result : Result TR (RequestTokenError RE TE))
      → Follows token_errors (code_run error_of token_of ask) old new result → RanTokenRequest error_of token_of ask old new result
  ran ask old new result x = record {
    exchanged = x;
    cause = caused ask x.answers result x.reply;
    refused = λ e c. turned ask x.answers result x.reply (Err e) (replies ask x.answers e c);
    held = held_by ask x.answers result x.reply;
    holds = λ tokens c. turned ask x.answers result x.reply (Ok tokens) (tokens_reply ask x.answers tokens c);
  }

  -- what a request leaves, by what was handed over
  module _ {RE : Type 0} (ask : SeenCodeRequest) where
    abbrev Leaves : Known → Known → Result TR (RequestTokenError RE TE) → Type 0
    Leaves old new result = Follows token_errors (code_run error_of token_of ask) old new result

    pub code_unmade : code_request ask ≡ None → (known : Known) → Leaves known known (Err (Other Uri))
    code_unmade none known =
        unmade token_errors (code_reply error_of token_of) (code_request ask or Other Uri) (Other Uri) (ap (λ meant. meant or Other Uri) none) known (Err (Other Uri)) refl

    pub code_forgone : (old new : Known) (result : Result TR (RequestTokenError RE TE)) → result ≡ Err Memory → Untouched old new → Leaves old new result
    code_forgone old new result is kept =
        subst (λ result. Leaves old new result) (sym is) (memory_first token_errors (code_run error_of token_of ask) old new Memory refl kept)

    pub code_answered : (request : SeenRequest) → code_request ask ≡ Some request → (old new : Known) (answer : SeenAnswer) (result : Result TR (RequestTokenError RE TE))
        → Exchanged old new request answer → Gives token_errors result (code_reply error_of token_of answer) → Leaves old new result
    code_answered request made old new answer result sent gives =
        answered token_errors (code_reply error_of token_of) (code_request ask or Other Uri) request (ap (λ meant. meant or Other Uri) made) old new answer result sent gives
