-- What crates above may cite: the refusals that a response is never worth, what each reply to a request for tokens
-- rests on, by which steps a response is judged, and what a script gave.
use Rattle.std.proofs.Common.{◌==◌, ℕ, zero, suc, List, [], ◌∷◌, ◌++◌, Option, None, Some, drop, length, Bool, true, false, cond, Result, Ok, Err, refl, sym, ap, subst, ◌∙◌, arith, append-nil, length-append}
use Rattle.std.specs.Prelude.{◌≡◌, not, IfErr}
use Rattle.oidc_members.specs.Seen.{SeenMember}
use Rattle.oidc_members.specs.declared.refusal.Refusal.{Refusal}
use Rattle.oidc_oauth2.specs.Messages.{SeenRequest, SeenResponse, SeenAnswer}
use Rattle.oidc_oauth2.specs.Transport.{Script, Leaves, Plays, played, in_order}
use Rattle.oidc_oauth2.specs.Replies.{◌>>=◌, ◌>>◌, ◌when◌, ◌or_as◌, Gives}
use Rattle.oidc_oauth2.specs.TokenAnswers.{TokenRefusal, record_in, error_in, tokens_in, status_worth, token_answer, is_over_long, is_empty, may_be_json, is_fault, token_errors}
use Rattle.oidc_oauth2.specs.declared.token_answers.OtherCause.TheVariants.{Uri, EmptyBody, MediaType}
use Rattle.oidc_oauth2.specs.declared.token_answers.RequestTokenError.{RequestTokenError}
use Rattle.oidc_oauth2.specs.declared.token_answers.RequestTokenError.TheVariants.{ServerResponse, Request, Parse, Other, TooLong, Memory}
pub use Rattle.oidc_oauth2.proofs.AnswerRows.{StatusRests, status-rests, tokens_worth, refusal_worth, AnswerRests, answer-rests, tokens_answer, refused_answer}
pub use Rattle.oidc_oauth2.proofs.AnswerSteps.{answer_by_success, record_refused, record_read}

module _ (A TE : Type 0) where
  -- no refusal that comes without a response, and no over-long body
  abbrev pub IsJudged : Result A (TokenRefusal TE) → Type 0
  IsJudged (Err (Request e)) = ⊥
  IsJudged (Err (Other Uri)) = ⊥
  IsJudged (Err (TooLong body)) = ⊥
  IsJudged (Err Memory) = ⊥
  IsJudged result = Unit {0}

  after_when : (e : TokenRefusal TE) (b : Bool) (next : Result A (TokenRefusal TE)) → IsJudged (Err e) → IsJudged next → IsJudged ((e when b) >> next)
  after_when e true next own later = own
  after_when e false next own later = later

  parsed : (read : Result A Refusal) (body : List ℕ) → IsJudged (read or_as (λ refusal. Parse refusal body))
  parsed (Ok value) body = tt
  parsed (Err refusal) body = tt

  either : (b : Bool) (x y : Result A (TokenRefusal TE)) → IsJudged x → IsJudged y → IsJudged (cond b x y)
  either true x y own other = own
  either false x y own other = other

  refused : (read : Result TE Refusal) (body : List ℕ)
      → IsJudged ((read or_as (λ refusal. Parse refusal body)) >>= (λ error. Err (ServerResponse error)))
  refused (Ok error) body = tt
  refused (Err refusal) body = tt

  module _ (error_of : List SeenMember → Result TE Refusal) (token_of : List SeenMember → Result A Refusal) (r : SeenResponse) where
    error_judged : IsJudged (error_in error_of token_of r)
    unfolding error_in
    error_judged = after_when (Other EmptyBody) (is_empty r.body) _ tt (refused (record_in error_of r.body) r.body)

    tokens_judged : IsJudged (tokens_in error_of token_of r)
    unfolding tokens_in
    tokens_judged =
        after_when (Other MediaType) (not (may_be_json r)) _ tt
        (after_when (Other EmptyBody) (is_empty r.body) _ tt (parsed (record_in token_of r.body) r.body))

    -- by its status, a response is worth tokens or one of the refusals by status, media type and body
    pub status_worth-judged : IsJudged (status_worth error_of token_of r)
    unfolding status_worth
    status_worth-judged = either (r.status == 200) _ _ tokens_judged error_judged

    unblamed : {RE : Type 0} (result : Result A (RequestTokenError RE TE)) (long : Bool)
        → Gives token_errors result ((TooLong r.body when long) >> status_worth error_of token_of r) → IfErr result (λ e. is_fault e ≡ false)
    unblamed (Ok value) long gives = tt
    unblamed (Err (ServerResponse error)) long gives = refl
    unblamed (Err (Request e)) true gives = absurd (cc)
    unblamed (Err (Request e)) false gives = absurd (subst IsJudged gives status_worth-judged)
    unblamed (Err (Parse refusal body)) long gives = refl
    unblamed (Err (Other cause)) long gives = refl
    unblamed (Err (TooLong body)) long gives = refl
    unblamed (Err Memory) long gives = refl

    -- a result that is what a response is worth is no fault of the transport
    pub token_answer-unblamed : {RE : Type 0} (result : Result A (RequestTokenError RE TE)) → Gives token_errors result (token_answer error_of token_of r) → IfErr result (λ e. is_fault e ≡ false)
    unfolding token_answer
    token_answer-unblamed result gives = unblamed result (is_over_long r.body) gives

-- ---- scripts

no_more : {A : Type 0} (xs ys zs : List A) → xs ≡ ys ++ zs → length xs ≡ length ys → xs ≡ ys
no_more xs ys [] is same = is ∙ append-nil ys
no_more xs ys (z ∷ zs) is same = absurd (omega (arith, ap length is, length-append ys (z ∷ zs)))

-- a script that gives an answer to each request gave these to these
pub gave : (script : Script) (requests : List SeenRequest) (answers : List SeenAnswer) (left : Script)
    → Leaves script requests answers left → length (script requests) ≡ length answers → script requests ≡ answers
gave script requests answers left leaves same =
    let all : script requests ≡ answers ++ left [] = ap script (sym (append-nil requests)) ∙ leaves.gives [] in
    no_more (script requests) answers (left []) all same

all_played : (script : List SeenAnswer) (n : ℕ) → length (played script n) ≡ n
all_played script zero = refl
all_played script (suc n) = ap suc (all_played (drop 1 script) n)

-- a list of answers, one for each request, gave its next ones
pub played_next : (script : List SeenAnswer) (requests : List SeenRequest) (answers : List SeenAnswer) (left : Option Script)
    → Plays (Some (in_order script)) requests answers left → length requests ≡ length answers → answers ≡ played script (length answers)
played_next script requests answers None plays same = absurd plays
played_next script requests answers (Some left) plays same =
    sym (gave (in_order script) requests answers left plays (all_played script (length requests) ∙ same))
    ∙ ap (played script) same
