-- What a response is worth is never a fault of the transport, a request that isn't made, want of memory, or
-- too long; and what the steps answer by it.
use Rattle.std.proofs.Common.{◌≡◌, ℕ, List, Bool, true, false, Result, Ok, Err, refl, ap, subst}
use Rattle.oidc_members.specs.declared.reading.Reading.{Reading}
use Rattle.oidc_oauth2.specs.Messages.{SeenResponse}
use Rattle.oidc_oauth2.specs.ErrorResponse.{SeenError, error_response_of}
use Rattle.oidc_oauth2.specs.Words.{error_of}
use Rattle.oidc_oauth2.specs.Replies.{◌>>◌, ◌when◌, ◌or_as◌, Gives}
use Rattle.oidc_oauth2.specs.TokenAnswers.{is_over_long, token_answer, token_errors}
use Rattle.oidc_oauth2.specs.declared.error_types.CoreErrorResponseType.{CoreErrorResponseType}
use Rattle.oidc_oauth2.specs.declared.token_answers.RequestTokenError.{RequestTokenError}
use Rattle.oidc_oauth2.specs.declared.token_answers.RequestTokenError.TheVariants as token
use Rattle.oidc_oauth2.specs.AnswerCauses.{HoldsTokens, StatusCause}
use Rattle.oidc_oauth2.proofs.Theorems.{IsJudged, status_worth-judged, StatusRests, status-rests, tokens_worth, refusal_worth}
use Rattle.oidc_login.specs.Types.{SiteTypes}
use Rattle.oidc_login.specs.Token.{Tokens, TokenError, error_read, tokens_read, tokens_or_refusal}
use Rattle.oidc_login.specs.Errors.{login_errors, faulted, spent_of}
use Rattle.oidc_login.specs.Steps.{of_token, tokens_of}
use Rattle.oidc_login.specs.Callback.{Meant}
use Rattle.oidc_login.specs.declared.errors.TooLong.TheVariants as place
use Rattle.oidc_login.specs.declared.errors.LoginError.TheVariants as login

abbrev CoreError : Type 0
CoreError = SeenError CoreErrorResponseType

-- ---- what a response is worth, and what its rows answer, by whether its body is too long

module _ {T : Type 0} where
  abbrev sized : Bool → List ℕ → Result T TokenError → Result T TokenError
  sized long body meant = (token.TooLong body when long) >> meant

  abbrev row : Bool → Result T TokenError → Meant T
  row long meant = (login.TooLong place.TokenAnswer when long) >> (meant or_as login.Token)

  ok_row : (long : Bool) (body : List ℕ) (meant : Result T TokenError) (tokens : T) → sized long body meant ≡ Ok tokens → row long meant ≡ Ok tokens
  ok_row true body meant tokens is = cc
  ok_row false body meant tokens is = ap (λ m. m or_as login.Token) is

  own_row : (long : Bool) (body : List ℕ) (meant : Result T TokenError) (e : TokenError) → (token.TooLong body ≡ e → ⊥)
      → sized long body meant ≡ Err e → row long meant ≡ Err (login.Token e)
  own_row true body meant e other is = absurd (other (ap (λ r. elim r as (λ _. TokenError) [ Ok tokens ↦ e | Err x ↦ x ]) is))
  own_row false body meant e other is = ap (λ m. m or_as login.Token) is

  long_row : (long : Bool) (body b : List ℕ) (meant : Result T TokenError) → IsJudged T CoreError meant
      → sized long body meant ≡ Err (token.TooLong b) → row long meant ≡ Err (login.TooLong place.TokenAnswer)
  long_row true body b meant own is = refl
  long_row false body b meant own is = absurd (subst (IsJudged T CoreError) is own)

  never_fault : (long : Bool) (body : List ℕ) (meant : Result T TokenError) → IsJudged T CoreError meant
      → sized long body meant ≡ Err (token.Request tt) → ⊥
  never_fault true body meant own is = cc
  never_fault false body meant own is = subst (IsJudged T CoreError) is own

  module _ {E : Type 0} where
    err_row : (long : Bool) (body : List ℕ) (meant : Result T TokenError) (e : RequestTokenError E CoreError) → IsJudged T CoreError meant
        → Gives token_errors {A = T} (Err e) (sized long body meant) → Gives login_errors {A = T} (Err (of_token e)) (row long meant)
    err_row long body meant (token.ServerResponse error) own is = own_row long body meant _ (λ same. cc) is
    err_row long body meant (token.Request cause) own is = absurd (never_fault long body meant own is)
    err_row long body meant (token.Parse refusal text) own is = own_row long body meant _ (λ same. cc) is
    err_row long body meant (token.Other cause) own is = own_row long body meant _ (λ same. cc) is
    err_row long body meant (token.TooLong b) own is = long_row long body b meant own is
    err_row long body meant token.Memory own is = tt

    no_fault : (long : Bool) (body : List ℕ) (meant : Result T TokenError) (e : RequestTokenError E CoreError) → IsJudged T CoreError meant
        → Gives token_errors {A = T} (Err e) (sized long body meant) → faulted (of_token e) ≡ false
    no_fault long body meant (token.ServerResponse error) own is = refl
    no_fault long body meant (token.Request cause) own is = absurd (never_fault long body meant own is)
    no_fault long body meant (token.Parse refusal text) own is = refl
    no_fault long body meant (token.Other cause) own is = refl
    no_fault long body meant (token.TooLong b) own is = refl
    no_fault long body meant token.Memory own is = refl

module _ {E : Type 0} where
  pub of_token_spent : (e : RequestTokenError E CoreError) → spent_of (of_token e) ≡ true
  of_token_spent (token.ServerResponse error) = refl
  of_token_spent (token.Request cause) = refl
  of_token_spent (token.Parse refusal text) = refl
  of_token_spent (token.Other cause) = refl
  of_token_spent (token.TooLong b) = refl
  of_token_spent token.Memory = refl

-- ---- the step on a response

module _ {AC GC Key Use : Type 0} (types : SiteTypes AC GC Key Use) (reading : Reading) (r : SeenResponse) where
  pub judged : IsJudged (Tokens AC GC) CoreError (tokens_or_refusal types reading r)
  unfolding tokens_or_refusal
  judged = status_worth-judged (Tokens AC GC) CoreError (error_response_of error_of) (tokens_read types reading) r

  -- what a response rests on, by the rows on it, and back
  pub rests : StatusRests error_read (tokens_read types reading) r (tokens_or_refusal types reading r)
  unfolding tokens_or_refusal
  rests = status-rests error_read (tokens_read types reading) r

  pub tokens_back : (tokens : Tokens AC GC) → HoldsTokens error_read (tokens_read types reading) r tokens → tokens_or_refusal types reading r ≡ Ok tokens
  unfolding tokens_or_refusal
  tokens_back tokens held = tokens_worth error_read (tokens_read types reading) r tokens held

  pub refusal_back : (e : TokenError) → StatusCause error_read (tokens_read types reading) r e → tokens_or_refusal types reading r ≡ Err e
  unfolding tokens_or_refusal
  refusal_back e cause = refusal_worth error_read (tokens_read types reading) r e cause

  pub tokens_given : (tokens : Tokens AC GC) → token_answer (error_response_of error_of) (tokens_read types reading) r ≡ Ok tokens → tokens_of types reading r ≡ Ok tokens
  unfolding token_answer tokens_of tokens_or_refusal
  tokens_given tokens is = ok_row (is_over_long r.body) r.body (tokens_or_refusal types reading r) tokens is

  module _ {E : Type 0} where
    abbrev Answered : Result (Tokens AC GC) (RequestTokenError E CoreError) → Type 0
    Answered result = Gives token_errors result (token_answer (error_response_of error_of) (tokens_read types reading) r)

    pub refusal_given : (e : RequestTokenError E CoreError) → Answered (Err e) → Gives login_errors {A = Tokens AC GC} (Err (of_token e)) (tokens_of types reading r)
    unfolding token_answer tokens_of tokens_or_refusal
    refusal_given e is = err_row (is_over_long r.body) r.body (tokens_or_refusal types reading r) e judged is

    pub no_fault_given : (e : RequestTokenError E CoreError) → Answered (Err e) → faulted (of_token e) ≡ false
    unfolding token_answer tokens_or_refusal
    no_fault_given e is = no_fault (is_over_long r.body) r.body (tokens_or_refusal types reading r) e judged is
