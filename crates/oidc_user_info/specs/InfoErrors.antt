-- Refusals of user info: what is seen of them, whatever the transport's error was.
use Rattle.std.specs.Prelude.{Bool, true, false, Result}
use Rattle.oidc_oauth2.specs.Replies.{ErrorMeaning}
use Rattle.oidc_user_info.specs.declared.errors.UserInfoError.{UserInfoError}
use Rattle.oidc_user_info.specs.declared.errors.UserInfoError.TheVariants.{ClaimsVerification, Parse, Request, Response, Other, TooLong, Memory}

-- why there are no claims, whatever the transport's error was
abbrev pub InfoRefusal : Type 0
InfoRefusal = UserInfoError (Unit {0})

-- a value, or why there is none
abbrev pub Meant : Type 0 → Type 0
Meant A = Result A InfoRefusal

module _ {RE : Type 0} where
  abbrev pub seen_refusal : UserInfoError RE → InfoRefusal
  seen_refusal (ClaimsVerification kind) = ClaimsVerification kind
  seen_refusal (Parse refusal) = Parse refusal
  seen_refusal (Request e) = Request tt
  seen_refusal (Response status body cause) = Response status body cause
  seen_refusal (Other cause) = Other cause
  seen_refusal (TooLong body) = TooLong body
  seen_refusal Memory = Memory

  abbrev pub info_wants_memory : UserInfoError RE → Bool
  info_wants_memory Memory = true
  info_wants_memory e = false

  -- the transport failed
  abbrev pub is_fault : UserInfoError RE → Bool
  is_fault (Request e) = true
  is_fault e = false

  abbrev pub info_errors : ErrorMeaning (UserInfoError RE) InfoRefusal
  info_errors = record { seen = seen_refusal; wants_memory = info_wants_memory; is_fault = is_fault }
