-- Refusals of a callback without what the transport's error carries, and what they mean: want of memory, and a fault of
-- the transport.
use Rattle.std.specs.Prelude.{Bool, true, false, Result, Ok, Err}
use Rattle.oidc_keys.specs.declared.refusals.SignatureVerificationError.TheVariants as signature
use Rattle.oidc_types.specs.declared.signing_error.SigningError.TheVariants as signing
use Rattle.oidc_oauth2.specs.Replies.{ErrorMeaning, seen_result}
use Rattle.oidc_oauth2.specs.TokenAnswers.{seen_refusal}
use Rattle.oidc_oauth2.specs.declared.token_answers.RequestTokenError.{RequestTokenError}
use Rattle.oidc_oauth2.specs.declared.token_answers.RequestTokenError.TheVariants as token
use Rattle.oidc_tokens.specs.declared.verification.refusals.ClaimsVerificationError.{ClaimsVerificationError}
use Rattle.oidc_tokens.specs.declared.verification.refusals.ClaimsVerificationError.TheVariants as check
use Rattle.oidc_user_info.specs.InfoErrors.{seen_refusal as seen_info}
use Rattle.oidc_user_info.specs.declared.errors.UserInfoError.{UserInfoError}
use Rattle.oidc_user_info.specs.declared.errors.UserInfoError.TheVariants as info
use Rattle.oidc_login.specs.declared.errors.TooLong.TheVariants as place
use Rattle.oidc_login.specs.declared.errors.LoginError.{LoginError}
use Rattle.oidc_login.specs.declared.errors.LoginError.TheVariants as login

-- a refusal, whatever the transport's error was
abbrev pub Error : Type 0
Error = LoginError (Unit {0})

abbrev pub seen : {E : Type 0} → LoginError E → Error
seen (login.TooLong at) = login.TooLong at
seen login.State = login.State
seen (login.Provider code) = login.Provider code
seen login.Callback = login.Callback
seen (login.Token e) = login.Token (seen_refusal e)
seen login.NoIdToken = login.NoIdToken
seen (login.Claims kind) = login.Claims kind
seen (login.Signing e) = login.Signing e
seen login.TokenHash = login.TokenHash
seen (login.UserInfo e) = login.UserInfo (seen_info e)
seen (login.Memory spent) = login.Memory spent

-- ---- tests of a refusal

-- want of memory, whether the login was removed or not
abbrev pub wants_memory : {E : Type 0} → LoginError E → Bool
wants_memory (login.Memory spent) = true
wants_memory e = false

-- the login that the query names was removed
abbrev pub spent_of : {E : Type 0} → LoginError E → Bool
spent_of (login.TooLong place.Callback) = false
spent_of login.State = false
spent_of (login.Memory spent) = spent
spent_of e = true

-- the transport failed
abbrev pub token_faulted : {E TE : Type 0} → RequestTokenError E TE → Bool
token_faulted (token.Request cause) = true
token_faulted e = false

abbrev pub info_faulted : {E : Type 0} → UserInfoError E → Bool
info_faulted (info.Request cause) = true
info_faulted e = false

abbrev pub faulted : {E : Type 0} → LoginError E → Bool
faulted (login.Token e) = token_faulted e
faulted (login.UserInfo e) = info_faulted e
faulted e = false

-- a check failed for want of memory
abbrev pub is_wanting : ClaimsVerificationError → Bool
is_wanting (check.SignatureVerification signature.Memory) = true
is_wanting check.Memory = true
is_wanting kind = false

-- want of memory, or too long a body, stands inside another refusal
abbrev pub hides_memory : {E : Type 0} → LoginError E → Bool
hides_memory (login.Token token.Memory) = true
hides_memory (login.Token (token.TooLong body)) = true
hides_memory (login.Claims kind) = is_wanting kind
hides_memory (login.Signing signing.Memory) = true
hides_memory (login.UserInfo info.Memory) = true
hides_memory (login.UserInfo (info.TooLong body)) = true
hides_memory (login.UserInfo (info.ClaimsVerification kind)) = is_wanting kind
hides_memory e = false

-- ---- results

-- what a refusal means
abbrev pub login_errors : {E : Type 0} → ErrorMeaning (LoginError E) Error
login_errors = record { seen = seen; wants_memory = wants_memory; is_fault = faulted }

-- a result, whatever the transport's error was
abbrev pub seen_reply : {A E : Type 0} → Result A (LoginError E) → Result A Error
seen_reply result = seen_result login_errors result

abbrev pub is_spent_by : {A E : Type 0} → Result A (LoginError E) → Bool
is_spent_by (Ok x) = true
is_spent_by (Err e) = spent_of e
