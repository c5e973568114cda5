-- The rows of an answer that is a token, by whether its body is a text.
use Rattle.std.proofs.Common.{◌≡◌, ℕ, List, Bool, true, false, Result, refl, sym, ap, subst, ◌∙◌}
use Rattle.std.specs.Prelude.{Err}
use Rattle.std.specs.Str.{is_utf8, IsUtf8}
use Rattle.std.proofs.lemmas.Str.{IsUtf8-from_is_utf8, is_utf8-from_IsUtf8}
use Rattle.oidc_members.specs.declared.reading.Reading.{Reading}
use Rattle.oidc_tokens.specs.UserInfoVerification.{SeenUserInfoVerifier}
use Rattle.oidc_user_info.specs.UserInfoClaims.{SeenUserInfoClaims}
use Rattle.oidc_oauth2.specs.Replies.{Gives}
use Rattle.oidc_user_info.specs.InfoErrors.{info_errors}
use Rattle.oidc_user_info.specs.InfoAnswers.{Readers, of_text, of_token}
use Rattle.oidc_user_info.specs.declared.errors.InfoOther.TheVariants.{Utf8}
use Rattle.oidc_user_info.specs.declared.errors.UserInfoError.{UserInfoError}
use Rattle.oidc_user_info.specs.declared.errors.UserInfoError.TheVariants.{Other}

no_text : (body : List ℕ) (b : Bool) → is_utf8 body ≡ b → (IsUtf8 body → ⊥) → b ≡ false
no_text body true is h = absurd (h (IsUtf8-from_is_utf8 body is))
no_text body false is h = refl

module _ {AC GC JE Key Use Algorithm Type' : Type 0} (r : Readers AC GC JE Key Use Algorithm Type') (reading : Reading) (v : SeenUserInfoVerifier Key) (body : List ℕ) where
  pub no_text_row : (IsUtf8 body → ⊥) → of_token r reading v body ≡ Err (Other Utf8)
  unfolding of_token
  no_text_row h = rw (no_text body (is_utf8 body) refl h) refl

  text_row : IsUtf8 body → of_token r reading v body ≡ of_text r reading v body
  unfolding of_token
  text_row h = rw (is_utf8-from_IsUtf8 body h) refl

  -- what a text is worth is what the body is, whose text it is
  pub text_gives : {RE : Type 0} (text slice : List ℕ) → text ≡ slice → slice ≡ body → IsUtf8 slice → (result : Result (SeenUserInfoClaims AC GC) (UserInfoError RE)) → Gives info_errors result (of_text r reading v text) → Gives info_errors result (of_token r reading v body)
  text_gives text slice is same utf8 result gives =
      subst (λ meant. Gives info_errors result meant) (ap (of_text r reading v) (is ∙ same) ∙ sym (text_row (subst IsUtf8 same utf8))) gives
