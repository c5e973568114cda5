-- The rows of single functions, one after another, are those of the table.
use Rattle.std.proofs.Common.{◌≡◌, ℕ, ℤ, List, false, Some, Result, Ok, Err, refl, sym, ap, subst, ◌∙◌}
use Rattle.oidc_pairs.specs.Pairs.{pairs}
use Rattle.oidc_oauth2.specs.Messages.{SeenResponse}
use Rattle.oidc_oauth2.specs.Replies.{◌>>=◌, ◌>>◌, ◌when◌, ◌for◌, ◌or◌, ◌or_as◌, Gives}
use Rattle.oidc_oauth2.specs.TokenAnswers.{is_over_long}
use Rattle.oidc_oauth2.proofs.Runs.{unless_map}
use Rattle.oidc_user_info.specs.UserInfoClaims.{SeenUserInfoClaims}
use Rattle.oidc_user_info.specs.InfoAnswers.{Demand, info_answer}
use Rattle.oidc_login.specs.Types.{SiteTypes, SeenLoginClient}
use Rattle.oidc_login.specs.Logins.{SeenLogin, Pending}
use Rattle.oidc_login.specs.Token.{Tokens, SeenIdToken, tokens_or_refusal, failure_for, hash_refusal, has_another_hash}
use Rattle.oidc_login.specs.SignedIn.{SeenSignedIn, signed_by, with_user_info}
use Rattle.oidc_login.specs.Errors.{wants_memory, login_errors}
use Rattle.oidc_login.specs.Callback.{SeenTaken, taken_login, user_of_answer, user_with_info}
use Rattle.oidc_login.specs.Steps.{taken_login_by, tokens_of, accepted_token, user_of_tokens, info_of}
use Rattle.oidc_login.specs.declared.errors.TooLong.TheVariants as place
use Rattle.oidc_login.specs.declared.errors.LoginError.{LoginError}
use Rattle.oidc_login.specs.declared.errors.LoginError.TheVariants as refusal

module _ {F : Type 0} where
  pub then_value : {A B : Type 0} (m : Result (Unit {0}) F) (n : Result A F) (f : A → Result B F) → (m >> (n >>= f)) ≡ ((m >> n) >>= f)
  then_value (Ok u) n f = refl
  then_value (Err e) n f = refl

  pub then_row : {B : Type 0} (m n : Result (Unit {0}) F) (next : Result B F) → (m >> (n >> next)) ≡ ((m >> n) >> next)
  then_row (Ok u) n next = refl
  then_row (Err e) n next = refl

-- ---- before the token request

pub taken_by : {Key E : Type 0} (client : SeenLoginClient Key) (pending : Pending) (query : List ℕ) (result : Result SeenTaken (LoginError E)) → is_over_long query ≡ false
    → Gives login_errors result (taken_login_by client pending (pairs query)) → Gives login_errors result (taken_login client pending query)
unfolding taken_login taken_login_by
taken_by client pending query result short gives =
    subst (Gives login_errors result) (sym (ap (λ long. (refusal.TooLong place.Callback when long) >> taken_login_by client pending (pairs query)) short)) gives

-- ---- by the answer to it

module _ {AC GC Key Use : Type 0} (types : SiteTypes AC GC Key Use) (client : SeenLoginClient Key) (now : ℤ) (l : SeenLogin) where
  by_id_token : (tokens : Tokens AC GC) (token : SeenIdToken AC GC)
      → ((refusal.Claims for failure_for types client l.nonce now token) >> ((refusal.Signing for hash_refusal types client token tokens.access_token)
      >> ((refusal.TokenHash when has_another_hash types client token tokens.access_token) >> Ok (signed_by token tokens))))
      ≡ (accepted_token types client now l token tokens.access_token >> Ok (signed_by token tokens))
  unfolding accepted_token
  by_id_token tokens token =
      let check = refusal.Claims for failure_for types client l.nonce now token in
      let none = refusal.Signing for hash_refusal types client token tokens.access_token in
      let another = refusal.TokenHash when has_another_hash types client token tokens.access_token in
      ap (λ m. check >> m) (then_row none another (Ok (signed_by token tokens))) ∙ then_row check (none >> another) (Ok (signed_by token tokens))

  by_response : (r : SeenResponse) → user_of_answer types client now l (Some r) ≡ (tokens_of types client.reading r >>= λ tokens. user_of_tokens types client now l tokens)
  unfolding user_of_answer tokens_of user_of_tokens
  by_response r =
      then_value (refusal.TooLong place.TokenAnswer when is_over_long r.body) (tokens_or_refusal types client.reading r or_as refusal.Token) _
      ∙ (λ i. tokens_of types client.reading r >>= λ tokens. (tokens.extra_fields.id_token or refusal.NoIdToken) >>= λ token. by_id_token tokens token i)

  module _ {E : Type 0} (r : SeenResponse) where
    pub by_tokens : (tokens : Tokens AC GC) (result : Result (SeenSignedIn AC GC) (LoginError E)) → tokens_of types client.reading r ≡ Ok tokens
        → Gives login_errors result (user_of_tokens types client now l tokens) → Gives login_errors result (user_of_answer types client now l (Some r))
    by_tokens tokens result is gives =
        subst (Gives login_errors result) (sym (by_response r ∙ ap (λ m. m >>= λ tokens. user_of_tokens types client now l tokens) is)) gives

    pub without_tokens : (e : LoginError E) → Gives login_errors {A = Tokens AC GC} (Err e) (tokens_of types client.reading r)
        → Gives login_errors {A = SeenSignedIn AC GC} (Err e) (user_of_answer types client now l (Some r))
    without_tokens e gives =
        unless_map (wants_memory e) (λ is. by_response r ∙ ap (λ m. m >>= λ tokens. user_of_tokens types client now l tokens) is) gives

-- ---- by the answer to the user info request

module _ {AC GC Key Use : Type 0} (types : SiteTypes AC GC Key Use) (demand : Demand Key) (user : SeenSignedIn AC GC) (r : SeenResponse) where
  by_info : user_with_info types demand user (Some r) ≡ (info_of types demand r >>= λ found. Ok (with_user_info user found))
  unfolding user_with_info info_of
  by_info = then_value (refusal.TooLong place.UserInfoAnswer when is_over_long r.body) (info_answer types demand r or_as refusal.UserInfo) _

  pub with_info : (found : SeenUserInfoClaims AC GC) → info_of types demand r ≡ Ok found → user_with_info types demand user (Some r) ≡ Ok (with_user_info user found)
  with_info found is = by_info ∙ ap (λ m. m >>= λ found. Ok (with_user_info user found)) is

  pub without_info : {E : Type 0} (e : LoginError E) → Gives login_errors {A = SeenUserInfoClaims AC GC} (Err e) (info_of types demand r)
      → Gives login_errors {A = SeenSignedIn AC GC} (Err e) (user_with_info types demand user (Some r))
  without_info e gives = unless_map (wants_memory e) (λ is. by_info ∙ ap (λ m. m >>= λ found. Ok (with_user_info user found)) is) gives
