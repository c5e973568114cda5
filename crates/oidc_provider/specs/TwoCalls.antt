-- The two calls of a login behind its begin, `authorize` and `callback` over the provider: what of both is the reply, and what
-- is left.
use Rattle.std.specs.Prelude.{◌≡◌, ℕ, ℤ, List, false, Some, Result, Ok, Err}
use Rattle.serde_json.specs.Data.{Data}
use Rattle.url.specs.Parts.{Parts}
use Rattle.oidc_members.specs.Seen.{SeenMember, OutSeen}
use Rattle.oidc_members.specs.declared.refusal.Refusal.{Refusal}
use Rattle.oidc_keys.specs.CoreJwk.{SymmetricKey}
use Rattle.oidc_oauth2.specs.Exchanges.{Known, known}
use Rattle.oidc_login.specs.Logins.{Pending, SeenLogins}
use Rattle.oidc_login.specs.SignedIn.{SeenSignedIn}
use Rattle.oidc_login.specs.Runs.{Ran, Leaves, attempt}
use Rattle.oidc_login.specs.Errors.{is_spent_by}
use Rattle.oidc_login.specs.Causes.{AsksNothing}
use Rattle.oidc_login.specs.declared.errors.LoginError.{LoginError}
use Rattle.std.specs.declared.convert.Infallible.{Infallible}
use Rattle.oidc_provider.specs.Provider.{SeenProvider}
use Rattle.oidc_provider.specs.Issuing.{core_types}
use Rattle.oidc_provider.specs.Keeping.{Keeps}
use Rattle.oidc_provider.specs.Answers.{served, log_of}
use Rattle.oidc_provider.specs.SignIn.{ToIssue, asked_with}
use Rattle.oidc_provider.specs.declared.errors.AuthorizeError.{AuthorizeError}
use Rattle.oidc_provider.specs.declared.errors.AuthorizeError.TheVariants as refusal
use Rattle.oidc_provider.specs.declared.errors.SignInError.{SignInError}
use Rattle.oidc_provider.specs.declared.errors.SignInError.TheVariants.{Authorize, Login}

-- the reply of a callback, as that of a whole login
abbrev pub by_callback : {A : Type 0} → Result A (LoginError Infallible) → Result A SignInError
by_callback (Ok signed) = Ok signed
by_callback (Err e) = Err (Login e)

-- what holds of the reply of the callback, where one was made
abbrev pub OfCallback : {A : Type 0} → (Result A (LoginError Infallible) → Type 0) → Result A SignInError → Type 0
OfCallback Holds (Ok signed) = Holds (Ok signed)
OfCallback Holds (Err (Login e)) = Holds (Err e)
OfCallback Holds (Err (Authorize e)) = Unit {0}

-- the provider refuses with this, or there was no memory
abbrev pub RefusesWith : {A : Type 0} → AuthorizeError → Result A SignInError → Type 0
RefusesWith e (Err (Authorize refusal.Memory)) = Unit {0}
RefusesWith e result = result ≡ Err (Authorize e)

-- the provider refuses nothing, but for want of memory
abbrev pub Grants : {A : Type 0} → Result A SignInError → Type 0
Grants (Err (Authorize refusal.Memory)) = Unit {0}
Grants (Err (Authorize e)) = ⊥
Grants result = Unit {0}

-- what is known of a provider as a transport
abbrev pub known_of : SeenProvider → Known
known_of p = known (log_of p) (Some (served p))

-- The provider kept a grant and gave a query, by which the store answered over the provider. Where nothing was asked the
-- provider is as it was behind the grant.
pub record IsComposed {AC GC : Type 0} (additional : List SeenMember → Result AC Refusal) (gender : SeenMember → Result GC Refusal)
    (additional_out : AC → List OutSeen) (gender_data : GC → Data) (url : Parts) (t : ToIssue AC GC) (now : ℤ)
    (old new : SeenProvider) (logins : SeenLogins SymmetricKey) (left : Pending)
    (reply : Result (SeenSignedIn AC GC) (LoginError Infallible)) : Type 0 where
  pub made : SeenProvider
  pub query : List ℕ
  pub kept : Keeps additional gender additional_out gender_data t.claims t.user_info (asked_with url t) old made query
  pub ran : Ran (core_types additional gender) (attempt logins query now) (known_of made) (known_of new) reply
  pub store : Leaves (attempt logins query now) left reply
  pub unspent : is_spent_by reply ≡ false → (new ≡ made) × (left ≡ logins.pending)
  pub idle : AsksNothing (attempt logins query now) → new ≡ made
