-- Logout tokens and ID tokens, apart (OpenID Connect Back-Channel Logout 1.0 section 2.4: a logout token has no nonce).
use Rattle.std.specs.Prelude.{◌≡◌, ℕ, ℤ, List, Ok}
use Rattle.oidc_members.specs.declared.reading.Reading.{Reading}
use Rattle.oidc_login.specs.Types.{SeenLoginClient, SiteTypes}
use Rattle.oidc_login.specs.Token.{SeenIdToken, id_token_of, IsAcceptedBy}
use Rattle.oidc_session.specs.Sessions.{TokenIds, SeenLogout}
use Rattle.oidc_session.specs.LogoutTokens.{LogoutKeys, SeenLogoutVerifier, accepted_logout}

-- No text is both accepted as a login's ID token with its nonce and accepted as a logout token, whoever verifies, at
-- whatever moments, however ID tokens are read.
abbrev pub NeverBoth : {AC GC Key Use OtherKey Algorithm : Type 0} → SiteTypes AC GC Key Use → LogoutKeys OtherKey Algorithm
    → Type 0
NeverBoth {AC} {GC} {Key} {Use} {OtherKey} {Algorithm} types keys =
    (client : SeenLoginClient Key) (reading : Reading) (sent : List ℕ) (now : ℤ) (token : SeenIdToken AC GC)
    (v : SeenLogoutVerifier OtherKey Algorithm) (token_ids : TokenIds) (later : ℤ) (logout : SeenLogout) (text : List ℕ)
    → id_token_of types reading text ≡ Ok token → IsAcceptedBy types client sent now token
    → accepted_logout keys v token_ids later text ≡ Ok logout → ⊥
