-- The provider's session behind a sign-in, by which its logout tokens name it (the claim `sid`), and what such a token
-- leaves once it is posted to the site (OpenID Connect Back-Channel Logout 1.0 sections 2.1, 2.5 and 2.7).
use Rattle.std.specs.Prelude.{◌≡◌, ◌<◌, ℕ, ℤ, List, Option, None, Some, codes, length}
use Rattle.std.specs.List.{find}
use Rattle.std.specs.Option.{option_and_then}
use Rattle.std.specs.Str.{bytes_eq}
use Rattle.serde_json.specs.Find.{as_str}
use Rattle.oidc_members.specs.Seen.{OutSeen}
use Rattle.oidc_types.specs.declared.core_algorithms.CoreJwsSigningAlgorithm.{CoreJwsSigningAlgorithm}
use Rattle.oidc_claims.specs.Others.{list_of}
use Rattle.oidc_keys.specs.CoreJwk.{SymmetricKey}
use Rattle.oidc.specs.Pairs.{values, only_of}
use Rattle.oidc.specs.Token.{subject_of}
use Rattle.oidc.specs.Sessions.{Kept, Opening, SeenLogout, count_of, ends_session, logged_out, opening}
use Rattle.oidc_oauth2.specs.Replies.{Unless}
use Rattle.oidc.specs.LogoutTokens.{SeenSessions, logout_keys, is_memory}
use Rattle.oidc.specs.LogoutCauses.{LogoutCause, IsAcceptedLogout}
use Rattle.site.specs.declared.keep.PostError.{PostError}
use Rattle.site.specs.declared.keep.PostError.TheVariants.{TooLong, NoToken, LogoutToken}
use Rattle.site.specs.Types.{types, SeenUser}

abbrev pub SeenSiteSessions : Type 0
SeenSiteSessions = SeenSessions SymmetricKey CoreJwsSigningAlgorithm

-- the text of the first claim `sid`, where it is one
abbrev pub sid_in : List OutSeen → Option (List ℕ)
sid_in claims =
    option_and_then (λ claim. as_str claim.value) (find (λ claim. bytes_eq claim.name (codes "sid")) claims)

-- the provider's session behind a sign-in, where the ID token names it
abbrev pub sid_of : SeenUser → Option (List ℕ)
sid_of user = sid_in (list_of user.id_token.payload.additional_claims)

-- the session of a user, under this id, until a moment, opened at another
abbrev pub opening_of : List ℕ → SeenUser → ℤ → ℤ → Opening
opening_of id user end now = opening id (subject_of user.id_token) (sid_of user) end now

-- the one logout token of what is posted
abbrev pub posted_token : List ℕ → Option (List ℕ)
posted_token body = only_of (values body (codes "logout_token"))

-- A logout token is accepted, and names so many sessions; then these are gone, and its id stands among those that were
-- accepted.
abbrev pub Ends : SeenSiteSessions → ℤ → List ℕ → ℕ → Kept → Type 0
Ends sessions now token count kept =
    let keys = logout_keys types.keys.algorithm_words types.keys.keys.verdict in
    (logout : SeenLogout)
    × IsAcceptedLogout keys sessions.verifier sessions.kept.token_ids now token logout
    × (count ≡ count_of (ends_session logout) sessions.kept.sessions)
    × (kept ≡ logged_out sessions.kept logout)

-- What a refusal rests on: the post is too long, it hasn't exactly one logout token, or that is refused for its cause.
abbrev pub PostCause : SeenSiteSessions → ℤ → List ℕ → PostError → Type 0
PostCause sessions now body TooLong = 65_536 < length body
PostCause sessions now body NoToken = posted_token body ≡ None
PostCause sessions now body (LogoutToken e) =
    let keys = logout_keys types.keys.algorithm_words types.keys.keys.verdict in
    Unless (is_memory e)
    ((token : List ℕ) × (posted_token body ≡ Some token)
    × LogoutCause keys sessions.verifier sessions.kept.token_ids now token e)
