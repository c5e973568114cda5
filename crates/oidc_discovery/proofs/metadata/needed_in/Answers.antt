use Rattle.std.proofs.Common.{rules, ◌≡◌, Ok, Err}
use Rattle.oidc_discovery.specs.Metadata as spec
use Rattle.oidc_discovery.proofs.Needed.{slotted, no_authorization_endpoint, no_jwks_uri, no_algorithms}
use Rattle.oidc_discovery.proofs.metadata.needed_in.Goals as goal

pub returns-in_err-authorization_endpoint : goal.returns-in_err-authorization_endpoint
returns-in_err-authorization_endpoint c =
    let e : c.from_residual-in_err-authorization_endpoint.result ≡ Err c.in_err-authorization_endpoint.field-0.0 =
    search rules in
    rw e
    (no_authorization_endpoint _ _ _
    (slotted spec.issuer _ _ (Ok _) c.requires.issuer c.in_ok-issuer.ensures.value)
    (slotted spec.authorization_endpoint _ _ (Err _) c.requires.authorization_endpoint
    c.in_err-authorization_endpoint.ensures.value))

pub returns-in_err-jwks_uri : goal.returns-in_err-jwks_uri
returns-in_err-jwks_uri c =
    let e : c.from_residual-in_err-jwks_uri.result ≡ Err c.in_err-jwks_uri.field-0.0 =
    search rules in
    rw e
    (no_jwks_uri _ _ _ _
    (slotted spec.issuer _ _ (Ok _) c.requires.issuer c.in_ok-issuer.ensures.value)
    (slotted spec.authorization_endpoint _ _ (Ok _) c.requires.authorization_endpoint
    c.in_ok-authorization_endpoint.ensures.value)
    (slotted spec.jwks_uri _ _ (Err _) c.requires.jwks_uri c.in_err-jwks_uri.ensures.value))

pub returns-in_err-signing_algorithms : goal.returns-in_err-signing_algorithms
returns-in_err-signing_algorithms c =
    let e : c.from_residual-in_err-signing_algorithms.result ≡ Err c.in_err-signing_algorithms.field-0.0 =
    search rules in
    rw e
    (no_algorithms _ _ _ _ _
    (slotted spec.issuer _ _ (Ok _) c.requires.issuer c.in_ok-issuer.ensures.value)
    (slotted spec.authorization_endpoint _ _ (Ok _) c.requires.authorization_endpoint
    c.in_ok-authorization_endpoint.ensures.value)
    (slotted spec.jwks_uri _ _ (Ok _) c.requires.jwks_uri c.in_ok-jwks_uri.ensures.value)
    (slotted spec.signing_algorithms _ _ (Err _) c.requires.signing_algorithms
    c.in_err-signing_algorithms.ensures.value))
