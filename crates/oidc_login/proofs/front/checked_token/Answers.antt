use Rattle.oidc_login.specs.Types.{site_types}
use Rattle.oidc_login.proofs.Fronts.{passed, refused_by}
use Rattle.oidc_login.proofs.front.checked_token.Goals as goal

pub returns-in-Ok-claims-clause-gives : goal.returns-in-Ok-claims-clause-gives
returns-in-Ok-claims-clause-gives g c =
    let types = site_types g.AC.AdditionalClaims.read_of g.GC.GenderClaim.read_of g.K.JsonWebKey g.K.KeyUse.JsonWebKeyUse in
    passed types c.args.client.now c.args.nonce.now c.args.now.nanosecond c.args.query.now c.args.token.now c.checked_hashes.result c.in-Ok.verifier c.in-Ok.ensures.verifier
    c.in-Ok-claims.ensures.judged (rw c.code_hash_required-demanded.ensures.required at c.checked_hashes.ensures.gives)

pub returns-clause-gives : goal.returns-clause-gives
returns-clause-gives g c =
    let types = site_types g.AC.AdditionalClaims.read_of g.GC.GenderClaim.read_of g.K.JsonWebKey g.K.KeyUse.JsonWebKeyUse in
    rw c.of_check.ensures
    (refused_by types c.args.client.now c.args.nonce.now c.args.now.nanosecond c.args.query.now c.args.token.now (Unit {0}) c.in-Ok.verifier c.in-Ok.ensures.verifier c.in-Err.error
    c.in-Err.ensures.judged)
