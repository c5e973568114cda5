use Rattle.std.proofs.Common.{sym, ◌∙◌}
use Rattle.oidc_device.specs.Types.{device_types}
use Rattle.oidc_device.proofs.Signing.{passed, refused_by, same_failure, same_hash, of_check_no_fault}
use Rattle.oidc_device.proofs.token.accepted_token.Goals as goal

pub returns-in-Ok-claims-clause-gives : goal.returns-in-Ok-claims-clause-gives
returns-in-Ok-claims-clause-gives g c =
    let types = device_types g.AC.AdditionalClaims.read_of g.GC.GenderClaim.read_of g.K.JsonWebKey g.K.KeyUse.JsonWebKeyUse in
    let same = same_failure types c.args.client.now c.args.now.nanosecond c.args.token.now c.args.access_token.now c.in-Ok.verifier c.in-Ok.ensures.verifier in
    passed types c.args.client.now c.args.now.nanosecond c.args.token.now c.args.access_token.now c.checked_hash.result
    (sym same ∙ c.in-Ok-claims.ensures.judged)
    (same_hash types c.args.client.now c.args.now.nanosecond c.args.token.now c.args.access_token.now c.checked_hash.result c.in-Ok.verifier c.in-Ok.ensures.verifier c.checked_hash.ensures.gives)

pub returns : goal.returns
returns g c =
    let types = device_types g.AC.AdditionalClaims.read_of g.GC.GenderClaim.read_of g.K.JsonWebKey g.K.KeyUse.JsonWebKeyUse in
    let same = same_failure types c.args.client.now c.args.now.nanosecond c.args.token.now c.args.access_token.now c.in-Ok.verifier c.in-Ok.ensures.verifier in
    record {
      gives = rw c.of_check.ensures (refused_by types c.args.client.now c.args.now.nanosecond c.args.token.now c.args.access_token.now _ (Unit {0}) _ same c.in-Err.error c.in-Err.ensures.judged);
      no_fault = rw c.of_check.ensures (of_check_no_fault _ c.in-Err.error);
    }
