use Rattle.std.proofs.Common.{ap, Ok, ◌∙◌}
use Rattle.oidc_device.specs.Types.{device_types}
use Rattle.oidc_device.proofs.Signing.{said_from, err_from, memory_from, fault_from}
use Rattle.oidc_device.proofs.token.step_of_poll.Goals as goal

pub returns-in-Ok-Done-clause-gives : goal.returns-in-Ok-Done-clause-gives
returns-in-Ok-Done-clause-gives g c = λ reply given.
    said_from _ c.args.client.now c.args.now.nanosecond c.args.polled _ reply _ (c.in-Ok-Done.is ∙ ap Ok c.in-Ok-Done.field-0-is) given c.step_of_tokens.ensures.gives

pub returns-in-Err-clause-gives : goal.returns-in-Err-clause-gives
returns-in-Err-clause-gives g c = λ reply given.
    let types = device_types g.AC.AdditionalClaims.read_of g.GC.GenderClaim.read_of g.K.JsonWebKey g.K.KeyUse.JsonWebKeyUse in
    err_from types c.args.client.now c.args.now.nanosecond c.args.polled c.in-Err.error c.of_poll.result c.in-Err.is c.of_poll.ensures reply given

pub returns-in-Err-clause-memory : goal.returns-in-Err-clause-memory
returns-in-Err-clause-memory g c =
    let types = device_types g.AC.AdditionalClaims.read_of g.GC.GenderClaim.read_of g.K.JsonWebKey g.K.KeyUse.JsonWebKeyUse in
    memory_from types c.args.client.now c.args.now.nanosecond c.args.polled c.in-Err.error c.of_poll.result c.in-Err.is c.of_poll.ensures

pub returns-in-Err-clause-fault : goal.returns-in-Err-clause-fault
returns-in-Err-clause-fault g c =
    let types = device_types g.AC.AdditionalClaims.read_of g.GC.GenderClaim.read_of g.K.JsonWebKey g.K.KeyUse.JsonWebKeyUse in
    fault_from types c.args.client.now c.args.now.nanosecond c.args.polled c.in-Err.error c.of_poll.result c.in-Err.is c.of_poll.ensures
