use Rattle.std.proofs.Common.{ap, Ok, sym, ◌∙◌}
use Rattle.oidc_device.specs.Steps.{started_by}
use Rattle.oidc_device.proofs.Starts as starts
use Rattle.oidc_device.proofs.login.DeviceLogin.of_codes.Goals as goal

pub returns-in-Ok : goal.returns-in-Ok
returns-in-Ok g c =
    ap Ok (starts.first_is c.args.client.now c.args.now.nanosecond c.in-Ok.codes _ _ _ c.new-clock.ensures c.expires_in.ensures.span c.interval.ensures.span)
    ∙ sym (ap (started_by c.args.client.now c.args.now.nanosecond) c.in-Ok.is)
