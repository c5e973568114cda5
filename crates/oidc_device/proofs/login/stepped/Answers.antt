use Rattle.std.proofs.Common.{sym, refl}
use Rattle.oidc_device.specs.Types.{device_types}
use Rattle.oidc_device.specs.Steps.{login_by, polling_of}
use Rattle.oidc_device.specs.declared.clock.Turn.TheVariants as turn
use Rattle.oidc_device.proofs.Moments.{turn_is}
use Rattle.oidc_device.proofs.Idle.{idle_stepped}
use Rattle.oidc_device.proofs.login.stepped.Goals as goal

pub returns-in-Over-clause-ran : goal.returns-in-Over-clause-ran
returns-in-Over-clause-ran g c =
    let types = device_types g.AC.AdditionalClaims.read_of g.GC.GenderClaim.read_of g.K.JsonWebKey g.K.KeyUse.JsonWebKeyUse in
    idle_stepped types (login_by c.args.client.now c.args.codes.now c.args.clock) c.args.now.nanosecond _ turn.Over (sym c.in-Over.ensures) tt _ refl

pub returns-in-Expired-clause-ran : goal.returns-in-Expired-clause-ran
returns-in-Expired-clause-ran g c =
    let types = device_types g.AC.AdditionalClaims.read_of g.GC.GenderClaim.read_of g.K.JsonWebKey g.K.KeyUse.JsonWebKeyUse in
    idle_stepped types (login_by c.args.client.now c.args.codes.now c.args.clock) c.args.now.nanosecond _ turn.Expired (sym c.in-Expired.ensures) tt _ refl

pub returns-in-Wait-clause-ran : goal.returns-in-Wait-clause-ran
returns-in-Wait-clause-ran g c =
    let types = device_types g.AC.AdditionalClaims.read_of g.GC.GenderClaim.read_of g.K.JsonWebKey g.K.KeyUse.JsonWebKeyUse in
    idle_stepped types (login_by c.args.client.now c.args.codes.now c.args.clock) c.args.now.nanosecond _ (turn.Wait c.in-Wait.seconds) (sym c.in-Wait.ensures) tt _ refl

pub returns-in-Poll-clause-ran : goal.returns-in-Poll-clause-ran
returns-in-Poll-clause-ran g c =
    c.polled.ensures.ran (polling_of c.args.clock) (turn_is (polling_of c.args.clock) c.args.now.nanosecond turn.Poll c.in-Poll.ensures)

pub returns-in-Poll-clause-idle : goal.returns-in-Poll-clause-idle
returns-in-Poll-clause-idle g c = λ never. absurd (never (turn_is (polling_of c.args.clock) c.args.now.nanosecond turn.Poll c.in-Poll.ensures))

pub returns-in-Poll-clause-memory : goal.returns-in-Poll-clause-memory
returns-in-Poll-clause-memory g c = λ wants. turn_is (polling_of c.args.clock) c.args.now.nanosecond turn.Poll c.in-Poll.ensures
