use Rattle.std.proofs.Common.{ap}
use Rattle.oidc_pairs.specs.Pairs.{values_in}
use Rattle.oidc_pairs.proofs.Decoded.{decoded-raw_pairs}
use Rattle.oidc_pairs.proofs.scan.first_value.Goals as goal

pub loop-encoded-init : goal.loop-encoded-init
loop-encoded-init c = ap (λ list. values_in list c.args.name.now) (decoded-raw_pairs c.args.text.now)
