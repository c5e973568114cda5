use Rattle.std.specs.Fmt.{padded_integral}
use Rattle.oidc_cli.proofs.DrillTexts.{laid_out}
use Rattle.oidc_cli.proofs.drill.provider.verifier.Goals as goal

pub returns : goal.returns
unfolding padded_integral
returns c = laid_out c.format.result c.args.i (rw c.laid_out.ensures at c.format.ensures.ok)
