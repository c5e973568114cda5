use Rattle.std.proofs.Common.{◌∙◌, arith}
use Rattle.oidc_types.proofs.Drawn.{step, ended}
use Rattle.oidc_types.proofs.random.fill.Goals as goal

pub loop-byte-preserved : goal.loop-byte-preserved
loop-byte-preserved g c =
    c.loop-byte.invariant
    ∙ step c.loop-byte.bytes c.loop-byte.byte-index c.random.result _ _ (omega arith) c.random.ensures.drawn

pub returns : goal.returns
returns g c =
    c.loop-byte.invariant
    ∙ ended c.loop-byte.bytes c.loop-byte.byte-index _ (omega arith)
