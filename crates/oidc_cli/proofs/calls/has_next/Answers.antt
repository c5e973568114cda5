use Rattle.std.proofs.Common.{◌<◌, ◌+◌, get_or, sym, arith}
use Rattle.oidc_cli.proofs.Listed.{above_all}
use Rattle.oidc_cli.proofs.calls.has_next.Goals as goal

pub returns-in-None : goal.returns-in-None
returns-in-None c =
    sym (above_all c.args.numbers.now (c.args.made + 1) (λ k. let fits = c.type_inv.numbers k in let none = c.in-None.ensures in let p : get_or c.args.numbers.now k 0 < c.args.made + 1 = omega arith in p))
