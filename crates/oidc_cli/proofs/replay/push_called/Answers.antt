use Rattle.std.specs.Prelude.{Result, Ok, Err, OnOk}
use Rattle.oidc_cli.proofs.replay.push_called.Goals as goal

-- what holds whatever the result is
on_ok : {T E : Type 0} (r : Result T E) (P : Type 0) → P → OnOk r P
on_ok (Ok x) P p = p
on_ok (Err e) P p = tt

pub returns-clause-lines : goal.returns-clause-lines
returns-clause-lines c = rw (c.in-Ok.ensures.reply, c.in-Ok.ensures.sent) at (c.push_replied-pushed.ensures c.in-Ok.ensures.no_floats)

pub returns-clause-store : goal.returns-clause-store
returns-clause-store c = on_ok _ _ c.in-Ok.ensures.store
