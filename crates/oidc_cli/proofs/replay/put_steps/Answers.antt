use Rattle.oidc_cli.proofs.replay.put_steps.Goals as goal

pub returns-clause-whole : goal.returns-clause-whole
returns-clause-whole g c = rw c.in-Ok.ensures.empty at c.put_lines-put.ensures.whole

pub returns-clause-begun : goal.returns-clause-begun
returns-clause-begun g c = rw c.in-Ok.ensures.empty at c.put_lines-put.ensures.begun
