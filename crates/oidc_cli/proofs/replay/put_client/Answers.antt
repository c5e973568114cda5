use Rattle.oidc_cli.proofs.replay.put_client.Goals as goal

pub returns-clause-whole : goal.returns-clause-whole
returns-clause-whole g c = rw c.in_ok-text.ensures.ok at c.put_steps.ensures.whole

pub returns-clause-begun : goal.returns-clause-begun
returns-clause-begun g c = rw c.in_ok-text.ensures.ok at c.put_steps.ensures.begun
