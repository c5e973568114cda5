use Rattle.site.proofs.Stored.{found_after}
use Rattle.site.proofs.keep.open.Goals as goal

pub returns-clause-found : goal.returns-clause-found
returns-clause-found c = found_after c.open.result _ _ _ _ _ c.in_ok-id.ensures.copy c.open.ensures.opened c.open.ensures.ended.1
