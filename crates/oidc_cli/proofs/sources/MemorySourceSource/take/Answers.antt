use Rattle.std.proofs.Common.{Some, ap}
use Rattle.oidc_cli.proofs.Taking.{moved_front}
use Rattle.oidc_cli.proofs.sources.MemorySourceSource.take.Goals as goal

pub returns-clause-takes : goal.returns-clause-takes
returns-clause-takes c =
    ap Some (moved_front c.self.inside.bytes.items c.args.self.now.left c.copy_from_slice.new.self _ c.self.inside.taken c.min-n.result _ (ap (λ s. s.left) c.self.view_is)
    (rw c.deref.ensures.value at c.min-n.ensures) (rw c.deref.ensures.value at c.copy_from_slice.ensures.after))
