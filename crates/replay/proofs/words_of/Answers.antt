use Rattle.std.proofs.Common.{refl}
use Rattle.std.proofs.lemmas.Iterator.{items_from_collect}
use Rattle.std.proofs.lemmas.Iterator.Adapters.{YieldsList-from_skip, YieldsList-from_vec}
use Rattle.replay.proofs.words_of.Goals as goal

pub returns : goal.returns
returns c =
    rw c.skip.ensures.source
    at (items_from_collect _ c.collect.ensures.ran (YieldsList-from_skip 1 (YieldsList-from_vec _ refl c.skip.result.iter.rest.ok.0) c.skip.ensures.count))
