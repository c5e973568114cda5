use Rattle.std.proofs.Common.{sym, ap, ◌∙◌}
use Rattle.serde_json.specs.Find.{as_str}
use Rattle.oidc_members.specs.Seen.{OutSeen}
use Rattle.site.proofs.Sids.{sid_at, still_none}
use Rattle.site.proofs.keep.sid_in.Goals as goal

pub loop-claim-preserved : goal.loop-claim-preserved
loop-claim-preserved c = still_none _ c.loop-claim.claim-index c.claim-item.result c.loop-claim-test.true c.claim-item.is (sym c.is_sid.ensures ∙ c.if-is_sid.false) c.loop-claim.invariant

pub returns-then-is_sid : goal.returns-then-is_sid
returns-then-is_sid c =
    rw (c.as_str.ensures, ← c.as_slice-claim-items.ensures)
    (ap (λ (m : OutSeen). as_str m.value) c.claim.view_is
    ∙ sid_at c.as_slice-claim-items.result.now c.loop-claim.claim-index c.claim-item.result c.loop-claim-test.true c.claim-item.is (sym c.is_sid.ensures ∙ c.if-is_sid.true) c.loop-claim.invariant)
