use Rattle.std.proofs.Common.{◌≡◌, true, sym, ap, ◌∙◌}
use Rattle.std.specs.Str.{bytes_eq}
use Rattle.oidc_pairs.proofs.Lookups.{second_found}
use Rattle.oidc_pairs.proofs.borrowed.BorrowedPairs.only.Goals as goal

pub returns-then-is_some : goal.returns-then-is_some
returns-then-is_some c =
    let named : bytes_eq c.pair-item.result.0 c.args.name.now ≡ true =
    ap (λ name. bytes_eq name c.args.name.now) (sym c.name.ensures) ∙ sym c.if-eq.ensures in
    rw (← c.self.view_is, ← c.deref-pair-items.ensures.value)
    (second_found _ _ _ _ c.loop-pair.found c.loop-pair-test.true c.pair-item.is named c.loop-pair.invariant (sym c.if-is_some.ensures))
