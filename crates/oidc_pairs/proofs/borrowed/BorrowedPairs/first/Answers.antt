use Rattle.std.proofs.Common.{◌≡◌, true, sym, ap, ◌∙◌}
use Rattle.std.specs.Str.{bytes_eq}
use Rattle.oidc_pairs.proofs.Lookups.{first_found}
use Rattle.oidc_pairs.proofs.borrowed.BorrowedPairs.first.Goals as goal

pub returns-then-eq : goal.returns-then-eq
returns-then-eq c =
    let named : bytes_eq c.pair-item.result.0 c.args.name.now ≡ true =
    ap (λ name. bytes_eq name c.args.name.now) (sym c.name.ensures) ∙ sym c.if-eq.ensures in
    rw (c.value.ensures, ← c.self.view_is, ← c.deref-pair-items.ensures.value)
    (first_found _ _ _ _ c.loop-pair-test.true c.pair-item.is named c.loop-pair.invariant)
