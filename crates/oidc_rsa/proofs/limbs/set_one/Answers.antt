use Rattle.std.proofs.Common.{◌≡◌, length, get_or, ap, ◌∙◌, arith}
use Rattle.std.proofs.lemmas.List.{get_or-replicate}
use Rattle.oidc_rsa.specs.Limbs.{value}
use Rattle.oidc_rsa.proofs.Values.{value-set, value-zeros}
use Rattle.oidc_rsa.proofs.limbs.set_one.Goals as goal

pub returns : goal.returns
returns c =
    let zeros = c.fill.ensures.after (λ _ h. h) in let len = length c.args.limbs.now in
    let cleared : value c.fill.new.self ≡ 0 = ap value zeros ∙ value-zeros len in
    let lowest : get_or c.fill.new.self 0 0 ≡ 0 = ap (λ xs. get_or xs 0 0) zeros ∙ get_or-replicate len 0 0 0 c.requires in
    omega (arith, value-set c.fill.new.self 0 1 (omega arith))
