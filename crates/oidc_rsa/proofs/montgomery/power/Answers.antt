use Rattle.std.proofs.Common.{◌≡◌, ℕ, ◌+◌, ◌-◌, ◌*◌, ◌^◌, ◌%◌, length, ap, ◌∙◌, arith}
use Rattle.oidc_rsa.specs.Limbs.{value}
use Rattle.oidc_rsa.proofs.Powers.{into_form, out_of_form, one_more}
use Rattle.oidc_rsa.proofs.montgomery.power.Goals as goal

-- R * R as into_form writes it
square_is : (n s len : ℕ) → s ≡ 2 ^ (64 * (2 * len)) % n → s ≡ 2 ^ (64 * len + 64 * len) % n
square_is n s len h =
    let twice : 64 * (2 * len) ≡ 64 * len + 64 * len = omega arith in
    h ∙ ap (λ (k : ℕ). 2 ^ k % n) twice

pub returns : goal.returns
returns c =
    let n = value c.args.n.now in let len = length c.args.n.now in let base = value c.args.base.now in
    let square = value c.args.r_squared.now in let form = value c.multiply.new.out in
    let stands = into_form n (64 * len) base square form c.requires.odd (square_is n square len c.requires.r_squared) c.multiply.ensures.product in
    out_of_form n (64 * len) (value c.raise.new.acc) base (value c.multiply_in_place.new.acc) (base ^ (c.args.exponent - 1)) c.requires.odd
    c.multiply_in_place.ensures.product (c.raise.ensures.power base stands) c.multiply_in_place.ensures.reduced
    ∙ ap (λ v. v % n) (one_more base c.args.exponent (omega arith))
