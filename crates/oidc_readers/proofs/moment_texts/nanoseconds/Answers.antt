use Rattle.std.proofs.Common.{◌≡◌, suc, ◌+◌, ◌-◌, ◌*◌, ◌/◌, ◌^◌, ◌<◌, ◌≤◌, length, get_or, ◌∙◌, arith}
use Rattle.std.proofs.Math.Nat.{mul-le-mul_right}
use Rattle.std.proofs.lemmas.List.{at_drop_all}
use Rattle.jiff_fmt.specs.Reader.{fraction_value}
use Rattle.jiff_fmt.proofs.ReaderLemmas.{fraction_value-nil, fraction_value-drop, tenth, ten_pow-pos}
use Rattle.oidc_readers.proofs.moment_texts.nanoseconds.Goals as goal

-- one digit more, worth a tenth of the one before
pub loop-digit-preserved : goal.loop-digit-preserved
loop-digit-preserved c =
    let l = c.loop-digit in
    let i = l.digit-index in
    let places = c.args.places.now in
    let left = 9 - (i + 1) in
    let here : i < length places = omega (arith, c.loop-digit-test.true) in
    let next : 9 - i ≡ suc left = omega (arith, c.requires.few) in
    let power = 10 ^ left in
    let worth : l.worth / 10 ≡ power = omega (arith, l.invariant.worth, tenth (9 - i) left next) in
    let digit : get_or places i 0 - 48 ≤ 9 = omega (arith, c.requires.digits i here) in
    let most : (get_or places i 0 - 48) * (l.worth / 10) ≤ 9 * (l.worth / 10) = mul-le-mul_right _ digit in
    let step = fraction_value-drop (9 - i) left places i next here in
    let same : (get_or places i 0 - 48) * (l.worth / 10) ≡ (get_or places i 0 - 48) * power = rw worth in
    record {
      worth = worth;
      small = omega (arith, l.invariant.small);
      value = omega (arith, l.invariant.value);
    }

pub returns-clause-value : goal.returns-clause-value
returns-clause-value c =
    let l = c.loop-digit in
    let none = at_drop_all (fraction_value (9 - l.digit-index)) _ _ c.loop-digit-test.false ∙ fraction_value-nil _ in
    omega (arith, l.invariant.value)

pub returns-clause-bound : goal.returns-clause-bound
returns-clause-bound c = omega (arith, c.loop-digit.invariant.small, c.loop-digit.invariant.worth, ten_pow-pos (9 - c.loop-digit.digit-index))
