use Rattle.std.proofs.Common.{◌≡◌, ◌+◌, ◌*◌, get_or, rules, arith}
use Rattle.std.specs.Char.{digit_value}
use Rattle.std.proofs.lemmas.List.{take_rest, length-drop}
use Rattle.oidc_pairs.proofs.DecodedBytes.{decode_at_escape, decode_no_escape}
use Rattle.oidc_pairs.proofs.decoding.escape.Goals as goal

pub returns-in_default : goal.returns-in_default
returns-in_default c = decode_no_escape c.args.later.now (λ two _ _. omega arith)

pub returns-in_err-high : goal.returns-in_err-high
returns-in_err-high c = rw c.from_residual.ensures (decode_no_escape c.args.later.now (λ two high low. search rules))

pub returns-in_err-low : goal.returns-in_err-low
returns-in_err-low c = rw c.from_residual-in_err-low.ensures (decode_no_escape c.args.later.now (λ two high low. search rules))

pub returns : goal.returns
returns c =
    let later = c.args.later.now in
    let value : c.in_ok-high.high * 16 + c.in_ok-low.low ≡ digit_value (get_or later 0 0) * 16 + digit_value (get_or later 1 0) = grind arith in
    rw (take_rest later 2, value)
    (decode_at_escape later (omega arith) (search rules) (search rules), omega (arith, length-drop 2 later))
