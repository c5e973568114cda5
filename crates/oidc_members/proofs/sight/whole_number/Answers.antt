use Rattle.std.proofs.Common.{◌≡◌, ◌<◌, false, true, length, sym, ap, ◌∙◌, arith}
use Rattle.std.proofs.lemmas.Bool.{eqb-false}
use Rattle.std.specs.List.{list_all}
use Rattle.std.specs.Char.{is_ascii_digit}
use Rattle.serde_json.specs.Data.{unsigned}
use Rattle.serde_json.specs.Read.{number_from}
use Rattle.oidc_members.proofs.Scalars.{IsNumber-digits, number_of-digits, number_reads}
use Rattle.oidc_members.proofs.sight.whole_number.Goals as goal

pub returns : goal.returns
returns c =
    let bytes = c.args.bytes.now in
    let digits : list_all is_ascii_digit bytes ≡ true = sym c.are_digits.ensures ∙ c.if-not-are_digits.false in
    let some : 0 < length bytes = omega (arith, eqb-false (length bytes) 0 (sym c.is_empty.ensures ∙ c.if-is_empty.false)) in
    let number = IsNumber-digits bytes digits some (sym c.has_leading_zero.ensures ∙ c.if-has_leading_zero.false) in
    let value = number_of-digits bytes _ digits some (ap (number_from false) (sym c.scan.ensures.parts) ∙ c.in_ok-n.ensures) in
    number_reads bytes (unsigned c.in_ok-n.n) digits number value
