use Rattle.std.proofs.Common.{◌+◌, ◌^◌, ◌<◌, take, arith}
use Rattle.std.proofs.lemmas.Int.Digits.{number_more}
use Rattle.oidc_rsa.specs.Octets.{os2ip}
use Rattle.oidc_rsa.proofs.Sizes.{great_exponent}
use Rattle.oidc_rsa.proofs.public_key.exponent_of.Goals as goal

pub returns-then-exponent-gt-MAX_EXPONENT-clause-refused :
    goal.returns-then-exponent-gt-MAX_EXPONENT-clause-refused
returns-then-exponent-gt-MAX_EXPONENT-clause-refused c =
    let octets = c.args.octets.now in let i = c.loop-octet.octet-index in
    let more = number_more 256 octets i (omega arith) in
    let above : 2 ^ 32 < os2ip (take (i + 1) octets) = omega (arith, more, c.loop-octet.invariant.number, c.from.ensures) in
    great_exponent octets (i + 1) above

pub loop-octet-preserved : goal.loop-octet-preserved
loop-octet-preserved c =
    let more = number_more 256 c.args.octets.now c.loop-octet.octet-index (omega arith) in
    record {
      number = omega (arith, more, c.loop-octet.invariant.number, c.from.ensures);
      within = omega arith;
    }
