use Rattle.std.proofs.Common.{◌≡◌, take, ap, ◌∙◌, arith}
use Rattle.std.proofs.lemmas.List.{take_all}
use Rattle.oidc_rsa.specs.Pss.{xored}
use Rattle.oidc_rsa.proofs.Masks.{xored_more}
use Rattle.oidc_rsa.proofs.pss.xored.Goals as goal

pub loop-i-preserved : goal.loop-i-preserved
loop-i-preserved c =
    let more = xored_more c.args.octets.now c.args.mask.now c.loop-i.i (omega arith) (omega arith) in
    record {
      items = cc;
      len = omega (arith, c.push.ensures.len, c.loop-i.invariant.len);
    }

pub returns-clause-items : goal.returns-clause-items
returns-clause-items c =
    let octets = c.args.octets.now in let mask = c.args.mask.now in let i = c.loop-i.i in
    let all : take i octets ≡ octets = take_all i octets (omega arith) in
    let all_mask : take i mask ≡ mask = take_all i mask (omega arith) in
    c.loop-i.invariant.items ∙ (ap (λ xs. xored xs (take i mask)) all ∙ ap (λ ys. xored octets ys) all_mask)
