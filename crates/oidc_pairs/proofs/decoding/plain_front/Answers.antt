use Rattle.std.proofs.Common.{◌++◌, ap₂, ◌∙◌, sym, append-nil, arith}
use Rattle.form_urlencoded.specs.Form.{decode}
use Rattle.percent_encoding.proofs.PercentLemmas.{percent_decode-nil}
use Rattle.oidc_pairs.proofs.DecodedBytes.{plain_at, plain_decodes}
use Rattle.oidc_pairs.proofs.decoding.plain_front.Goals as goal

pub returns-in-Some-clause-bytes : goal.returns-in-Some-clause-bytes
returns-in-Some-clause-bytes c =
    let bs = c.args.encoded.now in
    let found = c.in-Some.ensures in
    ap₂ (λ front behind. front ++ decode behind) c.split_at.ensures.front c.split_at.ensures.back
    ∙ plain_at bs c.in-Some.i (omega (arith, found.0.high)) found.0.before

pub returns-in-None-clause-bytes : goal.returns-in-None-clause-bytes
returns-in-None-clause-bytes c =
    let bs = c.args.encoded.now in
    ap₂ (λ front behind. front ++ behind) (sym (plain_decodes bs c.in-None.ensures)) percent_decode-nil ∙ append-nil (decode bs)
