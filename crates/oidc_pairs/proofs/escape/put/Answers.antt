use Rattle.std.proofs.Common.{◌≡◌, length, rules, arith, ap, ◌∙◌}
use Rattle.std.proofs.lemmas.Grind.{common_steps}
use Rattle.percent_encoding.specs.Percent.{percent_encode_byte}
use Rattle.oidc_pairs.proofs.escape.put.Goals as goal

pub copy_from_slice-requires : goal.copy_from_slice-requires
unfolding percent_encode_byte
copy_from_slice-requires c =
    let three : length c.as_bytes.result.now ≡ 3 = ap length (c.as_bytes.ensures.value ∙ c.percent_encode_byte.ensures) in
    first_of (search rules, grind (arith, common_steps))
