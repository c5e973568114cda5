use Rattle.std.proofs.Common.{◌≡◌, length, drop, ap, ◌∙◌, arith}
use Rattle.std.proofs.lemmas.List.{take_at}
use Rattle.oidc_rsa.specs.Octets.{os2ip}
use Rattle.oidc_rsa.specs.Limbs.{value}
use Rattle.oidc_rsa.proofs.Sizes.{above_one}
use Rattle.oidc_rsa.proofs.public_key.RsaPublicKey.of_parts.Goals as goal

pub r_squared-requires-clause-above_one : goal.r_squared-requires-clause-above_one
r_squared-requires-clause-above_one c =
    let limbs = c.read_octets.new.limbs in let modulus = c.in_ok-modulus.modulus in
    let written = take_at limbs (drop (length limbs) modulus.items) modulus.len (omega arith) in
    let number : value c.as_slice.result.now ≡ os2ip c.args.octets.now = ap value (c.as_slice.ensures.value ∙ written) ∙ c.read_octets.ensures in
    above_one (value c.as_slice.result.now) c.args.bits c.requires.at_least (omega arith)
