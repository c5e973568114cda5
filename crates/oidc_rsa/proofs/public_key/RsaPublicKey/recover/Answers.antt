use Rattle.std.proofs.Common.{◌≡◌, ℕ, length, ap, ◌∙◌}
use Rattle.oidc_rsa.specs.Octets.{i2osp}
use Rattle.oidc_rsa.specs.Limbs.{value}
use Rattle.oidc_rsa.specs.Key.{PublicKey}
use Rattle.oidc_rsa.specs.Signature as spec
use Rattle.oidc_rsa.proofs.Verdicts.{recovered_is}
use Rattle.oidc_rsa.proofs.public_key.RsaPublicKey.recover.Goals as goal

pub returns-clause-recovered : goal.returns-clause-recovered
returns-clause-recovered c =
    let key = c.args.self.now in let signature = c.args.signature.now in let n = c.as_slice-n.result.now in
    let exponent : c.self.inside.exponent ≡ key.exponent = ap (λ (k : PublicKey). k.exponent) c.self.view_is in
    let modulus : value n ≡ key.modulus = ap value c.as_slice-n.ensures.value ∙ ap (λ (k : PublicKey). k.modulus) c.self.view_is in
    let number = recovered_is key signature (value c.power.new.out) (value c.read_octets.new.limbs) c.self.inside.exponent (value n) c.power.ensures c.read_octets.ensures exponent modulus in
    λ _. c.write_octets.ensures ∙ (ap (λ (v : ℕ). i2osp v (length c.args.out.now)) number ∙ ap (λ (len : ℕ). i2osp (spec.message_representative key signature) len) c.requires)
