use Rattle.std.proofs.Common.{◌≡◌, ℕ, ◌-◌, ◌^◌, ◌<◌, nat_lt, length, refl, ap, ◌∙◌, arith}
use Rattle.oidc_rsa.specs.Octets.{i2osp}
use Rattle.oidc_rsa.specs.Limbs.{value}
use Rattle.oidc_rsa.specs.Key.{PublicKey, modulus_len, octets_for}
use Rattle.oidc_rsa.specs.Signature as spec
use Rattle.oidc_rsa.proofs.Verdicts.{writes_recovered, length-written, last_octets, too_great_for_pss, decided_by_encoding}
use Rattle.oidc_rsa.proofs.public_key.RsaPublicKey.verifies_pss.Goals as goal

pub returns-then-not-fits : goal.returns-then-not-fits
returns-then-not-fits c =
    let key = c.args.self.now in let signature = c.args.signature.now in let out = c.recover.new.out in let em_len = c.div_ceil-em_len.result in
    let modulus : value c.self.inside.modulus.items ≡ key.modulus = ap (λ (k : PublicKey). k.modulus) c.self.view_is in
    let bits : c.self.inside.bits ≡ key.bits = ap (λ (k : PublicKey). k.bits) c.self.view_is in
    let some : 0 < key.modulus = omega (arith, c.self.invariant.odd) in
    let size : key.modulus < 2 ^ key.bits = omega (arith, c.self.invariant.size.1, ap (λ (b : ℕ). 2 ^ b) bits) in
    let number = writes_recovered key signature out some size (c.if-not-recover.ensures.recovered refl) in
    let len : em_len ≡ octets_for (key.bits - 1) = c.div_ceil-em_len.ensures ∙ ap (λ (b : ℕ). octets_for (b - 1)) bits in
    let fits = c.fits.ensures ∙ (ap (λ (x : ℕ). nat_lt x (256 ^ em_len)) number ∙ ap (λ (l : ℕ). nat_lt (spec.message_representative key signature) (256 ^ l)) len) in
    too_great_for_pss c.args.hash key c.args.message.now signature c.fits.result c.if-not-recover.ensures.representative fits c.if-not-fits.true

pub returns : goal.returns
returns c =
    let key = c.args.self.now in let signature = c.args.signature.now in let out = c.recover.new.out in let em_len = c.div_ceil-em_len.result in
    let modulus : value c.self.inside.modulus.items ≡ key.modulus = ap (λ (k : PublicKey). k.modulus) c.self.view_is in
    let bits : c.self.inside.bits ≡ key.bits = ap (λ (k : PublicKey). k.bits) c.self.view_is in
    let some : 0 < key.modulus = omega (arith, c.self.invariant.odd) in
    let size : key.modulus < 2 ^ key.bits = omega (arith, c.self.invariant.size.1, ap (λ (b : ℕ). 2 ^ b) bits) in
    let octets = c.if-not-recover.ensures.recovered refl in
    let number = writes_recovered key signature out some size octets in
    let len : em_len ≡ octets_for (key.bits - 1) = c.div_ceil-em_len.ensures ∙ ap (λ (b : ℕ). octets_for (b - 1)) bits in
    let fits = c.fits.ensures ∙ (ap (λ (x : ℕ). nat_lt x (256 ^ em_len)) number ∙ ap (λ (l : ℕ). nat_lt (spec.message_representative key signature) (256 ^ l)) len) in
    let whole : length out ≡ modulus_len key = ap length octets ∙ length-written (spec.message_representative key signature) (modulus_len key) in
    let above = length out - em_len in
    let em = last_octets out (spec.message_representative key signature) above em_len (modulus_len key) (length out - above) octets (omega (arith, c.div_ceil-em_len.ensures)) (omega (arith, c.div_ceil-em_len.ensures)) in
    decided_by_encoding c.args.hash key c.args.message.now signature _ (c.self.inside.bits - 1) c.fits.result c.is_pss_encoding.result c.if-not-recover.ensures.representative fits c.if-not-fits.false
    (em ∙ ap (λ (l : ℕ). i2osp (spec.message_representative key signature) l) len) (ap (λ (b : ℕ). b - 1) bits) c.is_pss_encoding.ensures
