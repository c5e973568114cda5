use Rattle.std.proofs.Common.{◌≡◌, ◌==◌, false, refl, sym, subst, All}
use Rattle.oidc_jwt.proofs.Undotted.{encoding_undotted}
use Rattle.oidc_jwt.proofs.Encoded.{decoded_back}
use Rattle.oidc_jwt.proofs.jwt.encoded.Goals as goal

pub returns : goal.returns
returns c = record {
  same = c.in_ok-text.ensures.text;
  back = decoded_back _ _ (c.in_ok-text.ensures.round_trip refl);
  undotted = subst (All (λ b. (b == 46) ≡ false)) (sym c.in_ok-text.ensures.text) (encoding_undotted c.args.bytes.now);
}
