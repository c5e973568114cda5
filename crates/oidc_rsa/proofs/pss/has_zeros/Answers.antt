use Rattle.oidc_rsa.proofs.Bits.{zeros_before}
use Rattle.oidc_rsa.proofs.pss.has_zeros.Goals as goal

pub returns : goal.returns
returns c = zeros_before c.args.octet c.args.count c.requires
