use Rattle.oidc_rsa.proofs.Bits.{kept}
use Rattle.oidc_rsa.proofs.pss.with_zeros.Goals as goal

pub returns : goal.returns
returns c = kept c.args.octet c.args.count c.requires
