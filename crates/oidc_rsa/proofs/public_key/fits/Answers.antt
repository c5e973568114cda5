use Rattle.std.proofs.Common.{◌^◌, sym, arith}
use Rattle.std.proofs.lemmas.Bool.{lt-ltb}
use Rattle.oidc_rsa.specs.Octets.{os2ip}
use Rattle.oidc_rsa.proofs.Digits.{fits_whole, fits_by_first}
use Rattle.oidc_rsa.proofs.public_key.fits.Goals as goal

pub returns-then-octets-len : goal.returns-then-octets-len
returns-then-octets-len c =
    let below = fits_whole c.args.octets.now c.args.len c.type_inv.octets c.if-octets-len.true in
    sym (lt-ltb (os2ip c.args.octets.now) (256 ^ c.args.len) below)

pub returns : goal.returns
returns c = fits_by_first c.args.octets.now c.args.len c.type_inv.octets (omega arith)
