use Rattle.std.proofs.Common.{◌≡◌}
use Rattle.std.specs.Option.{option_copied}
use Rattle.oidc_pairs.specs.Pairs.{first_of}
use Rattle.oidc_login.specs.Types.{site_types}
use Rattle.oidc_login.specs.FrontChannel.{access_tokens_in, codes_in}
use Rattle.oidc_login.proofs.Fronts.{token_refused, code_refused, fits_given}
use Rattle.oidc_login.proofs.front.checked_hashes.Goals as goal

pub returns-in-Err-clause-gives : goal.returns-in-Err-clause-gives
returns-in-Err-clause-gives g c =
    let types = site_types g.AC.AdditionalClaims.read_of g.GC.GenderClaim.read_of g.K.JsonWebKey g.K.KeyUse.JsonWebKeyUse in
    let first : option_copied c.as_ref.result ≡ first_of (access_tokens_in c.args.query.now) = cc in
    rw c.of_signing.ensures (token_refused types c.args.verifier.now c.args.demanded c.args.token.now c.args.query.now _ first c.in-Err.refusal c.in-Err.ensures.refused)

pub returns-in-Err-code_fits-clause-gives : goal.returns-in-Err-code_fits-clause-gives
returns-in-Err-code_fits-clause-gives g c =
    let types = site_types g.AC.AdditionalClaims.read_of g.GC.GenderClaim.read_of g.K.JsonWebKey g.K.KeyUse.JsonWebKeyUse in
    let first_token : option_copied c.as_ref.result ≡ first_of (access_tokens_in c.args.query.now) = cc in
    let first : option_copied c.as_ref-2.result ≡ first_of (codes_in c.args.query.now) = cc in
    rw c.of_signing-in-Err-code_fits.ensures
    (code_refused types c.args.verifier.now c.args.demanded c.args.token.now c.args.query.now _ first_token c.in-Ok.ensures.hash _ first c.in-Err-code_fits.refusal c.in-Err-code_fits.ensures.refused)

pub returns-clause-gives : goal.returns-clause-gives
returns-clause-gives g c =
    let types = site_types g.AC.AdditionalClaims.read_of g.GC.GenderClaim.read_of g.K.JsonWebKey g.K.KeyUse.JsonWebKeyUse in
    let first_token : option_copied c.as_ref.result ≡ first_of (access_tokens_in c.args.query.now) = cc in
    let first_code : option_copied c.as_ref-2.result ≡ first_of (codes_in c.args.query.now) = cc in
    fits_given types c.args.verifier.now c.args.demanded c.args.token.now c.args.query.now (option_copied c.as_ref.result) (option_copied c.as_ref-2.result) c.in-Ok.fits c.in-Ok-code_fits.fits
    (record {
      first_token = first_token;
      first_code = first_code;
      token_hash = c.in-Ok.ensures.hash;
      code_hash = c.in-Ok-code_fits.ensures.hash;
      token_other = c.in-Ok.ensures.fits;
      code_other = c.in-Ok-code_fits.ensures.fits;
    })
    c.checked_fits.result c.checked_fits.ensures.gives
