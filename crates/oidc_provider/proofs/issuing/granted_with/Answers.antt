use Rattle.oidc_provider.proofs.Made.{granted_of}
use Rattle.oidc_provider.proofs.issuing.granted_with.Goals as goal

pub returns-in-Ok-own_of : goal.returns-in-Ok-own_of
returns-in-Ok-own_of g c =
    let own = c.in-Ok-own_of in
    granted_of g.AC.AdditionalClaims.read_of g.GC.GenderClaim.read_of g.AC.AdditionalClaims.write_of g.GC.GenderClaim.write_of c.args.settings.now c.args.client.now own.own c.args.login own.own.audiences.items
    c.args.given.0 c.args.given.1 c.args.claims c.args.user_info.now c.in-Ok.info_body.items own.ensures.issuer own.ensures.audiences own.ensures.key
    own.ensures.client own.ensures.redirect c.in-Ok.ensures.text c.in-Ok.ensures.reads_back own.ensures.id_text own.ensures.secret_text own.ensures.redirect_text
    c.grant_of.result c.grant_of.ensures
