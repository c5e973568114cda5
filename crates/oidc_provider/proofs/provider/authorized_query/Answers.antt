use Rattle.std.proofs.Common.{sym}
use Rattle.oidc_provider.specs.Rows.{provider_of}
use Rattle.oidc_provider.specs.Steps.{asked_by}
use Rattle.oidc_provider.proofs.Authorized.{none_replied, client_replied, client_kept}
use Rattle.oidc_provider.proofs.provider.authorized_query.Goals as goal

pub returns-in-Some-clause-reply : goal.returns-in-Some-clause-reply
returns-in-Some-clause-reply g c =
    client_replied (provider_of c.args.settings.now c.args.registrations.now c.args.grants.now)
    (asked_by c.args.query.now c.args.claims.0.standard_claims.subject c.args.claims.1.standard_claims.subject c.args.given.0 c.args.given.1)
    c.in-Some.client.now (sym c.in-Some.ensures) _ c.client_query.ensures.reply

pub returns-in-Some-clause-kept : goal.returns-in-Some-clause-kept
returns-in-Some-clause-kept g c =
    client_kept (provider_of c.args.settings.now c.args.registrations.now c.args.grants.now)
    (asked_by c.args.query.now c.args.claims.0.standard_claims.subject c.args.claims.1.standard_claims.subject c.args.given.0 c.args.given.1)
    c.in-Some.client.now (sym c.in-Some.ensures) g.AC.AdditionalClaims.read_of g.GC.GenderClaim.read_of g.AC.AdditionalClaims.write_of g.GC.GenderClaim.write_of
    c.args.claims.0 c.args.claims.1 _ _ c.client_query.ensures.kept

pub returns-in-None-clause-reply : goal.returns-in-None-clause-reply
returns-in-None-clause-reply g c =
    none_replied (provider_of c.args.settings.now c.args.registrations.now c.args.grants.now)
    (asked_by c.args.query.now c.args.claims.0.standard_claims.subject c.args.claims.1.standard_claims.subject c.args.given.0 c.args.given.1)
    (sym c.in-None.ensures)
