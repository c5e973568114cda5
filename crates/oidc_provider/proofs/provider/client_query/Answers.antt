use Rattle.oidc_provider.specs.Steps.{asked_by}
use Rattle.oidc_provider.proofs.Authorized.{new_of, login_refused, login_replied, login_kept}
use Rattle.oidc_provider.proofs.provider.client_query.Goals as goal

pub granted_query-requires-clause-code : goal.granted_query-requires-clause-code
granted_query-requires-clause-code g c =
    (new_of c.args.grants.now c.args.client.now
    (asked_by c.args.query.now c.args.claims.0.standard_claims.subject c.args.claims.1.standard_claims.subject c.args.given.0 c.args.given.1)
    c.in-Ok.login c.in-Ok.ensures).0

pub granted_query-requires-clause-token : goal.granted_query-requires-clause-token
granted_query-requires-clause-token g c =
    (new_of c.args.grants.now c.args.client.now
    (asked_by c.args.query.now c.args.claims.0.standard_claims.subject c.args.claims.1.standard_claims.subject c.args.given.0 c.args.given.1)
    c.in-Ok.login c.in-Ok.ensures).1

pub returns-in-Ok-clause-reply : goal.returns-in-Ok-clause-reply
returns-in-Ok-clause-reply g c =
    login_replied c.args.grants.now c.args.client.now
    (asked_by c.args.query.now c.args.claims.0.standard_claims.subject c.args.claims.1.standard_claims.subject c.args.given.0 c.args.given.1)
    c.in-Ok.login c.in-Ok.ensures
    c.granted_query.result _ c.or_memory.ensures c.granted_query.ensures.query

pub returns-in-Ok-clause-kept : goal.returns-in-Ok-clause-kept
returns-in-Ok-clause-kept g c =
    login_kept c.args.grants.now c.args.client.now
    (asked_by c.args.query.now c.args.claims.0.standard_claims.subject c.args.claims.1.standard_claims.subject c.args.given.0 c.args.given.1)
    c.in-Ok.login c.in-Ok.ensures
    c.granted_query.result g.AC.AdditionalClaims.read_of g.GC.GenderClaim.read_of g.AC.AdditionalClaims.write_of g.GC.GenderClaim.write_of
    c.args.settings.now c.args.claims.0 c.args.claims.1 _ _ c.or_memory.ensures c.granted_query.ensures.kept

pub returns-in-Err-clause-reply : goal.returns-in-Err-clause-reply
returns-in-Err-clause-reply g c =
    login_refused c.args.grants.now c.args.client.now
    (asked_by c.args.query.now c.args.claims.0.standard_claims.subject c.args.claims.1.standard_claims.subject c.args.given.0 c.args.given.1)
    c.in-Err.refusal c.in-Err.ensures
