use Rattle.oidc_login.specs.Types.{site_types}
use Rattle.oidc_login.proofs.Drives as drives
use Rattle.oidc_login.proofs.callback.demand_reply.Goals as goal

pub returns-in-None-clause-follows : goal.returns-in-None-clause-follows
returns-in-None-clause-follows g c =
    let types = site_types g.AC.AdditionalClaims.read_of g.GC.GenderClaim.read_of g.K.JsonWebKey g.K.KeyUse.JsonWebKeyUse in
    rw c.in-None.is (drives.info_undemanded types c.args.client.now _ _)

pub returns-in-Ok-clause-follows : goal.returns-in-Ok-clause-follows
returns-in-Ok-clause-follows g c =
    let types = site_types g.AC.AdditionalClaims.read_of g.GC.GenderClaim.read_of g.K.JsonWebKey g.K.KeyUse.JsonWebKeyUse in
    rw c.in-Some.is (drives.info_asked types _ _ _ _ _ _ _ c.in-Ok.ensures.gives c.prepared_reply.ensures.follows)

pub returns-in-Err-clause-follows : goal.returns-in-Err-clause-follows
returns-in-Err-clause-follows g c =
    let types = site_types g.AC.AdditionalClaims.read_of g.GC.GenderClaim.read_of g.K.JsonWebKey g.K.KeyUse.JsonWebKeyUse in
    rw c.in-Some.is (drives.info_refused types _ _ _ _ _ c.in-Err.ensures.gives)
