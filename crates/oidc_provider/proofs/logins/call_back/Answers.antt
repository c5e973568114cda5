use Rattle.oidc_provider.proofs.SignsIn.{called_back, where_idle}
use Rattle.oidc_provider.proofs.logins.call_back.Goals as goal

pub returns-clause-signs_in : goal.returns-clause-signs_in
returns-clause-signs_in g c = λ t h is.
    called_back g.AC.AdditionalClaims.read_of g.GC.GenderClaim.read_of g.AC.AdditionalClaims.write_of g.GC.GenderClaim.write_of _ _ t _ h
    _ _ c.as_bytes.ensures.value is _ _ c.callback.ensures.ran

pub returns-clause-idle : goal.returns-clause-idle
returns-clause-idle g c = where_idle _ _ _ _ c.as_bytes.ensures.value c.callback.ensures.idle
