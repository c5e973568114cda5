use Rattle.oidc_login.specs.Types.{site_types}
use Rattle.oidc_login.proofs.Answers.{tokens_given, refusal_given, no_fault_given, of_token_spent}
use Rattle.oidc_login.proofs.callback.token.tokens_of.Goals as goal

pub returns-in-Ok-clause-gives : goal.returns-in-Ok-clause-gives
returns-in-Ok-clause-gives g c = tokens_given _ _ _ _ c.in-Ok.ensures.answer

pub returns-in-Err-clause-gives : goal.returns-in-Err-clause-gives
returns-in-Err-clause-gives g c = rw c.of_token.ensures (refusal_given _ _ _ _ c.in-Err.ensures.answer)

pub returns-in-Err-clause-no_fault : goal.returns-in-Err-clause-no_fault
returns-in-Err-clause-no_fault g c =
    let types = site_types g.AC.AdditionalClaims.read_of g.GC.GenderClaim.read_of g.K.JsonWebKey g.K.KeyUse.JsonWebKeyUse in
    rw c.of_token.ensures (no_fault_given types _ _ _ c.in-Err.ensures.answer)

pub returns-in-Err-clause-spent : goal.returns-in-Err-clause-spent
returns-in-Err-clause-spent g c = rw c.of_token.ensures (of_token_spent _)
