use Rattle.oidc_tokens.specs.Signatures.{meanings}
use Rattle.oidc_tokens.proofs.RefreshedRows.{refreshed_fails_unless_accepted}
use Rattle.oidc_tokens.proofs.laws.refreshed_accepted_where_no_check_fails.Goals as goal

pub returns : goal.returns
returns g c =
    refreshed_fails_unless_accepted
    (meanings g.K.JsonWebKey g.K.KeyUse.JsonWebKeyUse g.K.SigningAlgorithm.JwsSigningAlgorithm g.K.SigningAlgorithm.ClosedVocabulary g.K.SigningAlgorithm.KeyType.ClosedVocabulary)
