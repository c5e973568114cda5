use Rattle.std.proofs.Common.{◌≡◌, drop, filter}
use Rattle.std.specs.Option.{option_copied}
use Rattle.oidc_tokens.specs.Signatures.{meanings, fits, the_one}
use Rattle.oidc_tokens.proofs.Found.{found_first}
use Rattle.oidc_tokens.proofs.verification.keys.find.Given as goal

abbrev pub invariant-loop-key : goal.invariant-loop-key
invariant-loop-key g l =
    let k = meanings g.K.JsonWebKey g.K.KeyUse.JsonWebKeyUse g.K.SigningAlgorithm.JwsSigningAlgorithm g.K.SigningAlgorithm.ClosedVocabulary g.K.SigningAlgorithm.KeyType.ClosedVocabulary in
    let p = fits k l.alg (option_copied l.kid)
    in the_one (found_first (option_copied l.found) (filter p (drop l.key-index l.keys))) ≡ the_one (filter p l.keys)
