use Rattle.std.proofs.Common.{◌≡◌, None, Err, option_map, ap, subst}
use Rattle.oidc_tokens.specs.declared.refreshed.RefreshedClaimsError.TheVariants.{Claims}
use Rattle.oidc_tokens.specs.Signatures.{meanings}
use Rattle.oidc_tokens.specs.Verification.{first_failure, Judges}
use Rattle.oidc_tokens.specs.Refreshed.{any_nonce}
use Rattle.oidc_tokens.proofs.RefreshedJudged.{of_checks}
use Rattle.oidc_tokens.proofs.refreshed.check_token.Goals as goal

pub returns-in-Ok : goal.returns-in-Ok
returns-in-Ok g c =
    let k = meanings g.K.JsonWebKey g.K.KeyUse.JsonWebKeyUse g.JS.JwsSigningAlgorithm g.JS.ClosedVocabulary g.JS.KeyType.ClosedVocabulary in
    ap (option_map Claims) (subst (λ token. first_failure k c.args.verifier.now any_nonce c.args.now.nanosecond token ≡ None) c.token.ensures.token c.in-Ok.ensures)

pub returns-in-Err : goal.returns-in-Err
returns-in-Err g c =
    let k = meanings g.K.JsonWebKey g.K.KeyUse.JsonWebKeyUse g.JS.JwsSigningAlgorithm g.JS.ClosedVocabulary g.JS.KeyType.ClosedVocabulary in
    let failure = first_failure k c.args.verifier.now any_nonce c.args.now.nanosecond c.args.token.now in
    let judged : Judges {C = Unit {0}} failure (Err c.in-Err.refusal) =
    subst (λ token. Judges {C = Unit {0}} (first_failure k c.args.verifier.now any_nonce c.args.now.nanosecond token) (Err c.in-Err.refusal)) c.token.ensures.token c.in-Err.ensures in
    rw c.of_check.ensures (of_checks (Unit {0}) (Unit {0}) failure c.in-Err.refusal judged)
