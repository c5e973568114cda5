use Rattle.std.proofs.Common.{◌≡◌, ◌∙◌, None, Err, ap, subst}
use Rattle.oidc_tokens.specs.Signatures.{meanings}
use Rattle.oidc_tokens.specs.Refreshed.{sign_in_failure, JudgesRefreshed}
use Rattle.oidc_tokens.proofs.RefreshedJudged.{by_checks, by_sign_in, by_hash}
use Rattle.oidc_tokens.proofs.refreshed.check_refreshed.Goals as goal

pub returns-in-Err : goal.returns-in-Err
returns-in-Err g c =
    let k = meanings g.K.JsonWebKey g.K.KeyUse.JsonWebKeyUse g.JS.JwsSigningAlgorithm g.JS.ClosedVocabulary g.JS.KeyType.ClosedVocabulary in
    by_checks k c.args.verifier.now c.args.now.nanosecond c.args.first.now c.args.access_token.now c.args.token.now (Unit {0}) (Unit {0}) c.in-Err.refusal c.in-Err.ensures

pub returns-in-Err-check_sign_in : goal.returns-in-Err-check_sign_in
returns-in-Err-check_sign_in g c =
    let k = meanings g.K.JsonWebKey g.K.KeyUse.JsonWebKeyUse g.JS.JwsSigningAlgorithm g.JS.ClosedVocabulary g.JS.KeyType.ClosedVocabulary in
    let new : c.unverified_payload.result.now ≡ c.args.token.now.payload = c.unverified_payload.ensures.payload ∙ ap (λ t. t.payload) c.token.ensures.token in
    by_sign_in k c.args.verifier.now c.args.now.nanosecond c.args.first.now c.args.access_token.now c.args.token.now (Unit {0}) (Unit {0}) c.in-Err-check_sign_in.refusal
    c.in-Ok.ensures (subst (λ p. JudgesRefreshed {C = Unit {0}} (sign_in_failure c.args.first.now p) (Err c.in-Err-check_sign_in.refusal)) new c.in-Err-check_sign_in.ensures)

pub returns : goal.returns
returns g c =
    let k = meanings g.K.JsonWebKey g.K.KeyUse.JsonWebKeyUse g.JS.JwsSigningAlgorithm g.JS.ClosedVocabulary g.JS.KeyType.ClosedVocabulary in
    let new : c.unverified_payload.result.now ≡ c.args.token.now.payload = c.unverified_payload.ensures.payload ∙ ap (λ t. t.payload) c.token.ensures.token in
    by_hash k c.args.verifier.now c.args.now.nanosecond c.args.first.now c.args.access_token.now c.args.token.now (Unit {0}) c.check_hash.result
    c.in-Ok.ensures (subst (λ p. sign_in_failure c.args.first.now p ≡ None) new c.in-Ok-check_sign_in.ensures) c.check_hash.ensures
