use Rattle.std.proofs.Common.{◌≡◌, ◌∙◌, None, Err, ap, subst}
use Rattle.std.specs.Borrow.{Bor}
use Rattle.oidc_id_token_claims.specs.IdTokenClaims.{SeenIdTokenClaims}
use Rattle.oidc_tokens.specs.Signatures.{meanings}
use Rattle.oidc_tokens.specs.Verification.{first_failure, Judges}
use Rattle.oidc_tokens.specs.Causes.{Cause}
use Rattle.oidc_tokens.proofs.Accepted.{accepts, accepted}
use Rattle.oidc_tokens.proofs.Causes.{failure_cause}
use Rattle.oidc_tokens.proofs.Judged.{memory_alone, of_failure, judges_as}
use Rattle.oidc_tokens.proofs.id_token.IdToken.claims.Goals as goal

pub returns-in-Ok : goal.returns-in-Ok
returns-in-Ok g c =
    let k = meanings g.K.JsonWebKey g.K.KeyUse.JsonWebKeyUse g.JS.JwsSigningAlgorithm g.JS.ClosedVocabulary g.JS.KeyType.ClosedVocabulary in
    let allows = g.N.NonceVerifier.allows c.args.nonce in
    let passed : first_failure k c.args.verifier.now allows c.args.now.nanosecond c.args.self.now ≡ None =
    subst (λ token. first_failure k c.args.verifier.now allows c.args.now.nanosecond token ≡ None) c.token-token.ensures.token c.in-Ok.ensures in
    record {
      judged = passed;
      accepted = accepts k c.args.verifier.now allows c.args.now.nanosecond c.args.self.now passed;
      refused = λ _. tt;
      claims = c.unverified_payload.ensures.payload ∙ ap (λ t. t.payload) c.token-token.ensures.token;
      cause = tt;
    }

pub returns : goal.returns
returns g c =
    let k = meanings g.K.JsonWebKey g.K.KeyUse.JsonWebKeyUse g.JS.JwsSigningAlgorithm g.JS.ClosedVocabulary g.JS.KeyType.ClosedVocabulary in
    let allows = g.N.NonceVerifier.allows c.args.nonce in
    let failure = first_failure k c.args.verifier.now allows c.args.now.nanosecond c.args.self.now in
    let judged : Judges {C = Unit {0}} failure (Err c.in-Err.refusal) =
    subst (λ token. Judges {C = Unit {0}} (first_failure k c.args.verifier.now allows c.args.now.nanosecond token) (Err c.in-Err.refusal)) c.token-token.ensures.token c.in-Err.ensures in
    record {
      judged = judges_as (Unit {0}) (Bor (SeenIdTokenClaims g.row.AC.Denot g.row.GC.Denot)) failure c.in-Err.refusal judged;
      accepted = tt;
      refused = λ a. memory_alone (Unit {0}) failure c.in-Err.refusal judged (accepted k c.args.verifier.now allows c.args.now.nanosecond c.args.self.now a);
      claims = tt;
      cause = of_failure (Unit {0}) (Cause k c.args.verifier.now allows c.args.now.nanosecond c.args.self.now) failure c.in-Err.refusal judged
          (λ e is. failure_cause k c.args.verifier.now allows c.args.now.nanosecond c.args.self.now e is) tt;
    }
