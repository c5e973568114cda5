use Rattle.std.proofs.Common.{◌∙◌, Err, sym, ap, subst, ⊎_elim}
use Rattle.std.specs.Borrow.{Bor}
use Rattle.oidc_id_token_claims.specs.IdTokenClaims.{SeenIdTokenClaims}
use Rattle.oidc_tokens.specs.Signatures.{meanings}
use Rattle.oidc_tokens.specs.Refreshed.{refreshed_failure, JudgesRefreshed}
use Rattle.oidc_tokens.specs.RefreshedCauses.{RefreshedCause}
use Rattle.oidc_tokens.proofs.RefreshedRows.{refreshed_accepts, refreshed_accepted}
use Rattle.oidc_tokens.proofs.RefreshedWhy.{refreshed_why}
use Rattle.oidc_tokens.proofs.RefreshedJudged.{said, as_rows, nothing_else}
use Rattle.oidc_tokens.proofs.id_token.IdToken.refreshed_claims.Goals as goal

pub returns-in-Ok : goal.returns-in-Ok
returns-in-Ok g c =
    let k = meanings g.K.JsonWebKey g.K.KeyUse.JsonWebKeyUse g.JS.JwsSigningAlgorithm g.JS.ClosedVocabulary g.JS.KeyType.ClosedVocabulary in
    record {
      judged = c.in-Ok.ensures;
      accepted = refreshed_accepts k c.args.verifier.now c.args.now.nanosecond c.args.first.now c.args.access_token.now c.args.self.now c.in-Ok.ensures;
      refused = λ _. tt;
      claims = c.unverified_payload.ensures.payload ∙ ap (λ t. t.payload) c.token.ensures.token;
      cause = tt;
    }

pub returns-in-Err : goal.returns-in-Err
returns-in-Err g c =
    let k = meanings g.K.JsonWebKey g.K.KeyUse.JsonWebKeyUse g.JS.JwsSigningAlgorithm g.JS.ClosedVocabulary g.JS.KeyType.ClosedVocabulary in
    let v = c.args.verifier.now in
    let now = c.args.now.nanosecond in
    let first = c.args.first.now in
    let access_token = c.args.access_token.now in
    let token = c.args.self.now in
    let failure = refreshed_failure k v now first access_token token in
    let e = c.in-Err.refusal in
    let judged : JudgesRefreshed {C = Unit {0}} failure (Err e) = c.in-Err.ensures in
    record {
      judged = as_rows (Unit {0}) (Bor (SeenIdTokenClaims g.row.AC.Denot g.row.GC.Denot)) failure failure e (λ is. is) judged;
      accepted = tt;
      refused = λ a. nothing_else (Unit {0}) failure e judged (refreshed_accepted k v now first access_token token a);
      claims = tt;
      cause = ⊎_elim (λ memory. subst (λ e. RefreshedCause k v now first access_token token e) (sym memory) tt)
          (λ is. refreshed_why k v now first access_token token e is) (said (Unit {0}) failure e judged);
    }
