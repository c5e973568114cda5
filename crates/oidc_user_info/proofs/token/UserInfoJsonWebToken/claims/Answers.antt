use Rattle.std.proofs.Common.{◌≡◌, ap, subst, sym, ◌∙◌, None}
use Rattle.std.specs.Prelude.{Err}
use Rattle.oidc_tokens.specs.Signatures.{meanings}
use Rattle.oidc_tokens.specs.Verification.{Judges}
use Rattle.oidc_tokens.specs.UserInfoVerification.{AcceptsInfo, first_info_failure, parties}
use Rattle.oidc_tokens.specs.UserInfoCauses.{InfoTokenCause}
use Rattle.oidc_tokens.proofs.Theorems.{info_accepts, info_accepted, info_failure_cause, memory_alone, of_failure}
use Rattle.oidc_user_info.specs.UserInfoClaims.{parties_of}
use Rattle.oidc_user_info.proofs.token.UserInfoJsonWebToken.claims.Goals as goal

pub returns-in-Ok-clause-accepted : goal.returns-in-Ok-clause-accepted
returns-in-Ok-clause-accepted g c =
    let k = meanings g.K.JsonWebKey g.K.KeyUse.JsonWebKeyUse g.JS.JwsSigningAlgorithm g.JS.ClosedVocabulary g.JS.KeyType.ClosedVocabulary in
    let token = c.self.inside.token in
    let whole : token ≡ c.args.self = cc (c.self.view_is) in
    let said = token.payload in
    let subject : c.subject-subject.result.now ≡ said.standard_claims.subject = c.subject-subject.ensures ∙ ap (λ p. p.standard_claims.subject) c.unverified_payload.ensures.payload in
    subst (λ t. AcceptsInfo k c.args.verifier.now t (parties_of t.payload)) whole
    (info_accepts k c.args.verifier.now token (parties_of said) (subst (λ s. first_info_failure k c.args.verifier.now token (parties said.issuer said.audiences s) ≡ None) subject c.in-Ok.ensures.judged))

pub returns-in-Err-clause-refused : goal.returns-in-Err-clause-refused
returns-in-Err-clause-refused g c = λ accepts.
    let k = meanings g.K.JsonWebKey g.K.KeyUse.JsonWebKeyUse g.JS.JwsSigningAlgorithm g.JS.ClosedVocabulary g.JS.KeyType.ClosedVocabulary in
    let token = c.self.inside.token in
    let whole : token ≡ c.args.self = cc (c.self.view_is) in
    let said = token.payload in
    let subject : c.subject-subject.result.now ≡ said.standard_claims.subject = c.subject-subject.ensures ∙ ap (λ p. p.standard_claims.subject) c.unverified_payload.ensures.payload in
    memory_alone (Unit {0}) (first_info_failure k c.args.verifier.now token (parties_of said)) c.in-Err.refusal
    (subst (λ s. Judges {C = Unit {0}} (first_info_failure k c.args.verifier.now token (parties said.issuer said.audiences s)) (Err c.in-Err.refusal)) subject c.in-Err.ensures.judged)
    (info_accepted k c.args.verifier.now token (parties_of said) (subst (λ t. AcceptsInfo k c.args.verifier.now t (parties_of t.payload)) (sym whole) accepts))

pub returns-in-Err-clause-cause : goal.returns-in-Err-clause-cause
returns-in-Err-clause-cause g c =
    let k = meanings g.K.JsonWebKey g.K.KeyUse.JsonWebKeyUse g.JS.JwsSigningAlgorithm g.JS.ClosedVocabulary g.JS.KeyType.ClosedVocabulary in
    let token = c.self.inside.token in
    let whole : token ≡ c.args.self = cc (c.self.view_is) in
    let said = token.payload in
    let subject : c.subject-subject.result.now ≡ said.standard_claims.subject = c.subject-subject.ensures ∙ ap (λ p. p.standard_claims.subject) c.unverified_payload.ensures.payload in
    subst (λ t. InfoTokenCause k c.args.verifier.now t (parties_of t.payload) c.in-Err.refusal) whole
    (of_failure (Unit {0}) (InfoTokenCause k c.args.verifier.now token (parties_of said)) (first_info_failure k c.args.verifier.now token (parties_of said)) c.in-Err.refusal
    (subst (λ s. Judges {C = Unit {0}} (first_info_failure k c.args.verifier.now token (parties said.issuer said.audiences s)) (Err c.in-Err.refusal)) subject c.in-Err.ensures.judged)
    (λ e is. info_failure_cause k c.args.verifier.now token (parties_of said) e is) tt)
