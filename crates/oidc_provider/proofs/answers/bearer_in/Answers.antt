use Rattle.std.proofs.Common.{refl}
use Rattle.std.proofs.lemmas.Bool.{false≢true}
use Rattle.oidc_provider.proofs.Bearers.{bearer_read, no_bearer}
use Rattle.oidc_provider.proofs.answers.bearer_in.Goals as goal

pub returns-in-Ok : goal.returns-in-Ok
returns-in-Ok c =
    bearer_read c.args.credentials.now.bytes c.in-Ok.text.now c.strip_prefix.result c.in-Ok.ensures.ok (c.in-Ok.ensures.succeeds.0 refl) c.strip_prefix.ensures.cases

pub returns-in-Err : goal.returns-in-Err
returns-in-Err c = no_bearer c.args.credentials.now.bytes (λ seen. false≢true (c.in-Err.ensures.succeeds.1 seen))
