use Rattle.oidc_rsa.proofs.ProviderVerdicts.{verdict_meant}
use Rattle.oidc_rsa.proofs.provider_key.ProviderKeyJsonWebKey.verify_signature.Goals as goal

-- each refusal, and none, is that of the verdict
pub returns-clause-invalid_key : goal.returns-clause-invalid_key
returns-clause-invalid_key c = rw (c.judge.ensures) (verdict_meant c.args.self.now c.args.alg.now c.args.message.now c.args.signature.now).invalid_key

pub returns-clause-unsupported_alg : goal.returns-clause-unsupported_alg
returns-clause-unsupported_alg c = rw (c.judge.ensures) (verdict_meant c.args.self.now c.args.alg.now c.args.message.now c.args.signature.now).unsupported_alg

pub returns-clause-crypto_error : goal.returns-clause-crypto_error
returns-clause-crypto_error c = rw (c.judge.ensures) (verdict_meant c.args.self.now c.args.alg.now c.args.message.now c.args.signature.now).crypto_error

pub returns-clause-ok : goal.returns-clause-ok
returns-clause-ok c = rw (c.judge.ensures) (verdict_meant c.args.self.now c.args.alg.now c.args.message.now c.args.signature.now).ok
