use Rattle.std.proofs.Common.{ap}
use Rattle.std.specs.Option.{option_copied}
use Rattle.oidc_tokens.specs.Hashes.{hashing}
use Rattle.oidc_tokens.proofs.IssuedClaims.{code_refused}
use Rattle.oidc_tokens.proofs.id_token.issue.with_code_hash.Goals as goal

pub returns-in-Err : goal.returns-in-Err
returns-in-Err g c =
    code_refused (hashing (g.K.SigningAlgorithm.ClosedVocabulary.as_ref c.args.alg.now) (g.K.JsonWebKey.hash_of c.args.key.now c.args.alg.now)) c.args.claims c.in-Err.refusal (option_copied c.args.code)
    c.in-Some.code.now (ap option_copied c.in-Some.is) c.in-Err.ensures.hash
