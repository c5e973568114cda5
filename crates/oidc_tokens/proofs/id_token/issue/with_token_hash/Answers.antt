use Rattle.std.proofs.Common.{ap}
use Rattle.std.specs.Option.{option_copied}
use Rattle.oidc_tokens.specs.Hashes.{hashing}
use Rattle.oidc_tokens.proofs.IssuedClaims.{token_refused}
use Rattle.oidc_tokens.proofs.id_token.issue.with_token_hash.Goals as goal

pub returns-in-Err : goal.returns-in-Err
returns-in-Err g c =
    token_refused (hashing (g.K.SigningAlgorithm.ClosedVocabulary.as_ref c.args.alg.now) (g.K.JsonWebKey.hash_of c.args.key.now c.args.alg.now)) c.args.claims c.in-Err.refusal (option_copied c.args.access_token)
    c.in-Some.token.now (ap option_copied c.in-Some.is) c.in-Err.ensures.hash
