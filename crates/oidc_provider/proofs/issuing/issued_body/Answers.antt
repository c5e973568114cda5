use Rattle.oidc_provider.proofs.Made.{issued_of}
use Rattle.oidc_provider.proofs.issuing.issued_body.Goals as goal

pub returns-in-Ok-clone_in : goal.returns-in-Ok-clone_in
returns-in-Ok-clone_in g c =
    issued_of g.AC.AdditionalClaims.read_of g.GC.GenderClaim.read_of g.AC.AdditionalClaims.write_of g.GC.GenderClaim.write_of (λ body. body.items) c.args.key.now c.args.token.now c.in-Ok-clone_in.token c.args.claims
    c.in-Ok.id_token c.token_body.result c.in-Ok.ensures.issued c.in-Ok.ensures.usable c.in-Ok-clone_in.ensures.copy c.secret_is_utf8.ensures c.token_body.ensures
