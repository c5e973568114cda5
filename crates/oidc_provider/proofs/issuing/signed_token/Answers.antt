use Rattle.oidc_provider.specs.Issuing.{own_header}
use Rattle.oidc_provider.proofs.Signed.{never_unissued, named}
use Rattle.oidc_provider.proofs.issuing.signed_token.Goals as goal

pub unreachable-requires : goal.unreachable-requires
unreachable-requires g c =
    never_unissued c.args.key.now c.args.token.now c.args.claims own_header c.in-Err-SigningError.field-0 c.in-Err-SigningError.field-0-0
    c.in-Err-SigningError.field-0-is c.in-Err-SigningError.ensures.refused

pub returns-in-Ok-clause-usable : goal.returns-in-Ok-clause-usable
returns-in-Ok-clause-usable g c = record {
  text = c.token_is_utf8.ensures;
  reads_back = λ reading range. c.in-Ok.ensures.reads_back reading named range;
  accepted = λ v allows now expects. c.in-Ok.ensures.accepted v allows now expects;
}
