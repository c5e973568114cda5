use Rattle.oidc_provider.proofs.Queries.{named}
use Rattle.oidc_provider.proofs.provider.query_of_grant.Goals as goal

pub returns-clause-named : goal.returns-clause-named
returns-clause-named c = named c.args.code.now c.args.state.now c.utf8.code c.utf8.state c.written_query.result c.written_query.ensures
