-- What the clauses of a call come from.
use Rattle.oidc_provider.proofs.Serving.{served_one, served_none}
use Rattle.oidc_provider.proofs.AnswerCauses.{has_cause, answers}

pub ruleset calls = (served_one, served_none, has_cause, answers)
