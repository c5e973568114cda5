use Rattle.oidc_key_sets.proofs.Objects.{object_value}
use Rattle.oidc_key_sets.proofs.writing.object.Goals as goal

pub returns : goal.returns
returns c = object_value c.args.members
