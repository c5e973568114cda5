use Rattle.std.proofs.Common.{sym, append-nil}
use Rattle.std.specs.String.{string_bytes}
use Rattle.oidc_cli.proofs.replay.push_step.Goals as goal

pub returns-in-Some-Client-clause-lines : goal.returns-in-Some-Client-clause-lines
returns-in-Some-Client-clause-lines c = rw (c.in-Some-Client.is, c.in-Some-Client.field-0-is) (sym (append-nil (string_bytes c.args.text.now)))
