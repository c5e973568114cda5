use Rattle.std.proofs.Common.{refl, subst}
use Rattle.std.specs.Str.{IsUtf8}
use Rattle.oidc_readers.proofs.Utf8.{utf8_pushed}
use Rattle.oidc_readers.proofs.writing.put.Goals as goal

pub returns-clause-texts : goal.returns-clause-texts
returns-clause-texts c = utf8_pushed _ _ _ c.args.value c.in_ok-push.ensures.items (subst IsUtf8 c.as_str-text.ensures c.as_str-text.utf8) refl
