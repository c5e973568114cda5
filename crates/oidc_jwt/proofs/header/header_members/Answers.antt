use Rattle.std.proofs.Common.{sym, subst, All}
use Rattle.std.proofs.lemmas.List.Elements.{All-nil}
use Rattle.oidc_readers.specs.WrittenBack.{IsUtf8Member}
use Rattle.oidc_jwt.proofs.header.header_members.Goals as goal

pub returns-clause-texts : goal.returns-clause-texts
returns-clause-texts c =
    c.in_ok-put_optional_text.ensures.texts (c.in_ok-put_text.ensures.texts (subst (All IsUtf8Member) (sym c.new-members.ensures.items) (All-nil IsUtf8Member)))
