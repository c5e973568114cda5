use Rattle.std.proofs.Common.{All, subst, sym}
use Rattle.oidc_readers.specs.WrittenBack.{IsUtf8Member}
use Rattle.std.proofs.lemmas.List.Elements.{All-nil}
use Rattle.oidc_user_info.proofs.claims.issuer_and_audience_members.Goals as goal

pub returns-clause-texts : goal.returns-clause-texts
returns-clause-texts c = c.in_ok-put_texts.ensures.texts (c.in_ok-put_optional_text.ensures.texts (subst (All IsUtf8Member) (sym c.in_ok-out.ensures.items) (All-nil IsUtf8Member)))
