use Rattle.std.proofs.Common.{sym, subst, All}
use Rattle.std.proofs.lemmas.List.Elements.{All-nil}
use Rattle.oidc_readers.specs.WrittenBack.{IsUtf8Member}
use Rattle.oidc_id_token_claims.proofs.written_fields.own_members.Goals as goal

pub returns-clause-texts : goal.returns-clause-texts
returns-clause-texts c =
    c.in_ok-put_optional_text-5.ensures.texts
    (c.in_ok-put_optional_text-4.ensures.texts
    (c.in_ok-put_optional_text-3.ensures.texts
    (c.in_ok-put_texts-2.ensures.texts
    (c.in_ok-put_optional_text-2.ensures.texts
    (c.in_ok-put_optional_text.ensures.texts
    (c.in_ok-put_optional_moment-3.ensures.texts
    (c.in_ok-put_optional_moment-2.ensures.texts
    (c.in_ok-put_optional_moment.ensures.texts
    (c.in_ok-put_texts.ensures.texts
    (c.in_ok-put_text.ensures.texts (subst (All IsUtf8Member) (sym c.in_ok-out.ensures.items) (All-nil IsUtf8Member))))))))))))
