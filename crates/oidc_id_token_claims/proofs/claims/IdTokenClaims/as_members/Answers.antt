use Rattle.std.proofs.Common.{sym, subst, All}
use Rattle.std.proofs.lemmas.List.Elements.{All-append}
use Rattle.oidc_readers.specs.WrittenBack.{IsUtf8Member}
use Rattle.oidc_id_token_claims.proofs.claims.IdTokenClaims.as_members.Goals as goal

pub returns-clause-texts : goal.returns-clause-texts
returns-clause-texts g c =
    subst (All IsUtf8Member) (sym c.in_ok-append-2.ensures.items)
    (All-append IsUtf8Member _ _
    (subst (All IsUtf8Member) (sym c.in_ok-append.ensures.items) (All-append IsUtf8Member _ _ c.in_ok-out.ensures.texts c.in_ok-standard.ensures.texts)) c.in_ok-additional.ensures.texts)
