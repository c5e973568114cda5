use Rattle.std.proofs.Common.{subst, sym, refl, codes, All}
use Rattle.std.specs.Str.{IsUtf8, is_utf8, chars}
use Rattle.std.proofs.lemmas.Str.{IsUtf8-from_is_utf8}
use Rattle.std.proofs.lemmas.List.Elements.{All-nil}
use Rattle.serde_json.specs.declared.value.Value.{String}
use Rattle.oidc_readers.specs.WrittenBack.{IsUtf8Member}
use Rattle.oidc_claims.proofs.Theorems.{utf8_pushed}
use Rattle.tests_of_tokens.proofs.tenant.TenantAdditionalClaims.write.Goals as goal

word_utf8 : IsUtf8 (codes "tenant")
unfolding is_utf8 chars lib.Utf8.encode
word_utf8 = IsUtf8-from_is_utf8 (codes "tenant") refl

pub returns-clause-texts : goal.returns-clause-texts
returns-clause-texts c =
    utf8_pushed _ _ _ (String c.in_ok-from_str.field-0) c.in_ok-push.ensures.items (subst IsUtf8 (sym c.of_word-name.ensures) word_utf8) refl
    (subst (All IsUtf8Member) (sym c.new-members.ensures.items) (All-nil IsUtf8Member))
