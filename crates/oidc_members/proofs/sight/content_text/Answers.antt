use Rattle.std.proofs.Common.{◌∙◌, sym}
use Rattle.oidc_members.proofs.PlainTexts.{plain_of_ascii, ascii_of_plain}
use Rattle.oidc_members.proofs.sight.content_text.Goals as goal

pub returns-then-is_plain_ascii-clause-plain : goal.returns-then-is_plain_ascii-clause-plain
returns-then-is_plain_ascii-clause-plain c = plain_of_ascii c.args.bytes.now (sym c.is_plain_ascii.ensures ∙ c.if-is_plain_ascii.true)

pub ascii_str-requires : goal.ascii_str-requires
ascii_str-requires c = ascii_of_plain c.args.bytes.now (sym c.is_plain_ascii.ensures ∙ c.if-is_plain_ascii.true)
