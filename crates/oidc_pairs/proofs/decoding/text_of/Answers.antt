use Rattle.std.proofs.Common.{◌≡◌, ◌∙◌, IfOk, refl, sym, subst}
use Rattle.std.specs.Cow.{cow_str_bytes}
use Rattle.std.specs.Str.Lossy.{utf8_lossy}
use Rattle.oidc_pairs.proofs.DecodedBytes.{plain_decodes}
use Rattle.oidc_pairs.proofs.PlainTexts.{plain_ascii, plain_text}
use Rattle.oidc_pairs.proofs.decoding.text_of.Goals as goal

pub returns-in-None : goal.returns-in-None
returns-in-None c =
    let read = c.decode_utf8_lossy-in-None in
    subst (λ bytes. IfOk read.result (λ text. cow_str_bytes text ≡ utf8_lossy bytes)) (sym (plain_decodes c.args.encoded.now c.in-None.ensures)) read.ensures.exact

pub ascii_str-requires : goal.ascii_str-requires
ascii_str-requires c = plain_ascii _ (c.if-is_short_and_plain.ensures.plain refl)

pub returns-then-is_short_and_plain : goal.returns-then-is_short_and_plain
returns-then-is_short_and_plain c = c.ascii_str.ensures ∙ plain_text _ (c.if-is_short_and_plain.ensures.plain refl)
