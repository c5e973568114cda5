use Rattle.std.proofs.Common.{◌∙◌, Some, None, arith}
use Rattle.std.proofs.lemmas.Str.Pattern.{strip_suffix_char}
use Rattle.oidc_discovery.proofs.Slashes.{slash_added, no_slash}
use Rattle.oidc_discovery.proofs.urls.lacks_slash.Goals as goal

pub returns-in-Some : goal.returns-in-Some
returns-in-Some c =
    c.eq.ensures
    ∙ slash_added c.in-Some.front.now c.args.text.now c.args.written.now
    (strip_suffix_char 0x2F c.args.written.now (Some c.in-Some.front) c.in-Some.ensures.cases (omega arith))

pub returns-in-None : goal.returns-in-None
returns-in-None c =
    no_slash c.args.text.now c.args.written.now
    (strip_suffix_char 0x2F c.args.written.now None c.in-None.ensures.cases (omega arith))
