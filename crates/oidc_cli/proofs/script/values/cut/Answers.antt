use Rattle.std.proofs.Common.{◌≡◌, ◌==◌, false, Some, None, lit<}
use Rattle.std.proofs.lemmas.Bool.{ne_eqb}
use Rattle.std.proofs.lemmas.Str.Pattern.{split_parts, split_once_first}
use Rattle.std.proofs.lemmas.List.Elements.{All-from_get_or}
use Rattle.std.proofs.lemmas.List.Splits.{slice_split_none, slice_split_first}
use Rattle.oidc_cli.proofs.script.values.cut.Goals as goal

pub returns-in-Some-clause-words : goal.returns-in-Some-clause-words
returns-in-Some-clause-words c =
    let parts = split_once_first 32 c.args.text.now (Some (c.in-Some.word, c.in-Some.later)) c.in-Some.ensures.cases (lit< tt) in
    rw (parts.1, parts.2) (slice_split_first (λ b. b == 32) c.args.text.now 0 parts.0)

pub returns-in-None-clause-words : goal.returns-in-None-clause-words
returns-in-None-clause-words c =
    let lacks = split_parts 32 c.args.text.now None c.in-None.ensures.cases (lit< tt) in
    slice_split_none (λ b. b == 32) c.args.text.now (All-from_get_or (λ b. (b == 32) ≡ false) c.args.text.now 0 (λ i within. ne_eqb _ 32 (lacks i within)))
