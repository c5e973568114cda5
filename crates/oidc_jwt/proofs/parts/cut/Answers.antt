use Rattle.std.proofs.Common.{◌≡◌, ◌==◌, false, Some, None, lit<}
use Rattle.std.proofs.lemmas.Bool.{ne_eqb}
use Rattle.std.proofs.lemmas.Str.Pattern.{split_parts, split_once_first}
use Rattle.std.proofs.lemmas.List.Elements.{All-from_get_or}
use Rattle.std.proofs.lemmas.List.Splits.{slice_split_none, slice_split_first}
use Rattle.oidc_jwt.proofs.parts.cut.Goals as goal

pub returns-in-Some : goal.returns-in-Some
returns-in-Some c =
    let parts = split_once_first 46 c.args.text.now (Some (c.in-Some.before, c.in-Some.after)) c.in-Some.ensures.cases (lit< tt) in
    rw (parts.1, parts.2) (slice_split_first (λ b. b == 46) c.args.text.now 0 parts.0)

pub returns-in-None : goal.returns-in-None
returns-in-None c =
    let lacks = split_parts 46 c.args.text.now None c.in-None.ensures.cases (lit< tt) in
    slice_split_none (λ b. b == 46) c.args.text.now (All-from_get_or (λ b. (b == 46) ≡ false) c.args.text.now 0 (λ i within. ne_eqb _ 46 (lacks i within)))
