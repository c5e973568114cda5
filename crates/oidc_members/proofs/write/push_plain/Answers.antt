use Rattle.std.proofs.Common.{arith}
use Rattle.std.proofs.lemmas.Grind.{common_steps}
use Rattle.oidc_members.proofs.PlainTexts.{plain_written}
use Rattle.oidc_members.proofs.write.push_plain.Goals as goal

pub returns : goal.returns
returns c =
    let is = plain_written c.args.text.now c.requires in
    grind (arith, common_steps)
