use Rattle.std.proofs.Common.{◌∙◌, ◌≡◌}
use Rattle.std.specs.String.{string_bytes}
use Rattle.oidc_cli.proofs.Passing.{all_put}
use Rattle.oidc_cli.proofs.replay.put_block.Goals as goal

pub returns-clause-part : goal.returns-clause-part
returns-clause-part g c =
    let piece : c.as_bytes.result.now ≡ string_bytes c.args.text.now = c.as_bytes.ensures.value ∙ c.as_str.ensures.value in
    rw c.clear.ensures.bytes (all_put _ _ _ (rw piece at c.in_ok-put.ensures.puts))
