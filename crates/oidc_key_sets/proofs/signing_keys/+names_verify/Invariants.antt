use Rattle.std.proofs.Common.{length}
use Rattle.oidc_key_sets.proofs.signing_keys.+names_verify.Given as goal

abbrev pub decreases-names_verify : goal.decreases-names_verify
decreases-names_verify l = length l.texts.now
