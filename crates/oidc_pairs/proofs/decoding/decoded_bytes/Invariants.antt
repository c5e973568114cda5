use Rattle.std.proofs.Common.{◌≡◌, ◌++◌, length}
use Rattle.form_urlencoded.specs.Form.{decode}
use Rattle.oidc_pairs.proofs.decoding.decoded_bytes.Given as goal

abbrev pub invariant-loop-rest : goal.invariant-loop-rest
invariant-loop-rest l = l.bytes.items ++ decode l.rest ≡ decode l.encoded

abbrev pub decreases-loop-rest : goal.decreases-loop-rest
decreases-loop-rest l = length l.rest
