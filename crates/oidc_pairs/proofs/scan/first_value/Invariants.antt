use Rattle.std.proofs.Common.{◌≡◌, length}
use Rattle.form_urlencoded.specs.Form.{raw_pairs}
use Rattle.oidc_pairs.specs.Pairs.{values, values_in}
use Rattle.oidc_pairs.proofs.Decoded.{decoded}
use Rattle.oidc_pairs.proofs.scan.first_value.Given as goal

-- no pair so far has the name
abbrev pub invariant-loop-encoded : goal.invariant-loop-encoded
invariant-loop-encoded l = values_in (decoded (raw_pairs l.rest)) l.name ≡ values l.text l.name

abbrev pub decreases-loop-encoded : goal.decreases-loop-encoded
decreases-loop-encoded l = length l.rest
