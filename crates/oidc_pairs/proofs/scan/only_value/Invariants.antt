use Rattle.std.proofs.Common.{◌≡◌, ◌++◌, length}
use Rattle.std.specs.Prelude.{option_map}
use Rattle.std.specs.Option.{option_copied}
use Rattle.form_urlencoded.specs.Form.{raw_pairs}
use Rattle.oidc_pairs.specs.Pairs.{text_of, values, values_in}
use Rattle.oidc_pairs.proofs.Decoded.{decoded}
use Rattle.oidc_pairs.proofs.Lookups.{list_of}
use Rattle.oidc_pairs.proofs.scan.only_value.Given as goal

-- the value that was found is the only one so far
abbrev pub invariant-loop-encoded : goal.invariant-loop-encoded
invariant-loop-encoded l =
    list_of (option_map text_of (option_copied l.found)) ++ values_in (decoded (raw_pairs l.rest)) l.name ≡ values l.text l.name

abbrev pub decreases-loop-encoded : goal.decreases-loop-encoded
decreases-loop-encoded l = length l.rest
