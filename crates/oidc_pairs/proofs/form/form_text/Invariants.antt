use Rattle.std.proofs.Common.{◌≡◌, [], map, take}
use Rattle.std.specs.String.{string_bytes}
use Rattle.form_urlencoded.specs.Form.{extend_pairs, pair_text}
use Rattle.oidc_pairs.proofs.form.form_text.Given as goal

-- the pairs so far are written
abbrev pub invariant-loop-name : goal.invariant-loop-name
invariant-loop-name l = string_bytes l.text ≡ extend_pairs [] (map pair_text (take l.name-index l.list))
