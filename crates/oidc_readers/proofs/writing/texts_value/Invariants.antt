use Rattle.std.proofs.Common.{◌≡◌, take, map}
use Rattle.serde_json.specs.Data.{string}
use Rattle.serde_json.specs.View.{view}
use Rattle.oidc_readers.proofs.writing.texts_value.Given as goal

-- the texts so far are values
abbrev pub invariant-loop-text : goal.invariant-loop-text
invariant-loop-text g l = map view l.values.items ≡ map string (take l.text-index l.texts)
