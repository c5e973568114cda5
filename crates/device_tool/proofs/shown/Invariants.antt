-- What is shown of the bytes so far.
use Rattle.std.proofs.Common.{◌≡◌, take}
use Rattle.std.specs.String.{string_bytes}
use Rattle.std.specs.List.{filter}
use Rattle.device_tool.specs.Shown.{is_shown}
use Rattle.device_tool.proofs.shown.Given as goal

abbrev pub invariant-loop-byte : goal.invariant-loop-byte
invariant-loop-byte l = string_bytes l.line ≡ filter is_shown (take l.byte-index l.byte-items)
