use Rattle.std.proofs.Common.{◌≡◌, ◌++◌, take, drop}
use Rattle.oidc_keys.specs.Mac.{masked}
use Rattle.oidc_keys.proofs.mac.masked_block.Given as goal

abbrev pub invariant-loop-byte : goal.invariant-loop-byte
invariant-loop-byte g l = l.byte-items ≡ masked l.pad (take l.byte-index l.block) ++ drop l.byte-index l.block
