use Rattle.std.proofs.Common.{◌≡◌, take}
use Rattle.std.specs.List.{list_all}
use Rattle.oidc_members.specs.Sight.{is_plain_ascii}
use Rattle.oidc_members.proofs.sight.is_plain_ascii.Given as goal

abbrev pub invariant-loop-byte : goal.invariant-loop-byte
invariant-loop-byte l = l.plain ≡ list_all is_plain_ascii (take l.byte-index l.bytes)
