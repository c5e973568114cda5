use Rattle.std.proofs.Common.{◌≡◌, ◌++◌, drop, false}
use Rattle.serde_json.specs.Written.{members_text}
use Rattle.oidc_members.specs.Write.{data_of, any_float, object_text}
use Rattle.oidc_members.proofs.write.write_object.Given as goal

abbrev pub invariant-loop-member : goal.invariant-loop-member
invariant-loop-member l =
    any_float l.members ≡ false
    → (any_float (drop l.member-index l.members) ≡ false)
    × (l.text.items ++ members_text l.later (data_of (drop l.member-index l.members)) ≡ object_text l.members)
