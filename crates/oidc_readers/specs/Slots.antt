-- What the slot of a field holds, after the members that came.
use Rattle.std.specs.Prelude.{List, not, Option}
use Rattle.oidc_members.specs.Seen.{SeenMember}
use Rattle.oidc_readers.specs.declared.slots.Once.{Once}
use Rattle.oidc_readers.specs.Kinds.{Kind}
use Rattle.oidc_readers.specs.Fields.{Field, is_nil, first_value, own}

-- of the field's own members
abbrev pub slot_among : {V : Type 0} → Kind V → List SeenMember → Once V
slot_among kind came = record { seen = not (is_nil came); value = first_value kind came }

-- of all members
unfoldable pub slot : {V : Type 0} → Field V → List SeenMember → Once V
slot f members = slot_among f.kind (own f members)

-- the value that a slot holds
abbrev pub slot_value : {V : Type 0} → Once V → Option V
slot_value s = s.value
