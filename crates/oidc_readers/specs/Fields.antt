-- A field of a record: the members that are its own, and which of them are faulty.
use Rattle.std.specs.Prelude.{ℕ, List, [], ◌∷◌, Bool, true, false, ◌||◌, if◌then◌else◌, Option, None, Some, filter}
use Rattle.std.specs.Result.{result_ok, result_err}
use Rattle.std.specs.Str.{bytes_eq}
use Rattle.oidc_members.specs.Seen.{SeenMember}
use Rattle.oidc_members.specs.declared.refusal.Refusal.{Refusal}
use Rattle.oidc_members.specs.declared.refusal.ParseKind.TheVariants.{Duplicate}
use Rattle.oidc_readers.specs.Kinds.{Kind, of_member}

-- A row of a table: the name of the field's member, another name that it may have, and its kind.
-- Whether the field is needed is said where its value is taken, by `required` or `optional`.
pub record Field (V : Type 0) : Type 0 where
  pub name : List ℕ
  pub alias : Option (List ℕ)
  pub kind : Kind V

abbrev pub field : {V : Type 0} → List ℕ → Kind V → Field V
field name kind = record { name = name; alias = None; kind = kind }

abbrev pub field_or : {V : Type 0} → List ℕ → List ℕ → Kind V → Field V
field_or name alias kind = record { name = name; alias = Some alias; kind = kind }

abbrev pub is_named : List ℕ → Option (List ℕ) → SeenMember → Bool
is_named name None m = bytes_eq m.name name
is_named name (Some alias) m = bytes_eq m.name name || bytes_eq m.name alias

abbrev pub is_nil : {A : Type 0} → List A → Bool
is_nil [] = true
is_nil (x ∷ xs) = false

-- why a member of a field is refused, after the field's members before it: it repeats the field, or
-- isn't of its kind
abbrev pub judged_among : {V : Type 0} → Kind V → List SeenMember → SeenMember → Option Refusal
judged_among kind came m = if is_nil came then result_err (kind m) else Some (of_member Duplicate m)

-- the value of the first of them
abbrev pub first_value : {V : Type 0} → Kind V → List SeenMember → Option V
first_value kind [] = None
first_value kind (m ∷ ms) = result_ok (kind m)

module _ {V : Type 0} (f : Field V) where
  abbrev pub is_own : SeenMember → Bool
  is_own m = is_named f.name f.alias m

  -- the members of the field
  abbrev pub own : List SeenMember → List SeenMember
  own members = filter is_own members

  -- Why a member is refused, after all those before it. A member of another name is not.
  unfoldable pub judged : List SeenMember → SeenMember → Option Refusal
  judged before m = if is_own m then judged_among f.kind (own before) m else None

  -- The field's value: what its first member reads as. Members none of which is faulty have none
  -- where no member is the field's own; `judged` refuses a first member of another kind.
  abbrev pub value_in : List SeenMember → Option V
  value_in members = first_value f.kind (own members)
