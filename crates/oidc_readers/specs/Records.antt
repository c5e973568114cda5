-- A record that is read by a table of its fields.
use Rattle.std.specs.Prelude.{ℕ, List, [], fold, Option, None, Some, Result, Ok, Err}
use Rattle.std.specs.Option.{ok_or, option_or, option_flatten}
use Rattle.oidc_members.specs.Seen.{SeenMember}
use Rattle.oidc_members.specs.declared.refusal.Refusal.{Refusal}
use Rattle.oidc_members.specs.declared.refusal.ParseKind.TheVariants.{Missing}
pub use Rattle.oidc_readers.specs.Passes.{Rule}
use Rattle.oidc_readers.specs.Passes.{first_by}
use Rattle.oidc_readers.specs.Fields.{Field, value_in}

-- one step after another, up to the first error
infixl 10 ◌>>=◌
abbrev pub ◌>>=◌ : {A B F : Type 0} → Result A F → (A → Result B F) → Result B F
(Ok x) >>= f = f x
(Err error) >>= f = Err error

-- A member is refused by the first field of the table that refuses it.
abbrev pub by_table : List Rule → Rule
by_table rules before m = fold (λ fault rule. option_or fault (rule before m)) None rules

-- by the first rule, or else by the second
abbrev pub either_rule : Rule → Rule → Rule
either_rule first second before m = option_or (first before m) (second before m)

abbrev pub without_place : Option (ℕ × Refusal) → Result (Unit {0}) Refusal
without_place None = Ok tt
without_place (Some found) = Err found.1

-- The first faulty member refuses the list.
abbrev pub faultless : Rule → List SeenMember → Result (Unit {0}) Refusal
faultless rule members = without_place (first_by rule [] members)

abbrev pub missing : List ℕ → Refusal
missing name = record { kind = Missing; field = name }

-- The value of a field that has to be there. It is asked of members none of which is faulty, behind
-- `faultless`: a member of the field would be of its kind, so where there is no value none came.
abbrev pub required : {V : Type 0} → Field V → List SeenMember → Result V Refusal
required f members = ok_or (value_in f members) (missing f.name)

-- the value of one that may be absent or null, asked behind `faultless` too
abbrev pub optional : {V : Type 0} → Field (Option V) → List SeenMember → Option V
optional f members = option_flatten (value_in f members)
