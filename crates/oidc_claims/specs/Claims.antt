-- Which members of a list are faulty, and what the others say (OpenID Connect Core 1.0 sections 5.1
-- and 5.2).
use Rattle.std.specs.Prelude.{ℕ, List, [], Bool, cond, if◌then◌else◌, Option, None, Some, Err, filter, is_some, fold}
use Rattle.std.specs.FinMap as finite
use Rattle.std.specs.List.{list_any}
use Rattle.std.specs.Option.{option_flatten}
use Rattle.std.specs.Result.{result_ok, result_err}
use Rattle.std.specs.Str.{bytes_eq}
use Rattle.std.specs.Ordering.{is_eq}
use Rattle.oidc_types.specs.{Variants, tag_cmp}
use Rattle.oidc_members.specs.Seen.{SeenMember}
use Rattle.oidc_members.specs.declared.reading.Reading.{Reading}
use Rattle.oidc_members.specs.declared.refusal.Refusal.{Refusal}
use Rattle.oidc_members.specs.declared.refusal.ParseKind.TheVariants.{Duplicate, UnexpectedTag}
use Rattle.oidc_readers.specs.Passes.{first_by}
use Rattle.oidc_readers.specs.Kinds.{Kind, of_member, text_kind, flag_kind, moment_kind, or_null}
use Rattle.oidc_readers.specs.Fields.{is_nil, judged_among, first_value}
use Rattle.oidc_readers.specs.Records.{Rule}
use Rattle.oidc_claims.specs.declared.claim.Claim.{Claim}
use Rattle.oidc_claims.specs.declared.claim.ClaimKind.{ClaimKind}
use Rattle.oidc_claims.specs.declared.claim.ClaimKind.TheVariants as kind
use Rattle.oidc_claims.specs.Table.{name_of, kind_of, claim_of, base_of, tag_of}
use Rattle.oidc_claims.specs.Address.{address_kind}

-- whether a member is of a claim, whatever its tag
abbrev pub is_of : Claim → SeenMember → Bool
is_of claim m = bytes_eq (base_of m.name) (name_of claim)

-- the members of a claim
abbrev pub own : Claim → List SeenMember → List SeenMember
own claim members = filter (is_of claim) members

-- ---- faults

-- a value of that kind, under a name without a language tag
abbrev pub untagged : {V : Type 0} → Kind V → Kind V
untagged kind m = if is_some (tag_of m.name) then Err (of_member UnexpectedTag m) else kind m

-- why a member of a claim that stands once is refused, after those of that claim before it
abbrev pub once_fault : {V : Type 0} → Kind V → Rule
once_fault kind before m = judged_among (untagged kind) before m

abbrev pub same_tag : SeenMember → SeenMember → Bool
same_tag m n = is_eq (tag_cmp (tag_of m.name) (tag_of n.name))

-- the same of a claim in several languages, which may stand once for each tag
abbrev pub localized_fault : {V : Type 0} → Kind V → Rule
localized_fault kind before m =
    if list_any (same_tag m) before then Some (of_member Duplicate m) else result_err (kind m)

module _ {GC : Type 0} (gender_read : Kind GC) (reading : Reading) where
  -- By the claim's kind of value, which the reading may widen. A null stands for an absent one, but not for `sub`.
  abbrev pub fault_of_kind : ClaimKind → Rule
  fault_of_kind kind.RequiredText = once_fault text_kind
  fault_of_kind kind.Text = once_fault (or_null text_kind)
  fault_of_kind kind.LocalizedText = localized_fault (or_null text_kind)
  fault_of_kind kind.Flag = once_fault (or_null (flag_kind reading))
  fault_of_kind kind.Moment = once_fault (or_null (moment_kind reading))
  fault_of_kind kind.Address = once_fault (or_null address_kind)
  fault_of_kind kind.Gender = once_fault (or_null gender_read)

  -- a member of no claim is never faulty
  abbrev pub fault_by : Option Claim → Rule
  fault_by None before m = None
  fault_by (Some claim) before m = fault_of_kind (kind_of claim) (own claim before) m

  -- why a member is faulty, after all those before it
  abbrev pub fault_at : Rule
  fault_at before m = fault_by (claim_of (base_of m.name)) before m

  -- the first faulty place, and its refusal
  abbrev pub first_fault : List SeenMember → Option (ℕ × Refusal)
  first_fault members = first_by fault_at [] members

-- ---- values of members none of which is faulty

-- the value of a claim that stands once, of its own members; a null is none
abbrev pub plain : {V : Type 0} → Kind V → List SeenMember → Option V
plain kind ms = option_flatten (first_value (or_null kind) ms)

-- the value of one member of a claim in several languages
abbrev pub held : {V : Type 0} → Kind V → SeenMember → Option V
held kind m = option_flatten (result_ok (or_null kind m))

-- the map with one more value, where there is one
abbrev pub with_value : {V : Type 0} → Variants V → Option (List ℕ) → Option V → Variants V
with_value values tag None = values
with_value values tag (Some v) = finite.insert values tag v

-- the map from tags to the values that are there
abbrev pub variants : {V : Type 0} → Kind V → List SeenMember → Variants V
variants kind ms =
    fold (λ values m. with_value values (tag_of m.name) (held kind m)) finite.empty ms

-- absent where it has no value
abbrev pub unless_empty : {V : Type 0} → Variants V → Option (Variants V)
unless_empty values = cond (is_nil (finite.entries values)) None (Some values)
