-- The claim `gender` (OpenID Connect Core 1.0 section 5.1), and the laws of its type.
use Rattle.std.specs.Prelude.{◌≡◌, ◌≢◌, Result, Ok}
use Rattle.serde_json.specs.Data.{Data, null}
use Rattle.oidc_members.specs.Seen.{SeenMember}
use Rattle.oidc_members.specs.declared.refusal.Refusal.{Refusal}
use Rattle.oidc_readers.specs.WrittenBack.{MayStand}

module _ {Gender : Type 0} where
  -- what is written reads back, whatever the member's name and its text
  abbrev pub GenderReadsBack : (SeenMember → Result Gender Refusal) → (Gender → Data) → Type 0
  GenderReadsBack read write =
      (gender : Gender) (member : SeenMember) → member.value ≡ write gender → read member ≡ Ok gender

  -- what is written isn't null, and is one that a member may have
  abbrev pub GenderIsValue : (Gender → Data) → Type 0
  GenderIsValue write = (gender : Gender) → (write gender ≢ null) × MayStand (write gender)
