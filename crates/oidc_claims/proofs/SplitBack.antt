-- Claims are read back from the text of the object that they are written as.
use Rattle.std.proofs.Common.{◌≡◌, ◌≤◌, ℕ, zero, suc, List, [], ◌∷◌, ◌++◌, drop, All, Option, None, Some, option_map, Result, Ok, ap, sym, subst, ◌∙◌, arith}
use Rattle.std.specs.List.{flat_map}
use Rattle.serde_json.specs.Data.{Data, members_depth}
use Rattle.serde_json.specs.Written.{compact_text}
use Rattle.oidc_members.specs.Seen.{SeenMember, OutSeen}
use Rattle.oidc_members.specs.Objects.{members_of}
use Rattle.oidc_members.specs.Write.{data_of, object_text}
use Rattle.oidc_members.specs.declared.reading.Reading.{Reading}
use Rattle.oidc_members.specs.declared.refusal.Refusal.{Refusal}
use Rattle.oidc_readers.specs.WrittenBack.{MayBeWritten, IsUtf8Member, MembersAreWhole, MembersHaveTexts}
use Rattle.oidc_readers.proofs.Theorems.{written_split_back}
use Rattle.oidc_claims.specs.declared.claim.Claim.TheVariants.{Address}
use Rattle.oidc_claims.specs.declared.claims.address.AddressClaim.{AddressClaim}
use Rattle.oidc_claims.specs.Seen.{SeenClaims}
use Rattle.oidc_claims.specs.Gender.{GenderReadsBack, GenderIsValue}
use Rattle.oidc_claims.specs.Table.{all_claims}
use Rattle.oidc_claims.specs.Standard.{claims_of}
use Rattle.oidc_claims.specs.Write.{written, claim_members, plain_member, address_members, address_data}
use Rattle.oidc_claims.specs.Write.{IsInRange, GivesClaims}
use Rattle.oidc_claims.proofs.MayStand.{EachStands, address_whole, address_shallow, written_stands}
use Rattle.oidc_claims.proofs.Standing.{AddressStands}
use Rattle.oidc_claims.proofs.ReadsBack.{reads_back}

-- each member may be written, one by one
abbrev Each : List OutSeen → Type 0
Each [] = Unit {0}
Each (m ∷ ms) = MayBeWritten m × Each ms

all_of : (ms : List OutSeen) → Each ms → All MayBeWritten ms
all_of [] h k d lt = absurd (omega arith)
all_of (m ∷ ms) h zero d lt = h.0
all_of (m ∷ ms) h (suc k) d lt = all_of ms h.1 k d (omega arith)

-- each member is UTF-8, one by one
abbrev EachText : List OutSeen → Type 0
EachText [] = Unit {0}
EachText (m ∷ ms) = IsUtf8Member m × EachText ms

texts_of : (ms : List OutSeen) → All IsUtf8Member ms → EachText ms
texts_of [] h = tt
texts_of (m ∷ ms) h = (h 0 m (omega arith), texts_of ms (λ k d lt. h (suc k) d (omega arith)))

may_be_written : (ms : List OutSeen) → EachStands ms → EachText ms → Each ms
may_be_written [] stands texts = tt
may_be_written (m ∷ ms) stands texts = (record { texts = texts.0; value = stands.0 }, may_be_written ms stands.1 texts.1)

later : (xs ys : List OutSeen) → EachText (xs ++ ys) → EachText ys
later [] ys h = h
later (x ∷ xs) ys h = later xs ys h.1

-- those of the claims behind the first ones
behind : {K : Type 0} (parts : K → List OutSeen) (n : ℕ) (ks : List K) → EachText (flat_map parts ks) → EachText (flat_map parts (drop n ks))
behind parts zero ks h = h
behind parts (suc n) [] h = h
behind parts (suc n) (k ∷ ks) h = behind parts n ks (later (parts k) (flat_map parts ks) h)

-- the members of an object that may be written may be written too
inner : (ms : List OutSeen) → MembersAreWhole (data_of ms) → MembersHaveTexts (data_of ms) → members_depth (data_of ms) ≤ 0 → Each ms
inner [] whole texts nests = tt
inner (m ∷ ms) whole texts nests = (record { texts = (texts.0, texts.1); value = (whole.0, omega arith) }, inner ms whole.1 texts.2 (omega arith))

module _
    {GC : Type 0}
    (gender_read : SeenMember → Result GC Refusal)
    (gender_data : GC → Data)
    (gender_back : GenderReadsBack gender_read gender_data)
    (gender_there : GenderIsValue gender_data) where
  address_back : (address : Option AddressClaim) (rest : List OutSeen) → EachText (plain_member Address (option_map address_data address) ++ rest)
      → AddressStands (λ m. compact_text m.value) address
  address_back None rest h = tt
  address_back (Some a) rest h =
      written_split_back (address_members a) (all_of (address_members a) (inner (address_members a) (address_whole a) h.0.1 (address_shallow a)))

  pub split_reads_back : (s : SeenClaims GC) → IsInRange s → All IsUtf8Member (written gender_data s) → (reading : Reading)
      → option_map (claims_of gender_read reading) (members_of (object_text (written gender_data s))) ≡ Some (Ok s)
  split_reads_back s range utf8 reading =
      let texts = texts_of (written gender_data s) utf8 in
      let may = all_of (written gender_data s) (may_be_written (written gender_data s) (written_stands gender_data gender_there s range) texts) in
      ap (option_map (claims_of gender_read reading)) (written_split_back (written gender_data s) may)
      ∙ ap Some (reads_back gender_read reading gender_data gender_back gender_there (λ m. compact_text m.value) s range (address_back s.address _ (behind (claim_members gender_data s) 19 all_claims texts)))

  -- the same of a list that is what the claims are written as
  pub gives_claims : (s : SeenClaims GC) (members : List OutSeen) → members ≡ written gender_data s → All IsUtf8Member members → IsInRange s → GivesClaims gender_read members s
  gives_claims s members is utf8 range =
      subst (λ members. GivesClaims gender_read members s) (sym is) (split_reads_back s range (subst (All IsUtf8Member) is utf8))
