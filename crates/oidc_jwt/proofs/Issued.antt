-- A token that is issued is read back.
use Rattle.std.proofs.Common.{◌≡◌, ℕ, ◌==◌, List, [], ◌∷◌, ◌++◌, map, Some, Result, Ok, refl, ap, ◌∙◌, All, append_assoc}
use Rattle.std.specs.List.{slice_split}
use Rattle.std.proofs.lemmas.List.Splits.{slice_split_at, slice_split_none}
use Rattle.oidc_members.specs.Seen.{SeenMember, OutSeen}
use Rattle.oidc_members.specs.Objects.{loose_members_of, members_or_refusal, split_of}
use Rattle.oidc_members.specs.Write.{object_text}
use Rattle.oidc_members.specs.declared.refusal.Refusal.{Refusal}
use Rattle.oidc_readers.specs.WrittenBack.{MayStand, MayBeWritten, IsUtf8Member, as_read}
use Rattle.oidc_readers.specs.Records.{◌>>=◌}
use Rattle.oidc_readers.proofs.Theorems.{written_split_back}
use Rattle.oidc_jwt.specs.Tokens.{three, three_parts, object_read}
use Rattle.oidc_jwt.specs.Encoded.{Encodes}
use Rattle.oidc_jwt.specs.Issuing.{ComesBack}

-- ---- the parts of a text that was put together

module _ (x y z h p s : List ℕ) (head : Encodes x h) (body : Encodes y p) (last : Encodes z s) where
  abbrev pub put_together : List ℕ
  put_together = (x ++ 46 ∷ y) ++ 46 ∷ z

  split : slice_split (λ b. b == 46) put_together ≡ x ∷ y ∷ z ∷ []
  split =
      ap (slice_split (λ b. b == 46)) (append_assoc x (46 ∷ y) (46 ∷ z))
      ∙ slice_split_at (λ b. b == 46) x 46 (y ++ 46 ∷ z) head.undotted refl
      ∙ ap (λ l. x ∷ l) (slice_split_at (λ b. b == 46) y 46 z body.undotted refl ∙ ap (λ l. y ∷ l) (slice_split_none (λ b. b == 46) z last.undotted))

  pub parts_again : three_parts put_together ≡ Some (record { header = x; payload = y; signature = z })
  unfolding three_parts
  parts_again = ap three split

-- ---- an object that was written

pub split_again : (members : List OutSeen) → All MayBeWritten members → split_of (object_text members) ≡ Ok (map as_read members)
unfolding split_of
split_again members h = ap (λ o. members_or_refusal o (loose_members_of (object_text members))) (written_split_back members h)

pub may_be_written : (members : List OutSeen) → All (λ (m : OutSeen). MayStand m.value) members → All IsUtf8Member members → All MayBeWritten members
may_be_written members values texts = λ k d within. record { texts = texts k d within; value = values k d within }

module _ {P : Type 0} (payload_read : List SeenMember → Result P Refusal) (payload_out : P → List OutSeen) (payload : P) where
  pub payload_again : ComesBack payload_read payload_out payload → All IsUtf8Member (payload_out payload) → object_read payload_read (object_text (payload_out payload)) ≡ Ok payload
  payload_again back texts =
      ap (λ o. o >>= payload_read) (split_again (payload_out payload) (may_be_written (payload_out payload) back.values texts)) ∙ back.same texts
