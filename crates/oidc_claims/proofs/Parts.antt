-- The parts of an address, put into an object one by one, and read back.
use Rattle.std.proofs.Common.{◌≡◌, ℕ, List, [], ◌∷◌, ◌++◌, map, Option, None, Some, Bool, false, cond, filter, String, string_bytes, Global, codes, ap, sym, refl, ◌∙◌, append-nil, Ok}
use Rattle.std.specs.List.{flat_map}
use Rattle.std.proofs.lemmas.List.{map-append}
use Rattle.std.specs.Option.{option_or, option_flatten, option_map_or}
use Rattle.std.specs.Str.{bytes_eq}
use Rattle.std.specs.String.{string_cmp}
use Rattle.std.specs.BTreeMap.{insert_entry}
use Rattle.serde_json.specs.Data.{string, put}
use Rattle.serde_json.specs.View.{view, members_view}
use Rattle.serde_json.specs.declared.value.Value.{Value}
use Rattle.serde_json.proofs.Views.{Entry, members_view-insert_entry}
use Rattle.oidc_members.specs.Seen.{SeenMember, OutSeen}
use Rattle.oidc_members.specs.Objects.{members_of, loose_members_of, members_or_refusal, split_of}
use Rattle.oidc_members.specs.declared.refusal.Refusal.{Refusal}
use Rattle.oidc_readers.specs.Kinds.{text_kind, or_null}
use Rattle.oidc_readers.specs.Fields.{own, judged, judged_among, first_value}
use Rattle.oidc_readers.specs.Records.{◌>>=◌, without_place}
use Rattle.oidc_readers.specs.Writing.{text_member}
use Rattle.oidc_claims.specs.declared.claims.address.AddressClaim.{AddressClaim}
use Rattle.oidc_claims.specs.declared.claims.address_reader.AddressPart.{AddressPart}
use Rattle.oidc_claims.specs.declared.claims.address_reader.AddressPart.TheVariants.{Formatted, StreetAddress, Locality, Region, PostalCode, Country}
use Rattle.oidc_claims.specs.declared.claim.Claim.TheVariants.{Address}
use Rattle.oidc_claims.specs.Table.{name_of}
use Rattle.oidc_claims.specs.Address.{part_name, part_field, address_rule, address_of, address_in, address_kind}
use Rattle.oidc_claims.specs.Write.{put_part}
use Rattle.oidc_claims.specs.Write.{part_members, parts_in_order, address_data}
use Rattle.oidc_claims.proofs.Standing.{read_with, AddressStands}
use Rattle.oidc_claims.proofs.Apart.{IsPart, JudgesOwn, apart_from, own_among, no_fault}
use Rattle.oidc_claims.proofs.Names.{found, by_name}

-- ---- written

-- an insert puts the part
pub put_one : (es new : List Entry) (k : String Global) (v : Value) (name t : List ℕ) (o : Option (List ℕ))
    → new ≡ insert_entry string_cmp es k v → string_bytes k ≡ name → view v ≡ string t → o ≡ Some t
    → members_view new ≡ put_part name o (members_view es)
put_one es new k v name t o inserted named is there =
    ap members_view inserted ∙ members_view-insert_entry es k v ∙ (λ i. put (named i) (is i) (members_view es))
    ∙ sym (ap (λ o. put_part name o (members_view es)) there)

-- ---- read back

abbrev all_parts : List AddressPart
all_parts = Formatted ∷ StreetAddress ∷ Locality ∷ Region ∷ PostalCode ∷ Country ∷ []

abbrev part_of : List ℕ → Option AddressPart
part_of name = found part_name all_parts name

part_each : (p : AddressPart) → part_of (part_name p) ≡ Some p
part_each Formatted = refl
part_each StreetAddress = refl
part_each Locality = refl
part_each Region = refl
part_each PostalCode = refl
part_each Country = refl

abbrev part_key : SeenMember → Option AddressPart
part_key m = part_of m.name

abbrev same_part : AddressPart → AddressPart → Bool
same_part p q = bytes_eq (part_name p) (part_name q)

abbrev judge_part : AddressPart → List SeenMember → SeenMember → Option Refusal
judge_part p before m = judged_among (or_null text_kind) before m

-- the members of a part, by the key
keyed : (p : AddressPart) (ms : List SeenMember) → own (part_field p) ms ≡ filter (λ m. option_map_or (λ other. same_part p other) (part_key m) false) ms
keyed p ms = λ i. filter (λ m. by_name part_name all_parts part_each m.name p i) ms

-- the row of the table that has the member's name is the one that judges it
module _ (before : List SeenMember) (m : SeenMember) where
  abbrev among : AddressPart → Option Refusal
  among p = judged_among (or_null text_kind) (own (part_field p) before) m

  row : (p : AddressPart) → judged (part_field p) before m ≡ cond (bytes_eq m.name (part_name p)) (among p) None
  unfolding judged
  row p = refl

  abbrev table : (AddressPart → Option Refusal) → Option Refusal
  table f =
      option_or (option_or (option_or (option_or (option_or (option_or None (f Formatted)) (f StreetAddress)) (f Locality)) (f Region)) (f PostalCode)) (f Country)

  keep : (k : AddressPart) → table (λ p. cond (same_part p k) (among p) None) ≡ among k
  keep Formatted = by_value (among Formatted)
    where
      by_value : (o : Option Refusal) → option_or (option_or (option_or (option_or (option_or o None) None) None) None) None ≡ o
      by_value None = refl
      by_value (Some refusal) = refl
  keep StreetAddress = by_value (among StreetAddress)
    where
      by_value : (o : Option Refusal) → option_or (option_or (option_or (option_or o None) None) None) None ≡ o
      by_value None = refl
      by_value (Some refusal) = refl
  keep Locality = by_value (among Locality)
    where
      by_value : (o : Option Refusal) → option_or (option_or (option_or o None) None) None ≡ o
      by_value None = refl
      by_value (Some refusal) = refl
  keep Region = by_value (among Region)
    where
      by_value : (o : Option Refusal) → option_or (option_or o None) None ≡ o
      by_value None = refl
      by_value (Some refusal) = refl
  keep PostalCode = by_value (among PostalCode)
    where
      by_value : (o : Option Refusal) → option_or o None ≡ o
      by_value None = refl
      by_value (Some refusal) = refl
  keep Country = refl

  by_row : (k : AddressPart) → part_key m ≡ Some k → address_rule before m ≡ among k
  by_row k is =
      let each : (p : AddressPart) → judged (part_field p) before m ≡ cond (same_part p k) (among p) None =
      λ p. row p ∙ ap (λ b. cond b (among p) None) (by_name part_name all_parts part_each m.name p ∙ ap (λ o. option_map_or (λ other. same_part p other) o false) is)
      in (λ i. table (λ p. each p i)) ∙ keep k

judges : JudgesOwn part_key same_part judge_part address_rule
judges p before m is = by_row before m p is ∙ ap (λ l. judged_among (or_null text_kind) l m) (keyed p before)

pub map_flat : {A B K : Type 0} (f : A → B) (parts : K → List A) (ks : List K) → map f (flat_map parts ks) ≡ flat_map (λ k. map f (parts k)) ks
map_flat f parts [] = refl
map_flat f parts (k ∷ ks) = map-append f (parts k) (flat_map parts ks) ∙ ap (λ r. map f (parts k) ++ r) (map_flat f parts ks)

module _ (text_of : OutSeen → List ℕ) (a : AddressClaim) where
  abbrev part_seen : AddressPart → List SeenMember
  part_seen p = map (read_with text_of) (part_members a p)

  abbrev seen : List SeenMember
  seen = flat_map part_seen parts_in_order

  one_part : (p : AddressPart) (o : Option (List ℕ)) → part_of (part_name p) ≡ Some p → IsPart part_key same_part judge_part address_rule p [] (map (read_with text_of) (text_member (part_name p) o))
  one_part p None is = tt
  one_part p (Some t) is = (is, refl, tt)

  are_parts : (p : AddressPart) → IsPart part_key same_part judge_part address_rule p [] (part_seen p)
  are_parts Formatted = one_part Formatted a.formatted refl
  are_parts StreetAddress = one_part StreetAddress a.street_address refl
  are_parts Locality = one_part Locality a.locality refl
  are_parts Region = one_part Region a.region refl
  are_parts PostalCode = one_part PostalCode a.postal_code refl
  are_parts Country = one_part Country a.country refl

  part_back : (name : List ℕ) (o : Option (List ℕ)) → option_flatten (first_value (or_null text_kind) (map (read_with text_of) (text_member name o))) ≡ o
  part_back name None = refl
  part_back name (Some t) = refl

  own_seen : (p : AddressPart) → own (part_field p) seen ≡ part_seen p
  own_seen Formatted = keyed Formatted seen ∙ own_among part_key same_part judge_part address_rule part_seen are_parts Formatted parts_in_order ∙ append-nil (part_seen Formatted)
  own_seen StreetAddress = keyed StreetAddress seen ∙ own_among part_key same_part judge_part address_rule part_seen are_parts StreetAddress parts_in_order ∙ append-nil (part_seen StreetAddress)
  own_seen Locality = keyed Locality seen ∙ own_among part_key same_part judge_part address_rule part_seen are_parts Locality parts_in_order ∙ append-nil (part_seen Locality)
  own_seen Region = keyed Region seen ∙ own_among part_key same_part judge_part address_rule part_seen are_parts Region parts_in_order ∙ append-nil (part_seen Region)
  own_seen PostalCode = keyed PostalCode seen ∙ own_among part_key same_part judge_part address_rule part_seen are_parts PostalCode parts_in_order ∙ append-nil (part_seen PostalCode)
  own_seen Country = keyed Country seen ∙ own_among part_key same_part judge_part address_rule part_seen are_parts Country parts_in_order ∙ append-nil (part_seen Country)

  address_back : address_of seen ≡ a
  unfolding address_of
  address_back = λ i. record {
    formatted = (ap (λ l. option_flatten (first_value (or_null text_kind) l)) (own_seen Formatted) ∙ part_back (codes "formatted") a.formatted) i;
    street_address = (ap (λ l. option_flatten (first_value (or_null text_kind) l)) (own_seen StreetAddress) ∙ part_back (codes "street_address") a.street_address) i;
    locality = (ap (λ l. option_flatten (first_value (or_null text_kind) l)) (own_seen Locality) ∙ part_back (codes "locality") a.locality) i;
    region = (ap (λ l. option_flatten (first_value (or_null text_kind) l)) (own_seen Region) ∙ part_back (codes "region") a.region) i;
    postal_code = (ap (λ l. option_flatten (first_value (or_null text_kind) l)) (own_seen PostalCode) ∙ part_back (codes "postal_code") a.postal_code) i;
    country = (ap (λ l. option_flatten (first_value (or_null text_kind) l)) (own_seen Country) ∙ part_back (codes "country") a.country) i;
  }

  seen_back : address_in seen ≡ Ok a
  seen_back =
      ap (λ fault. without_place fault >>= λ u. Ok (address_of seen)) (no_fault part_key same_part judge_part address_rule part_seen are_parts judges parts_in_order (apart_from part_key same_part judge_part address_rule parts_in_order refl))
      ∙ ap Ok address_back

  split_by : (text : List ℕ) (ms : List SeenMember) → members_of text ≡ Some ms → split_of text ≡ Ok ms
  unfolding split_of
  split_by text ms is = ap (λ o. members_or_refusal o (loose_members_of text)) is

  -- An address that stands is read back.
  pub address_reads_back : AddressStands text_of (Some a) → address_kind (read_with text_of (record { name = name_of Address; value = address_data a })) ≡ Ok a
  address_reads_back stands =
      ap (λ split. split >>= address_in) (split_by _ _ stands) ∙ ap address_in (map_flat (read_with text_of) (part_members a) parts_in_order) ∙ seen_back
