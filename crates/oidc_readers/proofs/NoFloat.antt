-- What may stand in an object holds no float.
use Rattle.std.proofs.Common.{◌≡◌, suc, List, [], ◌∷◌, ◌++◌, Bool, true, false, ◌||◌, refl, sym, All, arith}
use Rattle.std.proofs.lemmas.Bool.{false≢true}
use Rattle.serde_json.specs.Data.{unsigned, negative, float, Data, null, boolean, number, string, array, object, Items, no_items, item, Members, no_members, member}
use Rattle.serde_json.specs.Written.{has_float, items_have_float, members_have_float}
use Rattle.oidc_members.specs.Seen.{OutSeen}
use Rattle.oidc_members.specs.Write.{any_float}
use Rattle.oidc_readers.specs.WrittenBack.{IsWhole, ItemsAreWhole, MembersAreWhole, MayStand}

not_or : (a b : Bool) → (a || b) ≡ false → (a ≡ false) × (b ≡ false)
not_or false b h = (refl, h)
not_or true b h = absurd (false≢true (sym h))

nor : (a b : Bool) → a ≡ false → b ≡ false → (a || b) ≡ false
nor a b h k = rw (h, k) refl

pub free_append : (xs ys : List OutSeen) → any_float xs ≡ false → any_float ys ≡ false → any_float (xs ++ ys) ≡ false
free_append [] ys h k = k
free_append (x ∷ xs) ys h k =
    let parts = not_or (has_float x.value) (any_float xs) h in nor (has_float x.value) (any_float (xs ++ ys)) parts.0 (free_append xs ys parts.1 k)

-- ---- what may stand in an object holds none

mutual
  pub whole_value : (d : Data) → IsWhole d → has_float d ≡ false
  whole_value null h = refl
  whole_value (boolean b) h = refl
  whole_value (number (unsigned n)) h = refl
  whole_value (number (negative z)) h = refl
  whole_value (number (float x)) h = absurd h
  whole_value (string s) h = refl
  whole_value (array ds) h = whole_items ds h
  whole_value (object ms) h = whole_members ms h.1

  whole_items : (ds : Items) → ItemsAreWhole ds → items_have_float ds ≡ false
  whole_items no_items h = refl
  whole_items (item d ds) h = nor (has_float d) (items_have_float ds) (whole_value d h.0) (whole_items ds h.1)

  pub whole_members : (ms : Members) → MembersAreWhole ms → members_have_float ms ≡ false
  whole_members no_members h = refl
  whole_members (member k d ms) h = nor (has_float d) (members_have_float ms) (whole_value d h.0) (whole_members ms h.1)

pub standing_free : (ms : List OutSeen) → All (λ (m : OutSeen). MayStand m.value) ms → any_float ms ≡ false
standing_free [] h = refl
standing_free (m ∷ ms) h =
    let first : MayStand m.value = h 0 m (omega arith) in
    nor (has_float m.value) (any_float ms) (whole_value m.value first.0) (standing_free ms (λ k d within. h (suc k) d (omega arith)))
