-- What is known of an object's items up to a place.
use Rattle.std.specs.Prelude.{◌≡◌, ℕ, ◌<◌, ◌≤◌, ◌++◌, Bool, true, false, List, map, Option, Some, None, option_map}
use Rattle.std.specs.List.{slice_split}
use Rattle.oidc_members.specs.declared.cut.Item.{Item}
use Rattle.oidc_members.specs.declared.cut.Cuts.{Cuts}
use Rattle.oidc_members.specs.Places.{comma, colon, places, is_at_level_one}
use Rattle.oidc_members.specs.Objects.{Halves, halves}

-- the first place that passes, if one does
abbrev pub IsFirst : (ℕ → Bool) → ℕ → ℕ → Option ℕ → Type 0
IsFirst p start end None = (k : ℕ) → start ≤ k → k < end → p k ≡ false
IsFirst p start end (Some c) =
    (start ≤ c) × (c < end) × (p c ≡ true) × ((k : ℕ) → start ≤ k → k < c → p k ≡ false)

abbrev pub item_seen : Option Item → Option Halves
item_seen item = option_map (λ h. (h.name.now, h.value.now)) item

abbrev pub items_seen : List (Option Item) → List (Option Halves)
items_seen items = map item_seen items

-- The items that end before a place, and where the next one starts, in an object with this last place.
pub record IsCutUpTo (text : List ℕ) (last i : ℕ) (cuts : Cuts) : Type 0 where
  pub low : 1 ≤ cuts.start
  pub high : cuts.start ≤ i
  pub uncut : (k : ℕ) → cuts.start ≤ k → k < i → is_at_level_one text comma k ≡ false
  pub first : IsFirst (is_at_level_one text colon) cuts.start i cuts.colon
  pub items : items_seen cuts.items.items
      ++ map (halves text) (slice_split (is_at_level_one text comma) (places cuts.start last))
      ≡ map (halves text) (slice_split (is_at_level_one text comma) (places 1 last))
