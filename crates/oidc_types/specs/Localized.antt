-- a claim in several languages: a map from optional tags, where no tag comes first, and then by the
-- tags' bytes (OpenID Connect Core 1.0 section 5.2)
use Rattle.std.specs.Prelude.{ℕ, List, [], ◌∷◌, Option, None, Some, Bool, ◌&&◌, nat_eq}
use Rattle.std.specs.Borrow.{Bor}
use Rattle.std.specs.FinMap as finite
use Rattle.std.specs.Ordering.{nat_cmp}
use Rattle.std.specs.declared.cmp.Ordering.{Ordering}
use Rattle.std.specs.Cmp.Lexicographic.{slice_cmp, pointwise}
use Rattle.std.specs.Option.{option_cmp, option_eq, option_copied}
use Rattle.std.specs.Coded.{Coded, coded_ℕ, coded_list, coded_option}
use Rattle.oidc_types.specs.declared.localized.LocalizedIter.{LocalizedIter}

-- the order of tags: no tag stands first
abbrev pub tag_cmp : Option (List ℕ) → Option (List ℕ) → Ordering
tag_cmp = option_cmp (slice_cmp nat_cmp)

abbrev pub Variants : Type 0 → Type 0
Variants T = finite.FinMap tag_cmp T

abbrev pub variants_code : {T : Type 0} → Coded T → Coded (Variants T)
variants_code code = finite.code (coded_option (coded_list coded_ℕ)) code

module _ {T : Type 0} where
  abbrev pub tagged_entries : List (List ℕ × T) → List (Option (List ℕ) × T)
  tagged_entries [] = []
  tagged_entries (e ∷ es) = (Some e.0, e.1) ∷ tagged_entries es

  -- the entries of a value without a tag, and of those with tags
  abbrev pub entries_of : Option T → List (List ℕ × T) → List (Option (List ℕ) × T)
  entries_of None es = tagged_entries es
  entries_of (Some v) es = (None, v) ∷ tagged_entries es

  -- their map
  abbrev pub variants_of : Option T → List (List ℕ × T) → Variants T
  variants_of u es = finite.from_entries (entries_of u es)

-- ---- an iterator over it

module _ {T : Type 0} where
  -- what an item of the iterator shows: the tag and the value
  abbrev pub entry_shown : Option (Bor (List ℕ)) × Bor T → Option (List ℕ) × T
  entry_shown item = (option_copied item.0, item.1.now)

  -- the tags and values that are still to come
  abbrev pub entries_left : LocalizedIter T → List (Option (List ℕ) × T)
  entries_left iter = entries_of (option_copied iter.untagged) iter.tagged

-- ---- equality

module _ {T : Type 0} (value_eq : T → T → Bool) where
  -- the same tag, and equal values
  abbrev pub same_entry : Option (List ℕ) × T → Option (List ℕ) × T → Bool
  same_entry a b = option_eq (pointwise nat_eq) a.0 b.0 && value_eq a.1 b.1

  -- the same tags, with equal values at each
  abbrev pub same_variants : Variants T → Variants T → Bool
  same_variants a b = pointwise same_entry (finite.entries a) (finite.entries b)
