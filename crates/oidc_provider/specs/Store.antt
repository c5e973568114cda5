-- The maps that hashed maps keep. No public clause cites this.
use Rattle.std.specs.Prelude.{ℕ, List, map, String}
use Rattle.std.specs.FinMap as finite
use Rattle.std.specs.HashMap as hash
use Rattle.std.specs.Ordering.{nat_cmp}
use Rattle.std.specs.Cmp.Lexicographic.{slice_cmp}
use Rattle.std.specs.String.{string_bytes}

-- from texts to what is kept under them
abbrev pub TextMap : Type 0 → Type 0
TextMap X = finite.FinMap (slice_cmp nat_cmp) X

abbrev pub by_text : {X Y : Type 0} → List (String Y × X) → List (List ℕ × X)
by_text entries = map (λ e. (string_bytes e.0, e.1)) entries

abbrev pub kept : {X Y S : Type 0} → hash.HashMap (String Y) X S → TextMap X
kept m = finite.from_entries (by_text m.entries)

-- the same of texts that are kept under texts
abbrev pub kept_texts : {Y Z S : Type 0} → hash.HashMap (String Y) (String Z) S → TextMap (List ℕ)
kept_texts m = finite.from_entries (map (λ e. (string_bytes e.0, string_bytes e.1)) m.entries)
