-- What the maps of the store keep, and which ids an index holds. No public clause cites this.
use Rattle.std.specs.Prelude.{◌≡◌, ℕ, List, map, Bool, true, false, ◌&&◌, Option, None, Some, IfSome, String, if◌then◌else◌}
use Rattle.std.specs.Option.{option_map_or}
use Rattle.std.specs.FinMap as finite
use Rattle.std.specs.FinSet as set
use Rattle.std.specs.HashMap as hash
use Rattle.std.specs.HashSet as bag
use Rattle.std.specs.String.{string_bytes}
use Rattle.oidc_session.specs.Sessions.{SeenSession, Sessions, TokenIds, SeenLogout, ends_session}

abbrev pub by_id : {Y : Type 0} → List (String Y × SeenSession) → List (List ℕ × SeenSession)
by_id entries = map (λ e. (string_bytes e.0, e.1)) entries

-- the sessions of a hashed map
abbrev pub kept_sessions : {Y S : Type 0} → hash.HashMap (String Y) SeenSession S → Sessions
kept_sessions sessions = finite.from_entries (by_id sessions.entries)

-- the texts of a hashed set
abbrev pub kept_ids : {Y S : Type 0} → bag.HashSet (String Y) S → TokenIds
kept_ids ids = set.from_list (map (λ k. string_bytes k) ids.keys)

-- an index: ids of sessions, under names
abbrev pub Names : Type 0 → Type 0 → Type 0 → Type 0 → Type 0
Names Y Z S T = hash.HashMap (String Y) (bag.HashSet (String Z) S) T

module _ {Y Z S T : Type 0} where
  -- an id stands under a name
  abbrev pub holds : Names Y Z S T → List ℕ → List ℕ → Bool
  holds names name id = option_map_or (λ ids. bag.contains_text ids id) (hash.get_by_text names name) false

  -- each session stands under its subject, and under the provider's session behind it, where that is known
  abbrev pub IsIndexed : Sessions → Names Y Z S T → Names Y Z S T → Type 0
  IsIndexed sessions by_subject by_session =
      (id : List ℕ) (session : SeenSession) → finite.get sessions id ≡ Some session
      → (holds by_subject session.subject id ≡ true)
      × IfSome session.provider_session (λ name. holds by_session name id ≡ true)

-- ---- sessions that are taken out one after another

-- there is a session that a logout names
abbrev pub is_named_at : SeenLogout → Option SeenSession → Bool
is_named_at logout found = option_map_or (ends_session logout) found false

-- what is left at an id, where a test of the id holds
abbrev pub left_at : SeenLogout → Bool → Option SeenSession → Option SeenSession
left_at logout among found = if among && is_named_at logout found then None else found
