-- The map that a hashed map keeps. No public clause cites this.
use Rattle.std.specs.Prelude.{ℕ, List, map, String}
use Rattle.std.specs.FinMap as finite
use Rattle.std.specs.HashMap as hash
use Rattle.std.specs.String.{string_bytes}
use Rattle.oidc_login.specs.Logins.{SeenLogin, Pending}

abbrev pub by_state : {Y : Type 0} → List (String Y × SeenLogin) → List (List ℕ × SeenLogin)
by_state entries = map (λ e. (string_bytes e.0, e.1)) entries

abbrev pub kept : {Y S : Type 0} → hash.HashMap (String Y) SeenLogin S → Pending
kept logins = finite.from_entries (by_state logins.entries)
