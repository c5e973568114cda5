-- What contracts see of a site's sessions, and what becomes of them.
use Rattle.std.specs.Prelude.{ℕ, ◌-◌, ℤ, int_lt, List, Bool, true, false, not, ◌&&◌, Option, None, Some, is_some, Result, if◌then◌else◌}
use Rattle.std.specs.Option.{option_map_or}
use Rattle.std.specs.FinMap as finite
use Rattle.std.specs.FinSet as set
use Rattle.std.specs.Ordering.{nat_cmp}
use Rattle.std.specs.Cmp.Lexicographic.{slice_cmp}
use Rattle.std.specs.Str.{bytes_eq}
use Rattle.oidc_oauth2.specs.Replies.{◌>>◌, ◌when◌, ErrorMeaning}
use Rattle.oidc_session.specs.declared.errors.OpenError.{OpenError}
use Rattle.oidc_session.specs.declared.errors.OpenError.TheVariants.{Ended, Taken, Memory}

-- a session of a user: whose it is, the provider's session behind it, where that is known, and when it ends, in
-- nanoseconds since the Unix epoch
pub record SeenSession : Type 0 where
  pub subject : List ℕ
  pub provider_session : Option (List ℕ)
  pub end : ℤ

-- the sessions, by their ids
abbrev pub Sessions : Type 0
Sessions = finite.FinMap (slice_cmp nat_cmp) SeenSession

-- the ids of the logout tokens that were accepted
abbrev pub TokenIds : Type 0
TokenIds = set.FinSet (slice_cmp nat_cmp)

-- what a site keeps
pub record Kept : Type 0 where
  pub sessions : Sessions
  pub token_ids : TokenIds

abbrev pub nothing : Kept
nothing = record { sessions = finite.empty; token_ids = set.empty }

-- ---- a session, by its id

-- it ends after this moment
abbrev pub ends_after : ℤ → SeenSession → Bool
ends_after now session = int_lt now session.end

abbrev pub if_live : ℤ → Option SeenSession → Option SeenSession
if_live now None = None
if_live now (Some session) = if ends_after now session then Some session else None

-- the session of an id, where there is one that ends after this moment
abbrev pub session_at : Sessions → List ℕ → ℤ → Option SeenSession
session_at sessions id now = if_live now (finite.get sessions id)

-- ---- a session that is opened

-- what a session is opened with, and when
pub record Opening : Type 0 where
  pub id : List ℕ
  pub session : SeenSession
  pub now : ℤ

abbrev pub opening : List ℕ → List ℕ → Option (List ℕ) → ℤ → ℤ → Opening
opening id subject provider_session end now = record {
  id = id;
  session = record { subject = subject; provider_session = provider_session; end = end };
  now = now;
}

-- that it is opened, or the first refusal that holds
abbrev pub open_reply : Sessions → Opening → Result (Unit {0}) OpenError
open_reply sessions o = do
  Ended when not (ends_after o.now o.session)
  Taken when is_some (session_at sessions o.id o.now)

-- want of memory
abbrev pub is_open_memory : OpenError → Bool
is_open_memory Memory = true
is_open_memory e = false

-- a refusal is seen as it is, and stands for no fault of a transport: there is none
abbrev pub open_errors : ErrorMeaning OpenError OpenError
open_errors = record { seen = λ e. e; wants_memory = is_open_memory; is_fault = λ e. false }

-- the sessions with it, in the place of any other of its id
abbrev pub with_session : Sessions → Opening → Sessions
with_session sessions o = finite.insert sessions o.id o.session

-- ---- sessions that are removed

-- those that don't pass a test
abbrev pub without : (SeenSession → Bool) → Sessions → Sessions
without gone sessions =
    finite.retain_keys sessions (λ id. not (option_map_or gone (finite.get sessions id) false))

-- how many fewer these are
abbrev pub count_of : (SeenSession → Bool) → Sessions → ℕ
count_of gone sessions = finite.len sessions - finite.len (without gone sessions)

-- it doesn't end after this moment
abbrev pub has_ended : ℤ → SeenSession → Bool
has_ended now session = not (ends_after now session)

-- ---- the sessions that a logout names

-- a logout: whose sessions end, or which session of the provider, and the id of its token
pub record SeenLogout : Type 0 where
  pub subject : Option (List ℕ)
  pub provider_session : Option (List ℕ)
  pub token_id : List ℕ

-- nothing is asked, or it is this text
abbrev pub is_asked : Option (List ℕ) → Option (List ℕ) → Bool
is_asked None found = true
is_asked (Some text) None = false
is_asked (Some text) (Some found) = bytes_eq text found

-- It ends a session of its subject, where it has one, behind which its session of the provider is, where it has one.
abbrev pub ends_session : SeenLogout → SeenSession → Bool
ends_session logout session =
    is_asked logout.subject (Some session.subject) && is_asked logout.provider_session session.provider_session

-- what is kept after a logout: its sessions are gone, and its token's id is among those accepted
abbrev pub logged_out : Kept → SeenLogout → Kept
logged_out kept logout = record {
  sessions = without (ends_session logout) kept.sessions;
  token_ids = set.insert kept.token_ids logout.token_id;
}
