-- The drill: a given number of logins of one client, from end to end, over a provider that issues a token for each.
-- All are begun, in order; then each is called back, and called back once more.
use Rattle.std.specs.Prelude.{ℕ, ℤ, pos, ◌+◌, ◌-◌, ◌*◌, zero, suc, List, [], ◌∷◌, ◌++◌, map, length, replicate, None, Some, Result, Ok, Err, Bool, true, false, if◌then◌else◌, codes, decimal}
use Rattle.std.specs.List.{zip}
use Rattle.std.specs.FinMap as finite
use Rattle.serde_json.specs.Data.{string}
use Rattle.url.specs.declared.host.Host.TheVariants.{Domain}
use Rattle.oidc_members.specs.Write.{object_text}
use Rattle.oidc_members.specs.Seen.{strict}
use Rattle.oidc_types.specs.{TextAndUrl, signing_text}
use Rattle.oidc_types.specs.declared.core_algorithms.CoreJwsSigningAlgorithm.TheVariants.{HmacSha256}
use Rattle.oidc_types.specs.declared.signing_error.SigningError.{SigningError}
use Rattle.oidc_claims.specs.Seen.{only_subject}
use Rattle.oidc_claims.specs.Others.{Others}
use Rattle.oidc_claims.specs.declared.additional.EmptyAdditionalClaims.{EmptyAdditionalClaims}
use Rattle.oidc_keys.specs.CoreJwk.{hash_function, symmetric_signature}
use Rattle.oidc_oauth2.specs.Messages.{SeenResponse, SeenAnswer}
use Rattle.oidc_oauth2.specs.TokenResponse.{SeenTokens, written_tokens}
use Rattle.oidc_oauth2.specs.Words.{token_type_text}
use Rattle.oidc_oauth2.specs.declared.extra_fields.EmptyExtraTokenFields.{EmptyExtraTokenFields}
use Rattle.oidc_oauth2.specs.declared.token_type.CoreTokenType.{CoreTokenType}
use Rattle.oidc_oauth2.specs.declared.token_type.CoreTokenType.TheVariants.{Bearer}
use Rattle.oidc_jwt.specs.Issuing.{issued}
use Rattle.oidc_id_token_claims.specs.IdTokenClaims.{SeenIdTokenClaims, id_token_members}
use Rattle.oidc_tokens.specs.Hashes.{hashing, with_hashes}
use Rattle.oidc_tokens.specs.IdTokenFields.{SeenIdTokenFields, response_fields_out}
use Rattle.oidc_oauth2.specs.Replies.{◌>>=◌}
use Rattle.oidc_login.specs.Token.{SeenIdToken}
use Rattle.oidc_login.specs.Logins.{Pending}
use Rattle.oidc_login.specs.Events as runs
use Rattle.oidc_login.specs.declared.errors.LoginError.TheVariants.{State}
use Rattle.oidc_cli.specs.Types.{types, SeenScriptClient}
use Rattle.oidc_cli.specs.Events.{SeenClientLine, SeenCallbackLine}
use Rattle.oidc_cli.specs.Logins.{client_of, begin_of_line, call_of_line}
use Rattle.oidc_cli.specs.Report.{Step}
use Rattle.oidc_cli.specs.declared.events.BeginLine.{BeginLine}
use Rattle.oidc_cli.specs.declared.drill.turns.Turn.{Turn}
use Rattle.oidc_cli.specs.declared.drill.turns.Turn.TheVariants.{Begin, First, Again}
use Rattle.oidc_cli.specs.declared.drill.turns.Tally.{Tally}

-- ---- the client

-- the URL of a text on the provider's host, with this path
abbrev pub url_at : List ℕ → List ℕ → TextAndUrl
url_at text path = record {
  text = text;
  url = record {
    scheme = codes "https";
    username = [];
    password = [];
    host = Some (Domain (codes "example"));
    port = None;
    path = path;
    query = None;
    fragment = None;
  };
}

abbrev pub issuer : TextAndUrl
issuer = url_at (codes "https://example") (codes "/")

abbrev pub client_line : SeenClientLine
client_line = record {
  id = codes "aaa";
  secret = Some (codes "bbb");
  provider = record {
    issuer = issuer;
    auth = url_at (codes "https://example/authorize") (codes "/authorize");
    token = url_at (codes "https://example/token") (codes "/token");
    user_info = Some (url_at (codes "https://example/userinfo") (codes "/userinfo"));
  };
  redirect = None;
  algorithms = HmacSha256 ∷ [];
  reading = strict;
}

abbrev pub drill_client : SeenScriptClient
drill_client = client_of client_line

-- ---- the login with number i

-- a letter and the number
abbrev pub numbered : List ℕ → ℕ → List ℕ
numbered letter i = letter ++ decimal i

-- `v`, and the number in 42 digits
abbrev pub verifier : ℕ → List ℕ
verifier i = codes "v" ++ replicate (42 - length (decimal i)) 48 ++ decimal i

abbrev pub drill_begin : ℕ → BeginLine
drill_begin i = record {
  state = numbered (codes "s") i;
  nonce = numbered (codes "n") i;
  redirect = None;
  verifier = verifier i;
  user_info = None;
}

abbrev pub query : ℕ → List ℕ
query i = codes "code=c" ++ decimal i ++ codes "&state=s" ++ decimal i

-- a moment, in nanoseconds since the Unix epoch
abbrev pub at_second : ℕ → ℤ
at_second second = pos (second * 1_000_000_000)

-- ---- what the provider answers

abbrev pub Claims : Type 0
Claims = SeenIdTokenClaims EmptyAdditionalClaims (List ℕ)

abbrev pub claims : ℕ → Claims
claims i = record {
  own = record {
    issuer = issuer;
    audiences = codes "aaa" ∷ [];
    expiration = at_second 2000;
    issue_time = at_second 900;
    auth_time = None;
    nonce = Some (numbered (codes "n") i);
    auth_context_ref = None;
    auth_method_refs = None;
    authorized_party = None;
    access_token_hash = None;
    code_hash = None;
  };
  standard_claims = only_subject (numbered (codes "u") i);
  additional_claims = record {};
}

abbrev pub access_token : ℕ → List ℕ
access_token i = numbered (codes "t") i

abbrev pub Token : Type 0
Token = SeenIdToken EmptyAdditionalClaims (List ℕ)

-- The ID token of these claims and of the hash of the access token, by HS256 under the client's secret.
unfoldable pub token : ℕ → Result Token SigningError
token i = do
  hashed ← with_hashes (hashing (signing_text HmacSha256) (hash_function HmacSha256)) (Some (access_token i)) None (claims i)
  issued signing_text (id_token_members (λ _. []) string) (symmetric_signature (codes "bbb") HmacSha256) None HmacSha256 hashed

-- a token response with this access token and this ID token, and nothing else
abbrev pub tokens : List ℕ → Token → SeenTokens CoreTokenType (SeenIdTokenFields Token EmptyExtraTokenFields)
tokens access_token token = record {
  access_token = access_token;
  token_type = Bearer;
  expires_in = None;
  refresh_token = None;
  scopes = None;
  extra_fields = record { id_token = Some token; extra_fields = record {} };
}

-- the same, as it is written
unfoldable pub body : List ℕ → Token → List ℕ
body access_token token =
    object_text (written_tokens token_type_text (response_fields_out (λ none. [])) (tokens access_token token))

abbrev pub response : List ℕ → SeenResponse
response body = record { status = 200; content_type = Some (codes "application/json"); body = body }

-- the token response; a token that couldn't be issued would be a fault
abbrev pub answered : List ℕ → Result Token SigningError → SeenAnswer
answered access_token (Ok token) = Some (response (body access_token token))
answered access_token (Err refusal) = None

abbrev pub answer : ℕ → SeenAnswer
answer i = answered (access_token i) (token i)

-- the first callback gets the token response, the second nothing
abbrev pub callback_line : ℕ → List SeenAnswer → SeenCallbackLine
callback_line i answers = record { now = at_second 1000; query = query i; answers = answers }

-- ---- the turns of a drill, and what each adds to its counts

abbrev pub event_of_turn : Turn → runs.Event
event_of_turn (Begin i) = runs.begins (begin_of_line drill_client (drill_begin i))
event_of_turn (First i) = runs.calls (call_of_line (callback_line i (answer i ∷ [])))
event_of_turn (Again i) = runs.calls (call_of_line (callback_line i []))

-- so many numbers, from i on
abbrev pub numbers : ℕ → ℕ → List ℕ
numbers i zero = []
numbers i (suc more) = i ∷ numbers (i + 1) more

abbrev pub begin_turns : List ℕ → List Turn
begin_turns [] = []
begin_turns (i ∷ later) = Begin i ∷ begin_turns later

abbrev pub callback_turns : List ℕ → List Turn
callback_turns [] = []
callback_turns (i ∷ later) = First i ∷ Again i ∷ callback_turns later

abbrev pub turns : ℕ → List Turn
turns count = begin_turns (numbers 1 count) ++ callback_turns (numbers 1 count)

abbrev pub one_if : Bool → ℕ
one_if holds = if holds then 1 else 0

abbrev pub is_begun : runs.Reply Others (List ℕ) → Bool
is_begun (runs.begun (Ok url)) = true
is_begun reply = false

abbrev pub is_signed_in : runs.Reply Others (List ℕ) → Bool
is_signed_in (runs.called (Ok user)) = true
is_signed_in reply = false

abbrev pub is_refused_as_state : runs.Reply Others (List ℕ) → Bool
is_refused_as_state (runs.called (Err State)) = true
is_refused_as_state reply = false

-- begins that were Ok, first callbacks that signed in, second ones that were refused as `State`, and all requests
abbrev pub added_by : Turn → Step → Tally
added_by (Begin i) step =
    record { begun = one_if (is_begun step.reply); signed = 0; repeated = 0; sent = length step.sent }
added_by (First i) step =
    record { begun = 0; signed = one_if (is_signed_in step.reply); repeated = 0; sent = length step.sent }
added_by (Again i) step =
    record { begun = 0; signed = 0; repeated = one_if (is_refused_as_state step.reply); sent = length step.sent }

abbrev pub no_counts : Tally
no_counts = record { begun = 0; signed = 0; repeated = 0; sent = 0 }

abbrev pub plus : Tally → Tally → Tally
plus a b = record {
  begun = a.begun + b.begun;
  signed = a.signed + b.signed;
  repeated = a.repeated + b.repeated;
  sent = a.sent + b.sent;
}

abbrev pub tally_of : List (Turn × Step) → Tally
tally_of [] = no_counts
tally_of (taken ∷ later) = plus (added_by taken.0 taken.1) (tally_of later)

-- ---- the line

-- the counts of a drill, from the empty store: those of its turns' run
abbrev pub drill_tally : ℕ → Tally
drill_tally count = tally_of (zip (turns count) (runs.run_of types drill_client (map event_of_turn (turns count))))

-- the logins that it leaves
abbrev pub drill_store : ℕ → Pending
drill_store count = runs.store_of types drill_client (map event_of_turn (turns count))

-- a name and its number, before what follows
abbrev pub counted : List ℕ → ℕ → List ℕ → List ℕ
counted name count later = name ++ decimal count ++ later

abbrev pub line_of_drill : ℕ → Tally → ℕ → List ℕ
line_of_drill count tally pending =
    counted (codes "drill ") count
    (counted (codes " begun=") tally.begun
    (counted (codes " signed=") tally.signed
    (counted (codes " repeated=") tally.repeated
    (counted (codes " sent=") tally.sent
    (counted (codes " pending=") pending (codes "\n"))))))

unfoldable pub drill_text : ℕ → List ℕ
drill_text count = line_of_drill count (drill_tally count) (finite.len (drill_store count))
