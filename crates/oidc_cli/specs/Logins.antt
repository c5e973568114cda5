-- What the lines of a script say to the logins of a client.
use Rattle.std.specs.Prelude.{ℕ, List, [], ◌∷◌, Option, None, Some, unwrap_or}
use Rattle.std.specs.Option.{option_or}
use Rattle.oidc_types.specs.{TextAndUrl}
use Rattle.oidc_client.specs.Client.{new_client}
use Rattle.oidc_client.specs.Authorization.{new_request, Code}
use Rattle.oidc_login.specs.Begin.{LoginRequest, Begin as BeginOf, begin_of}
use Rattle.oidc_login.specs.Events as runs
use Rattle.oidc_cli.specs.Types.{SeenScriptClient}
use Rattle.oidc_cli.specs.Events.{SeenClientLine, SeenCallbackLine}
use Rattle.oidc_cli.specs.declared.events.BeginLine.{BeginLine}
use Rattle.oidc_cli.specs.declared.events.Event.{Event}
use Rattle.oidc_cli.specs.declared.events.Event.TheVariants.{Client, Begin, Callback}

-- the client of a client line; nothing is known of its provider's keys
abbrev pub client_of : SeenClientLine → SeenScriptClient
client_of line = record (new_client line.id line.provider.issuer []) {
  client_secret = line.secret;
  redirect_uri = line.redirect;
  allowed = Some line.algorithms;
  reading = line.reading;
  auth_uri = Some line.provider.auth;
  token_uri = Some line.provider.token;
  user_info_url = line.provider.user_info;
}

-- the authorization endpoint: the issuer would stand for none, but each client of a script has one (`client_of`)
abbrev pub endpoint_of : SeenScriptClient → TextAndUrl
endpoint_of client = unwrap_or client.auth_uri client.issuer

-- a client's request for a code, with this state and nonce
abbrev pub request_for_code : SeenScriptClient → List ℕ → List ℕ → LoginRequest
request_for_code client state nonce = new_request client (endpoint_of client) Code state nonce

-- the request of a begin line: its redirect is the line's, or else the client's
abbrev pub request_of : SeenScriptClient → BeginLine → LoginRequest
request_of client line = record (request_for_code client line.state line.nonce) {
  redirect_uri = option_or line.redirect client.redirect_uri;
}

abbrev pub begin_of_line : SeenScriptClient → BeginLine → BeginOf
begin_of_line client line = begin_of (request_of client line) line.verifier line.user_info

abbrev pub call_of_line : SeenCallbackLine → runs.Call
call_of_line line = record { query = line.query; now = line.now; answers = line.answers }

-- what a line is among the events of logins: a begin, a callback, or nothing
abbrev pub login_event : SeenScriptClient → Option Event → Option runs.Event
login_event client (Some (Begin line)) = Some (runs.begins (begin_of_line client line))
login_event client (Some (Callback line)) = Some (runs.calls (call_of_line line))
login_event client (Some (Client line)) = None
login_event client None = None

-- an event, where there is one, before others
abbrev pub before : Option runs.Event → List runs.Event → List runs.Event
before None later = later
before (Some event) later = event ∷ later

-- the begins and callbacks of lines, in their order
abbrev pub login_events : SeenScriptClient → List (Option Event) → List runs.Event
login_events client [] = []
login_events client (event ∷ later) = before (login_event client event) (login_events client later)
