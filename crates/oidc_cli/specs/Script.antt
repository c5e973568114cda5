-- A script: its lines, what they say, and the first that says nothing in its place.
use Rattle.std.specs.Prelude.{ℕ, ◌==◌, ◌+◌, ◌&&◌, nat_lt, Bool, true, false, is_some, List, [], ◌∷◌, length, Option, None, Some, option_map, unwrap_or, not, if◌then◌else◌, codes}
use Rattle.std.specs.Str.{bytes_eq}
use Rattle.std.specs.List.{slice_split, list_all, list_any}
use Rattle.oidc_pairs.specs.Pairs.{pairs}
use Rattle.oidc_oauth2.specs.Messages.{SeenResponse, SeenAnswer}
use Rattle.oidc_cli.specs.Values.{◌>>=◌, url_of_text, pair_text, pair_value, lacks, optional_value, algorithms_of, demand_of, reading_on, moment_of_text, status_code_of, content_type_of}
use Rattle.oidc_cli.specs.Events.{SeenProviderUrls, SeenClientLine, SeenCallbackLine}
use Rattle.oidc_cli.specs.declared.events.BeginLine.{BeginLine}
use Rattle.oidc_cli.specs.declared.events.LineKind.{LineKind}
use Rattle.oidc_cli.specs.declared.events.LineKind.TheVariants as line_kind
use Rattle.oidc_cli.specs.declared.events.AnswerTo.{AnswerTo}
use Rattle.oidc_cli.specs.declared.events.AnswerTo.TheVariants as answer_to
use Rattle.oidc_cli.specs.declared.events.Event.{Event}
use Rattle.oidc_cli.specs.declared.events.Event.TheVariants.{Client, Begin, Callback}

-- how many bytes a script may have
abbrev pub limit : ℕ
limit = 67_108_864

-- ---- lines

-- the parts between line feeds: an empty last part is no line
abbrev pub lines_of_parts : List (List ℕ) → List (List ℕ)
lines_of_parts [] = []
lines_of_parts (part ∷ []) = if length part == 0 then [] else part ∷ []
lines_of_parts (part ∷ next ∷ rest) = part ∷ lines_of_parts (next ∷ rest)

-- A script is cut at its line feeds. A last line without one counts, a text that ends in one has no
-- further line, and the empty script has no lines. A carriage return is a byte of its line.
unfoldable pub lines : List ℕ → List (List ℕ)
lines script = lines_of_parts (slice_split (λ b. b == 10) script)

-- ---- the names on a line

-- the names that a line of this kind may have
abbrev pub names_of : LineKind → List (List ℕ)
names_of line_kind.Client =
    codes "op"
    ∷ codes "id"
    ∷ codes "secret"
    ∷ codes "issuer"
    ∷ codes "auth"
    ∷ codes "token"
    ∷ codes "userinfo"
    ∷ codes "algs"
    ∷ codes "redirect"
    ∷ codes "reading"
    ∷ []
names_of line_kind.Begin =
    codes "op"
    ∷ codes "state"
    ∷ codes "nonce"
    ∷ codes "verifier"
    ∷ codes "redirect"
    ∷ codes "userinfo"
    ∷ []
names_of line_kind.Callback =
    codes "op"
    ∷ codes "now"
    ∷ codes "query"
    ∷ codes "token_status"
    ∷ codes "token_type"
    ∷ codes "token_body"
    ∷ codes "token_fault"
    ∷ codes "info_status"
    ∷ codes "info_type"
    ∷ codes "info_body"
    ∷ codes "info_fault"
    ∷ []

abbrev pub is_name_of : LineKind → List ℕ → Bool
is_name_of kind name = list_any (λ known. bytes_eq name known) (names_of kind)

-- each name is one of these, and none stands twice
abbrev pub has_each_name_once : LineKind → List (List ℕ × List ℕ) → Bool
has_each_name_once kind line =
    list_all (λ pair. is_name_of kind pair.0 && is_some (pair_text line pair.0)) line

-- ---- events

-- A client line may lack `secret`, `redirect` and `reading`, a begin line `redirect`, and both may lack `userinfo`; a
-- callback line has `now` and `query`, and may have answers.

unfoldable pub provider_urls : List (List ℕ × List ℕ) → Option SeenProviderUrls
provider_urls line = do
  issuer ← pair_value url_of_text line (codes "issuer")
  auth ← pair_value url_of_text line (codes "auth")
  token ← pair_value url_of_text line (codes "token")
  user_info ← optional_value url_of_text line (codes "userinfo")
  Some (record { issuer = issuer; auth = auth; token = token; user_info = user_info })

abbrev pub client_values : List (List ℕ × List ℕ) → Option SeenClientLine
client_values line = do
  reading ← reading_on line
  id ← pair_text line (codes "id")
  secret ← optional_value Some line (codes "secret")
  redirect ← optional_value url_of_text line (codes "redirect")
  algorithms ← pair_value algorithms_of line (codes "algs")
  provider ← provider_urls line
  Some (record {
    id = id;
    secret = secret;
    provider = provider;
    redirect = redirect;
    algorithms = algorithms;
    reading = reading;
  })

abbrev pub begin_values : List (List ℕ × List ℕ) → Option BeginLine
begin_values line = do
  state ← pair_text line (codes "state")
  nonce ← pair_text line (codes "nonce")
  redirect ← optional_value url_of_text line (codes "redirect")
  verifier ← pair_text line (codes "verifier")
  user_info ← optional_value demand_of line (codes "userinfo")
  Some (record { state = state; nonce = nonce; redirect = redirect; verifier = verifier; user_info = user_info })

-- ---- answers

-- The answer to each of the two requests stands under four names: a fault alone, or a status and with it the other
-- two, each where it is given.

abbrev pub status_name : AnswerTo → List ℕ
status_name answer_to.Token = codes "token_status"
status_name answer_to.UserInfo = codes "info_status"

abbrev pub type_name : AnswerTo → List ℕ
type_name answer_to.Token = codes "token_type"
type_name answer_to.UserInfo = codes "info_type"

abbrev pub body_name : AnswerTo → List ℕ
body_name answer_to.Token = codes "token_body"
body_name answer_to.UserInfo = codes "info_body"

abbrev pub fault_name : AnswerTo → List ℕ
fault_name answer_to.Token = codes "token_fault"
fault_name answer_to.UserInfo = codes "info_fault"

-- a fault is `1`
abbrev pub fault_of_text : List ℕ → Option SeenAnswer
fault_of_text text = if bytes_eq text (codes "1") then Some None else None

-- the answer without a status, where there is one: a fault
unfoldable pub answer_without_status : AnswerTo → List (List ℕ × List ℕ) → Option (Option SeenAnswer)
answer_without_status to line =
    if not (lacks line (type_name to)) then None
    else if not (lacks line (body_name to)) then None
    else optional_value fault_of_text line (fault_name to)

-- the response with a status: its body is empty where it isn't given
unfoldable pub response_of : AnswerTo → List (List ℕ × List ℕ) → Option SeenResponse
response_of to line = do
  status ← pair_value status_code_of line (status_name to)
  content_type ← optional_value content_type_of line (type_name to)
  body ← optional_value Some line (body_name to)
  Some (record { status = status; content_type = content_type; body = unwrap_or body [] })

-- the answer to a request, where there is one: a response, or a fault
unfoldable pub answer_of : AnswerTo → List (List ℕ × List ℕ) → Option (Option SeenAnswer)
answer_of to line =
    if lacks line (status_name to) then answer_without_status to line
    else if not (lacks line (fault_name to)) then None
    else option_map (λ response. Some (Some response)) (response_of to line)

-- the answers in the order of their requests: the second is given only where the first is
abbrev pub in_order : Option SeenAnswer → Option SeenAnswer → Option (List SeenAnswer)
in_order None None = Some []
in_order None (Some info) = None
in_order (Some token) None = Some (token ∷ [])
in_order (Some token) (Some info) = Some (token ∷ info ∷ [])

-- what the provider answers
unfoldable pub answers_of : List (List ℕ × List ℕ) → Option (List SeenAnswer)
answers_of line = do
  token ← answer_of answer_to.Token line
  info ← answer_of answer_to.UserInfo line
  in_order token info

-- ---- callbacks

abbrev pub callback_values : List (List ℕ × List ℕ) → Option SeenCallbackLine
callback_values line = do
  now ← pair_value moment_of_text line (codes "now")
  query ← pair_text line (codes "query")
  answers ← answers_of line
  Some (record { now = now; query = query; answers = answers })

-- ---- the event of a line

abbrev pub kind_named : List ℕ → Option LineKind
kind_named text =
    if bytes_eq text (codes "client") then Some line_kind.Client
    else if bytes_eq text (codes "begin") then Some line_kind.Begin
    else if bytes_eq text (codes "callback") then Some line_kind.Callback
    else None

-- the kind of a line: its first pair is named `op`, and names the kind
abbrev pub kind_of : List (List ℕ × List ℕ) → Option LineKind
kind_of [] = None
kind_of (first ∷ others) = if bytes_eq first.0 (codes "op") then kind_named first.1 else None

-- the event of a line of this kind, whose names are right
abbrev pub event_values : LineKind → List (List ℕ × List ℕ) → Option Event
event_values line_kind.Client line = option_map Client (client_values line)
event_values line_kind.Begin line = option_map Begin (begin_values line)
event_values line_kind.Callback line = option_map Callback (callback_values line)

abbrev pub event_of_kind : LineKind → List (List ℕ × List ℕ) → Option Event
event_of_kind kind line = if has_each_name_once kind line then event_values kind line else None

unfoldable pub event_of_pairs : List (List ℕ × List ℕ) → Option Event
event_of_pairs line = kind_of line >>= λ kind. event_of_kind kind line

-- What a line says, where it is an event. It is read as form pairs.
abbrev pub event_of : List ℕ → Option Event
event_of line = event_of_pairs (pairs line)

-- ---- the first fault

-- The first line is a client line, and no later one is.

abbrev pub is_client : Option Event → Bool
is_client None = false
is_client (Some (Client line)) = true
is_client (Some (Begin line)) = false
is_client (Some (Callback line)) = false

-- a begin or a callback
abbrev pub is_step : Option Event → Bool
is_step None = false
is_step (Some (Client line)) = false
is_step (Some (Begin line)) = true
is_step (Some (Callback line)) = true

-- the number of the first of these lines that is no begin and no callback, where the first has number n
abbrev pub fault_from : ℕ → List (List ℕ) → Option ℕ
fault_from n [] = None
fault_from n (line ∷ rest) = if is_step (event_of line) then fault_from (n + 1) rest else Some n

-- the number of the first line that is no event in its place; without lines that is 1
abbrev pub fault_in : List (List ℕ) → Option ℕ
fault_in [] = Some 1
fault_in (first ∷ rest) = if is_client (event_of first) then fault_from 2 rest else Some 1

-- The number of the line with a script's first fault: 0 for a script that is too long. `None` where the
-- script has a line, and each of its lines is an event in its place.
unfoldable pub fault_of : List ℕ → Option ℕ
fault_of script = if nat_lt limit (length script) then Some 0 else fault_in (lines script)
