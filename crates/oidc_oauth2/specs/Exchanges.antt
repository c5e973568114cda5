-- What requests leave of any transport.
use Rattle.std.specs.Prelude.{◌≡◌, ◌≤◌, ℕ, List, [], ◌∷◌, length, take, Option, None, Some, Result, Ok, Err, IfErr, true}
use Rattle.http.specs.declared.response.Response.{Response}
use Rattle.oidc_oauth2.specs.Replies.{ErrorMeaning, OrMemory, Gives}
use Rattle.oidc_oauth2.specs.Messages.{SeenRequest, SeenResponse, SeenAnswer, seen_response}
use Rattle.oidc_oauth2.specs.Transport.{Log, Script, log_after, Plays, HasRisen, first_answer}

-- what is known of a transport at one time: its log, and what it answers to the requests to come
pub record Known : Type 0 where
  pub log : Option Log
  pub script : Option Script

abbrev pub known : Option Log → Option Script → Known
known log script = record { log = log; script = script }

-- ---- one request

-- an answer, whatever the transport's error was
abbrev pub answer_of : {E : Type 0} → Result (Response (List ℕ)) E → SeenAnswer
answer_of (Ok response) = Some (seen_response response)
answer_of (Err e) = None

-- This one request was handed over and took this answer, and nothing else was.
abbrev pub Exchanged : Known → Known → SeenRequest → SeenAnswer → Type 0
Exchanged old new request answer =
    (new.log ≡ log_after old.log (request ∷ []) (answer ∷ [])) × Plays old.script (request ∷ []) (answer ∷ []) new.script

-- nothing was handed over
abbrev pub Untouched : Known → Known → Type 0
Untouched old new = (new.log ≡ old.log) × Plays old.script [] [] new.script

-- ---- runs of requests

-- what is meant where some answers come: the reply, and the requests that are sent for it
pub record Run (A F : Type 0) : Type 0 where
  pub reply : Result A F
  pub sent : List SeenRequest

module _ {A F : Type 0} where
  -- the reply by an answer: this refusal of a fault, or what the response is worth
  abbrev pub reply_by : F → (SeenResponse → Result A F) → SeenAnswer → Result A F
  reply_by fault worth None = Err fault
  reply_by fault worth (Some response) = worth response

  -- the run of one request, where it is made: its reply is that by the first answer
  abbrev pub one_request : (SeenAnswer → Result A F) → Result SeenRequest F → List SeenAnswer → Run A F
  one_request reply (Err refusal) answers = record { reply = Err refusal; sent = [] }
  one_request reply (Ok request) answers = record { reply = reply (first_answer answers); sent = request ∷ [] }

-- For some answers that came: each took one of the run's requests for them, in their order, and nothing else
-- was handed over. The result is the run's reply, or want of memory, before which some may not have been sent.
pub record Follows {A E F : Type 0} (errors : ErrorMeaning E F) (run : List SeenAnswer → Run A F) (old new : Known)
    (result : Result A E) : Type 0 where
  pub answers : List SeenAnswer
  pub logged : new.log ≡ log_after old.log (take (length answers) (run answers).sent) answers
  pub plays : Plays old.script (take (length answers) (run answers).sent) answers new.script
  pub answered : length answers ≤ length (run answers).sent
  pub all_sent : OrMemory errors result (length answers ≡ length (run answers).sent)
  pub reply : Gives errors result (run answers).reply

-- a fault only where the count of faults has risen, or stands at its last value
abbrev pub IsRequestBlamed : {A E F : Type 0} → ErrorMeaning E F → ℕ → ℕ → Result A E → Type 0
IsRequestBlamed errors before now result = IfErr result (λ e. errors.is_fault e ≡ true → HasRisen before now)
