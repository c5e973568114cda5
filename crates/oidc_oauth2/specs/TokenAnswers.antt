-- What a response to a token request is worth (RFC 6749 sections 5.1 and 5.2).
use Rattle.std.specs.Prelude.{◌≡◌, ◌==◌, nat_lt, not, ℕ, List, length, Bool, true, false, Result, Ok, Err, if◌then◌else◌, codes}
use Rattle.oidc_members.specs.Seen.{SeenMember, SeenMembers}
use Rattle.oidc_members.specs.Objects.{split_of}
use Rattle.oidc_members.specs.declared.refusal.Refusal.{Refusal}
pub use Rattle.oidc_oauth2.specs.Replies.{◌>>=◌, ◌>>◌, ◌when◌, ◌or_as◌}
use Rattle.http.specs.declared.response.Response.{Response}
use Rattle.oidc_oauth2.specs.Replies.{ErrorMeaning, Unless}
use Rattle.oidc_oauth2.specs.Messages.{SeenResponse, seen_response}
use Rattle.oidc_oauth2.specs.HttpUtils.{may_be}
use Rattle.oidc_oauth2.specs.declared.token_answers.OtherCause.TheVariants.{EmptyBody, MediaType}
use Rattle.oidc_oauth2.specs.declared.token_answers.RequestTokenError.{RequestTokenError}
use Rattle.oidc_oauth2.specs.declared.token_answers.RequestTokenError.TheVariants.{ServerResponse, Request, Parse, Other, TooLong, Memory}

-- why there is no answer, whatever the transport's error was
abbrev pub TokenRefusal : Type 0 → Type 0
TokenRefusal TE = RequestTokenError (Unit {0}) TE

-- ---- the lines

abbrev pub is_over_long : List ℕ → Bool
is_over_long body = nat_lt 1_048_576 (length body)

abbrev pub is_empty : List ℕ → Bool
is_empty body = length body == 0

-- The media type of a response is absent, or that of JSON.
abbrev pub may_be_json : SeenResponse → Bool
may_be_json r = may_be r.content_type (codes "application/json")

-- the record that a body holds: the body is an object, and its members are read as the record
abbrev pub record_in : {A : Type 0} → (List SeenMember → Result A Refusal) → List ℕ → Result A Refusal
record_in read_of body = split_of body >>= read_of

module _ {TE TR : Type 0} (error_of : List SeenMember → Result TE Refusal) (token_of : List SeenMember → Result TR Refusal) where
  -- of status 200 (section 5.1)
  unfoldable pub tokens_in : SeenResponse → Result TR (TokenRefusal TE)
  tokens_in r = do
    Other MediaType when not (may_be_json r)
    Other EmptyBody when is_empty r.body
    record_in token_of r.body or_as (λ refusal. Parse refusal r.body)

  -- of another status (section 5.2), whatever its media type is
  unfoldable pub error_in : SeenResponse → Result TR (TokenRefusal TE)
  error_in r = do
    Other EmptyBody when is_empty r.body
    error ← record_in error_of r.body or_as (λ refusal. Parse refusal r.body)
    Err (ServerResponse error)

  unfoldable pub status_worth : SeenResponse → Result TR (TokenRefusal TE)
  status_worth r = if r.status == 200 then tokens_in r else error_in r

  -- The size is looked at before the status.
  unfoldable pub token_answer : SeenResponse → Result TR (TokenRefusal TE)
  token_answer r = do
    TooLong r.body when is_over_long r.body
    status_worth r

-- ---- the steps that answers to all requests share

-- what was read of a body, or the refusal beside that body
abbrev pub read_in : {A TE : Type 0} → List ℕ → Result A Refusal → Result A (TokenRefusal TE)
read_in body read = read or_as (λ refusal. Parse refusal body)

-- the members of the object that a body is, and the body
abbrev pub members_in : {TE : Type 0} → List ℕ → Result (List SeenMember × List ℕ) (TokenRefusal TE)
members_in body = read_in body (split_of body) >>= (λ members. Ok (members, body))

-- an answer of members and a body, as one of their list and the body
abbrev pub listed_with_body : {E : Type 0} → Result (SeenMembers × List ℕ) E → Result (List SeenMember × List ℕ) E
listed_with_body (Ok object) = Ok (object.0.list, object.1)
listed_with_body (Err e) = Err e

-- the object that a response of status 200 is
unfoldable pub object_in : {TE : Type 0} → SeenResponse → Result (List SeenMember × List ℕ) (TokenRefusal TE)
object_in r = do
  Other MediaType when not (may_be_json r)
  Other EmptyBody when is_empty r.body
  members_in r.body

module _ {TE : Type 0} (error_of : List SeenMember → Result TE Refusal) where
  -- the refusal by what was read as an error response
  abbrev pub refused_by : List ℕ → Result TE Refusal → TokenRefusal TE
  refused_by body (Ok error) = ServerResponse error
  refused_by body (Err refusal) = Parse refusal body

  -- the refusal that a response of another status is (section 5.2), whatever its media type is
  unfoldable pub refusal_in : SeenResponse → TokenRefusal TE
  refusal_in r = if is_empty r.body then Other EmptyBody else refused_by r.body (record_in error_of r.body)

  -- the response, where its body isn't too long and its status is 200
  unfoldable pub success_in : SeenResponse → Result SeenResponse (TokenRefusal TE)
  success_in r = do
    TooLong r.body when is_over_long r.body
    if r.status == 200 then Ok r else Err (refusal_in r)

  -- the object that it holds, where it should be a record
  abbrev pub object_answer : SeenResponse → Result (List SeenMember × List ℕ) (TokenRefusal TE)
  object_answer r = success_in r >>= object_in

-- ---- what is seen of an error

module _ {RE TE : Type 0} where
  abbrev pub seen_refusal : RequestTokenError RE TE → TokenRefusal TE
  seen_refusal (ServerResponse error) = ServerResponse error
  seen_refusal (Request e) = Request tt
  seen_refusal (Parse refusal body) = Parse refusal body
  seen_refusal (Other cause) = Other cause
  seen_refusal (TooLong body) = TooLong body
  seen_refusal Memory = Memory

  abbrev pub wants_memory : RequestTokenError RE TE → Bool
  wants_memory Memory = true
  wants_memory e = false

  -- the transport failed
  abbrev pub is_fault : RequestTokenError RE TE → Bool
  is_fault (Request e) = true
  is_fault e = false

  abbrev pub token_errors : ErrorMeaning (RequestTokenError RE TE) (TokenRefusal TE)
  token_errors = record { seen = seen_refusal; wants_memory = wants_memory; is_fault = is_fault }

-- the result is the response that is meant, or the refusal, or want of memory
abbrev pub GivesResponse : {RE TE : Type 0} → Result (Response (List ℕ)) (RequestTokenError RE TE) → Result SeenResponse (TokenRefusal TE) → Type 0
GivesResponse (Ok response) reply = reply ≡ Ok (seen_response response)
GivesResponse (Err e) reply = Unless (wants_memory e) (reply ≡ Err (seen_refusal e))
