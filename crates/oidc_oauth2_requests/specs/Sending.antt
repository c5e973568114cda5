-- What is left of a transport when a request was handed over, if one was made. No public clause cites this.
use Rattle.std.specs.Prelude.{◌≡◌, List, ℕ, Option, None, Some, Result, Ok, Err}
use Rattle.http.specs.declared.response.Response.{Response}
use Rattle.oidc_oauth2.specs.Messages.{SeenRequest, SeenAnswer, seen_response}
use Rattle.oidc_oauth2.specs.Exchanges.{Known, Exchanged, Untouched}
use Rattle.oidc_oauth2.specs.declared.token_answers.OtherCause.TheVariants.{Uri}
use Rattle.oidc_oauth2.specs.declared.token_answers.RequestTokenError.{RequestTokenError}
use Rattle.oidc_oauth2.specs.declared.token_answers.RequestTokenError.TheVariants.{Request, Other, Memory}

-- The request was made and took this answer.
pub record Took (meant : Option SeenRequest) (old new : Known) (answer : SeenAnswer) : Type 0 where
  pub request : SeenRequest
  pub made : meant ≡ Some request
  pub exchanged : Exchanged old new request answer

-- No request was made, and nothing was handed over.
pub record Unmade (meant : Option SeenRequest) (old new : Known) : Type 0 where
  pub none : meant ≡ None
  pub same : new ≡ old

abbrev pub Sent : {RE TE : Type 0} → Option SeenRequest → Known → Known → Result (Response (List ℕ)) (RequestTokenError RE TE) → Type 0
Sent meant old new (Ok response) = Took meant old new (Some (seen_response response))
Sent meant old new (Err (Other Uri)) = Unmade meant old new
Sent meant old new (Err (Request e)) = Took meant old new None
Sent meant old new (Err Memory) = Untouched old new
Sent meant old new (Err e) = ⊥
