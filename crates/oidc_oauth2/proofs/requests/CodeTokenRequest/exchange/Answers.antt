use Rattle.std.proofs.Common.{refl, rules}
use Rattle.oidc_oauth2.specs.TokenAnswers.{is_fault}
use Rattle.oidc_oauth2.proofs.Runs.{left_alone, blamed_by}
use Rattle.oidc_oauth2.proofs.AnswerRows.{code_unmade, code_forgone, code_answered}
use Rattle.oidc_oauth2.proofs.requests.CodeTokenRequest.exchange.Goals as goal

pub returns-in-Err-Uri-clause-follows : goal.returns-in-Err-Uri-clause-follows
returns-in-Err-Uri-clause-follows g c = code_unmade g.TE.ErrorResponse.read_of (g.TR.OAuth2TokenResponse.read_of c.args.self.reading) _ (search rules) _

pub returns-in-Err-Memory-clause-follows : goal.returns-in-Err-Memory-clause-follows
returns-in-Err-Memory-clause-follows g c =
    code_forgone g.TE.ErrorResponse.read_of (g.TR.OAuth2TokenResponse.read_of c.args.self.reading) _ _ _ _ refl (left_alone _)

pub returns-in_err-answer-in-Ok-clause-follows : goal.returns-in_err-answer-in-Ok-clause-follows
returns-in_err-answer-in-Ok-clause-follows g c =
    code_forgone g.TE.ErrorResponse.read_of (g.TR.OAuth2TokenResponse.read_of c.args.self.reading) _ _ _ _ (search rules) c.in_err-answer-in-Ok.ensures.exchanged

pub returns-clause-follows : goal.returns-clause-follows
returns-clause-follows g c =
    code_answered g.TE.ErrorResponse.read_of (g.TR.OAuth2TokenResponse.read_of c.args.self.reading) _ _ (search rules) _ _ _ _ c.in_ok-answer-in-Ok.ensures.exchanged c.judge_answer.ensures.gives

pub returns-clause-blamed : goal.returns-clause-blamed
returns-clause-blamed g c = blamed_by is_fault _ c.in_ok-answer-in-Ok.ensures.blamed c.judge_answer.ensures.fault
