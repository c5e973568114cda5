use Rattle.std.proofs.Common.{rules}
use Rattle.oidc_members.specs.Seen.{strict}
use Rattle.oidc_oauth2.specs.TokenAnswers.{is_fault}
use Rattle.oidc_oauth2.proofs.Runs.{no_fault}
use Rattle.oidc_oauth2_requests.proofs.Judges.{unblamed, ran_refused, ran_answered}
use Rattle.oidc_oauth2_requests.proofs.JudgeRecords.{records}
use Rattle.oidc_oauth2_requests.proofs.sending.introspection_over.Goals as goal

pub returns-in_err-response-clause-ran : goal.returns-in_err-response-clause-ran
returns-in_err-response-clause-ran g c =
    λ ask made. ran_refused _ _ _ (records g.TE.ErrorResponse.read_of (g.TIR.TokenIntrospectionResponse.read_of strict)) ask _ _ _ _ (search rules) (c.in_err-response.ensures.sent _ made)

pub returns-clause-ran : goal.returns-clause-ran
returns-clause-ran g c =
    λ ask made. ran_answered _ _ _ (records g.TE.ErrorResponse.read_of (g.TIR.TokenIntrospectionResponse.read_of strict)) ask _ _ c.in_ok-response.response _ (c.in_ok-response.ensures.sent _ made) c.introspection_in.ensures

pub returns-clause-blamed : goal.returns-clause-blamed
returns-clause-blamed g c = no_fault _ is_fault _ (unblamed _ _ _ (records g.TE.ErrorResponse.read_of (g.TIR.TokenIntrospectionResponse.read_of strict)) _ _ c.introspection_in.ensures)
