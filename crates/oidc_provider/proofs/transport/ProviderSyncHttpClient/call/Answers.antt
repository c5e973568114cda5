-- That each cause has its answer rests on the two clauses before it: the answer is the table's, and so is what is left.
use Rattle.std.proofs.Common.{◌≡◌}
use Rattle.oidc_oauth2.specs.Messages.{seen_response}
use Rattle.oidc_provider.specs.Answers.{provider_answer, after}
use Rattle.oidc_provider.proofs.AnswerCauses.{answers}
use Rattle.oidc_provider.proofs.transport.ProviderSyncHttpClient.call.Goals as goal

pub returns-in-Ok-keep-clause-answers : goal.returns-in-Ok-keep-clause-answers
returns-in-Ok-keep-clause-answers g c =
    let own_response : seen_response c.in-Ok.reply.response ≡ (provider_answer c.args.self.now c.args.request).response = cc (c.in-Ok.ensures.response, c.request.view_is) in
    let own_state : c.keep.new.self ≡ after c.args.self.now c.args.request =
    cc (c.in-Ok-keep.ensures.ok, c.in-Ok.ensures.redeems, c.in-Ok.ensures.kept, c.request.view_is) in
    answers c.args.self.now c.args.request c.keep.new.self (seen_response c.in-Ok.reply.response) own_response own_state
