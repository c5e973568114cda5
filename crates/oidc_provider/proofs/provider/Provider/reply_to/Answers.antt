use Rattle.std.proofs.Common.{◌≡◌, List, ap, ◌∙◌}
use Rattle.std.specs.Prelude.{IfOk, option_map}
use Rattle.std.specs.String.{string_bytes}
use Rattle.oidc_oauth2.specs.Messages.{seen_response}
use Rattle.oidc_provider.specs.Provider.{SeenProvider}
use Rattle.oidc_provider.specs.Answers.{Answer, provider_answer}
use Rattle.oidc_provider.specs.Rows as rows
use Rattle.oidc_provider.proofs.RowOf.{by_row}
use Rattle.oidc_provider.specs.declared.settings.Registration.{Registration}
use Rattle.oidc_provider.proofs.provider.Provider.reply_to.Goals as goal

pub returns-in-Ok-clause-response : goal.returns-in-Ok-clause-response
returns-in-Ok-clause-response g c =
    by_row c.args.self.now c.args.request.now (rows.row_answer c.in-Ok.row) (λ (answer : Answer). IfOk c.reply_of.result (λ reply. seen_response reply.response ≡ answer.response))
    (c.in-Ok.ensures ∙ ap (λ (list : List Registration). provider_answer (rows.provider_of c.self.inside.settings list c.self.inside.grants) c.args.request.now) c.deref.ensures.value ∙ ap (λ (p : SeenProvider). provider_answer (rows.provider_of p.settings p.registrations p.grants) c.args.request.now) c.self.view_is) c.reply_of.ensures.response

pub returns-in-Ok-clause-kept : goal.returns-in-Ok-clause-kept
returns-in-Ok-clause-kept g c =
    by_row c.args.self.now c.args.request.now (rows.row_answer c.in-Ok.row) (λ (answer : Answer). IfOk c.reply_of.result (λ reply. reply.kept ≡ answer.response))
    (c.in-Ok.ensures ∙ ap (λ (list : List Registration). provider_answer (rows.provider_of c.self.inside.settings list c.self.inside.grants) c.args.request.now) c.deref.ensures.value ∙ ap (λ (p : SeenProvider). provider_answer (rows.provider_of p.settings p.registrations p.grants) c.args.request.now) c.self.view_is) c.reply_of.ensures.kept

pub returns-in-Ok-clause-redeems : goal.returns-in-Ok-clause-redeems
returns-in-Ok-clause-redeems g c =
    by_row c.args.self.now c.args.request.now (rows.row_answer c.in-Ok.row) (λ (answer : Answer). IfOk c.reply_of.result (λ reply. option_map string_bytes reply.redeems ≡ answer.redeems))
    (c.in-Ok.ensures ∙ ap (λ (list : List Registration). provider_answer (rows.provider_of c.self.inside.settings list c.self.inside.grants) c.args.request.now) c.deref.ensures.value ∙ ap (λ (p : SeenProvider). provider_answer (rows.provider_of p.settings p.registrations p.grants) c.args.request.now) c.self.view_is) c.reply_of.ensures.redeems
