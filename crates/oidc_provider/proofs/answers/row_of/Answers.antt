use Rattle.std.proofs.Common.{sym, ◌∙◌}
use Rattle.oidc_provider.specs.Rows as rows
use Rattle.oidc_provider.proofs.RowOf.{posted, got, neither}
use Rattle.oidc_provider.proofs.answers.row_of.Goals as goal

pub returns-then-asks_for_tokens : goal.returns-then-asks_for_tokens
returns-then-asks_for_tokens c =
    posted (rows.provider_of c.args.settings.now c.args.registrations.now c.args.grants.now) c.args.request.now rows.row_answer
    (rows.bytes_of c.credentials_in-credentials.result) c.posted_row.result c.credentials_in-credentials.ensures
    (sym c.asks_for_tokens.ensures ∙ c.if-asks_for_tokens.true) c.posted_row.ensures

pub returns-then-asks_for_info : goal.returns-then-asks_for_info
returns-then-asks_for_info c =
    got (rows.provider_of c.args.settings.now c.args.registrations.now c.args.grants.now) c.args.request.now (rows.row_answer c.info_row.result)
    (rows.bytes_of c.credentials_in-credentials.result) c.credentials_in-credentials.ensures
    (sym c.asks_for_tokens.ensures ∙ c.if-asks_for_tokens.false) (sym c.asks_for_info.ensures ∙ c.if-asks_for_info.true) c.info_row.ensures

pub returns : goal.returns
returns c =
    neither (rows.provider_of c.args.settings.now c.args.registrations.now c.args.grants.now) c.args.request.now
    (sym c.asks_for_tokens.ensures ∙ c.if-asks_for_tokens.false) (sym c.asks_for_info.ensures ∙ c.if-asks_for_info.false)
