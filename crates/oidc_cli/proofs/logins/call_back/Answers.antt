use Rattle.std.proofs.Common.{◌≡◌, Some, refl, sym, ap, subst, ◌∙◌}
use Rattle.oidc_oauth2.specs.Recorded.{SeenRecorded}
use Rattle.oidc_oauth2.specs.Transport.{Log}
use Rattle.oidc_oauth2.specs.Exchanges.{Run}
use Rattle.oidc_login.specs.Errors.{Error, seen_reply}
use Rattle.oidc_login.specs.Events.{called_with}
use Rattle.oidc_login.specs.Callback.{outcome, callback_store}
use Rattle.oidc_login.specs.Runs.{attempt}
use Rattle.oidc_cli.specs.Types.{types, SeenSignedIn}
use Rattle.oidc_cli.specs.Report.{HasNoFloats}
use Rattle.oidc_cli.specs.Logins.{call_of_line}
use Rattle.oidc_cli.proofs.NoFloat.{no_floats}
use Rattle.oidc_cli.proofs.Callbacks.{holds, if_replied, on_replied, recorded_reply, recorded_sent}
use Rattle.oidc_cli.proofs.logins.call_back.Goals as goal

pub returns-clause-reply : goal.returns-clause-reply
returns-clause-reply c =
    let query : c.as_bytes.result.now ≡ c.args.line.query = c.as_bytes.ensures.value ∙ ap (λ l. l.query) c.line.view_is in
    let now : c.line.inside.now.nanosecond ≡ c.args.line.now = ap (λ l. l.now) c.line.view_is in
    let left : c.new-http.result.left ≡ c.args.line.answers = c.new-http.ensures.left ∙ ap (λ l. l.answers) c.line.view_is in
    let a = attempt c.args.logins.now c.as_bytes.result.now c.line.inside.now.nanosecond in
    let meant : outcome types a c.new-http.result.left
    ≡ outcome types (called_with c.args.logins.now.client c.args.logins.now.pending (call_of_line c.args.line)) c.args.line.answers = rw (query, now, left) refl in
    let ran = c.callback-reply.ensures.ran in
    if_replied _ _ c.replied_with.ensures.reply c.replied_with.ensures.memory (λ replied is memory.
    ap seen_reply is
    ∙ recorded_reply _ _ _ _ ran c.new-http.result.left refl (holds _ _ memory ran.exchanged.all_sent) (holds _ _ memory ran.exchanged.reply)
    ∙ ap (λ (r : Run SeenSignedIn Error). r.reply) meant)

pub returns-clause-sent : goal.returns-clause-sent
returns-clause-sent c =
    let query : c.as_bytes.result.now ≡ c.args.line.query = c.as_bytes.ensures.value ∙ ap (λ l. l.query) c.line.view_is in
    let now : c.line.inside.now.nanosecond ≡ c.args.line.now = ap (λ l. l.now) c.line.view_is in
    let left : c.new-http.result.left ≡ c.args.line.answers = c.new-http.ensures.left ∙ ap (λ l. l.answers) c.line.view_is in
    let a = attempt c.args.logins.now c.as_bytes.result.now c.line.inside.now.nanosecond in
    let meant : outcome types a c.new-http.result.left
    ≡ outcome types (called_with c.args.logins.now.client c.args.logins.now.pending (call_of_line c.args.line)) c.args.line.answers = rw (query, now, left) refl in
    let ran = c.callback-reply.ensures.ran in
    let log : Log = record { requests = c.callback-reply.new.http.requests; answers = c.callback-reply.new.http.given } in
    if_replied _ _ c.replied_with.ensures.http c.replied_with.ensures.memory (λ replied is memory.
    ap (λ (h : SeenRecorded). h.requests) is
    ∙ recorded_sent _ _ _ _ ran c.new-http.result.left log refl (ap Some (λ i. record { requests = c.new-http.ensures.requests i; answers = c.new-http.ensures.given i })) refl
    (holds _ _ memory ran.exchanged.all_sent)
    ∙ ap (λ (r : Run SeenSignedIn Error). r.sent) meant)

pub returns-clause-no_floats : goal.returns-clause-no_floats
returns-clause-no_floats c =
    let ran = c.callback-reply.ensures.ran in
    if_replied c.replied_with.result (λ replied. HasNoFloats (seen_reply replied.reply)) c.replied_with.ensures.reply c.replied_with.ensures.memory (λ replied is memory.
    subst HasNoFloats (sym (ap seen_reply is)) (no_floats _ ran.exchanged.answers c.callback-reply.result ran.signed_in))

pub returns-clause-store : goal.returns-clause-store
returns-clause-store c =
    let query : c.as_bytes.result.now ≡ c.args.line.query = c.as_bytes.ensures.value ∙ ap (λ l. l.query) c.line.view_is in
    on_replied _ _ c.replied_with.ensures.memory (λ memory.
    holds _ _ memory c.callback-reply.ensures.left ∙ ap (callback_store c.args.logins.now.pending) query)
