use Rattle.std.proofs.Common.{◌≡◌, None, Some}
use Rattle.oidc_device.proofs.Signing.{no_token, passes, refuses}
use Rattle.oidc_device.proofs.token.checked_tokens.Goals as goal

pub returns-in_default-clause-refused : goal.returns-in_default-clause-refused
returns-in_default-clause-refused g c =
    let none : c.args.tokens.now.extra_fields.id_token ≡ None = cc in
    no_token _ c.args.client.now c.args.now.nanosecond c.args.tokens.now none

pub returns-clause-passed : goal.returns-clause-passed
returns-clause-passed g c =
    let is : c.args.tokens.now.extra_fields.id_token ≡ Some c.in-Some.token.now = cc in
    let own : c.access_token.result.now ≡ c.args.tokens.now.access_token = cc in
    passes _ c.args.client.now c.args.now.nanosecond c.args.tokens.now c.in-Some.token.now is c.accepted_token.result (rw own at c.accepted_token.ensures.gives)

pub returns-clause-refused : goal.returns-clause-refused
returns-clause-refused g c =
    let is : c.args.tokens.now.extra_fields.id_token ≡ Some c.in-Some.token.now = cc in
    let own : c.access_token.result.now ≡ c.args.tokens.now.access_token = cc in
    refuses _ c.args.client.now c.args.now.nanosecond c.args.tokens.now c.in-Some.token.now is c.accepted_token.result (rw own at c.accepted_token.ensures.gives)
