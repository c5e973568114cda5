use Rattle.std.proofs.Common.{◌≡◌, ◌∙◌, ap, string_bytes}
use Rattle.std.specs.Option.{option_copied}
use Rattle.oidc_jwt.specs.Header.{written_header}
use Rattle.oidc_jwt.proofs.IssuedToken.{ready_of, headed_of, headed_by}
use Rattle.oidc_jwt.proofs.jwt.Unsigned.of.Goals as goal

pub returns-clause-ready : goal.returns-clause-ready
returns-clause-ready g c =
    let id = g.S.VerificationKey.JsonWebKey.key_id (g.S.PrivateSigningKey.verification_key c.args.key.now) in
    let named : option_copied c.key_id.result ≡ id = c.key_id.ensures.id ∙ ap g.S.VerificationKey.JsonWebKey.key_id c.in_ok-checker.ensures.key in
    let header : c.in_ok-header.header.items ≡ written_header c.args.alg.now id = c.in_ok-header.ensures.members ∙ ap (written_header c.args.alg.now) named in
    ready_of c.args.alg.now id (g.P.Payload.write_of c.args.payload.now) (string_bytes c.in_ok-message.message) c.in_ok-header.header.items c.in_ok-payload.payload.items _ _ header
    c.in_ok-payload.ensures.members c.as_slice.ensures.value c.as_slice-2.ensures.value c.in_ok-header.ensures.texts c.in_ok-payload.ensures.texts c.in_ok-message.ensures.whole

pub returns-clause-headed : goal.returns-clause-headed
returns-clause-headed g c =
    let id = g.S.VerificationKey.JsonWebKey.key_id (g.S.PrivateSigningKey.verification_key c.args.key.now) in
    let named : option_copied c.key_id.result ≡ id = c.key_id.ensures.id ∙ ap g.S.VerificationKey.JsonWebKey.key_id c.in_ok-checker.ensures.key in
    let header : c.in_ok-header.header.items ≡ written_header c.args.alg.now id = c.in_ok-header.ensures.members ∙ ap (written_header c.args.alg.now) named in
    headed_by c.args.alg.now id (string_bytes c.in_ok-message.message)
    (headed_of c.args.alg.now id (string_bytes c.in_ok-message.message) c.in_ok-header.header.items _ header c.as_slice.ensures.value c.in_ok-message.ensures.head)
