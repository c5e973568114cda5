use Rattle.oidc_login.specs.Types.{site_types}
use Rattle.oidc_login.specs.FrontChannel.{front_attempt}
use Rattle.oidc_login.proofs.FrontCalled as called
use Rattle.oidc_login.proofs.front.front_channel.Goals as goal

pub returns-clause-cause : goal.returns-clause-cause
returns-clause-cause g c =
    let types = site_types g.AC.AdditionalClaims.read_of g.GC.GenderClaim.read_of g.K.JsonWebKey g.K.KeyUse.JsonWebKeyUse in
    called.caused types (front_attempt c.args.client.now c.args.query.now c.args.state.now c.args.nonce.now c.args.now.nanosecond) c.front_reply.result c.front_reply.ensures.reply

pub returns-clause-refused : goal.returns-clause-refused
returns-clause-refused g c =
    let types = site_types g.AC.AdditionalClaims.read_of g.GC.GenderClaim.read_of g.K.JsonWebKey g.K.KeyUse.JsonWebKeyUse in
    called.refused_given types (front_attempt c.args.client.now c.args.query.now c.args.state.now c.args.nonce.now c.args.now.nanosecond) c.front_reply.result c.front_reply.ensures.reply

pub returns-clause-no_inner_memory : goal.returns-clause-no_inner_memory
returns-clause-no_inner_memory g c =
    let types = site_types g.AC.AdditionalClaims.read_of g.GC.GenderClaim.read_of g.K.JsonWebKey g.K.KeyUse.JsonWebKeyUse in
    called.no_inner_memory types (front_attempt c.args.client.now c.args.query.now c.args.state.now c.args.nonce.now c.args.now.nanosecond) c.front_reply.result c.front_reply.ensures.reply g.met.K.JsonWebKey.verdict_is_never_memory

pub returns-clause-answered : goal.returns-clause-answered
returns-clause-answered g c =
    let types = site_types g.AC.AdditionalClaims.read_of g.GC.GenderClaim.read_of g.K.JsonWebKey g.K.KeyUse.JsonWebKeyUse in
    called.answered types (front_attempt c.args.client.now c.args.query.now c.args.state.now c.args.nonce.now c.args.now.nanosecond) c.front_reply.result c.front_reply.ensures.reply

pub returns-clause-answers : goal.returns-clause-answers
returns-clause-answers g c =
    let types = site_types g.AC.AdditionalClaims.read_of g.GC.GenderClaim.read_of g.K.JsonWebKey g.K.KeyUse.JsonWebKeyUse in
    called.answers_given types (front_attempt c.args.client.now c.args.query.now c.args.state.now c.args.nonce.now c.args.now.nanosecond) c.front_reply.result c.front_reply.ensures.reply

pub returns-clause-own_state : goal.returns-clause-own_state
returns-clause-own_state g c =
    let types = site_types g.AC.AdditionalClaims.read_of g.GC.GenderClaim.read_of g.K.JsonWebKey g.K.KeyUse.JsonWebKeyUse in
    called.ok_state types (front_attempt c.args.client.now c.args.query.now c.args.state.now c.args.nonce.now c.args.now.nanosecond) c.front_reply.result c.front_reply.ensures.reply

pub returns-clause-accepted : goal.returns-clause-accepted
returns-clause-accepted g c =
    let types = site_types g.AC.AdditionalClaims.read_of g.GC.GenderClaim.read_of g.K.JsonWebKey g.K.KeyUse.JsonWebKeyUse in
    called.ok_accepted types (front_attempt c.args.client.now c.args.query.now c.args.state.now c.args.nonce.now c.args.now.nanosecond) c.front_reply.result c.front_reply.ensures.reply

pub returns-clause-token_hash : goal.returns-clause-token_hash
returns-clause-token_hash g c =
    let types = site_types g.AC.AdditionalClaims.read_of g.GC.GenderClaim.read_of g.K.JsonWebKey g.K.KeyUse.JsonWebKeyUse in
    called.ok_token_hash types (front_attempt c.args.client.now c.args.query.now c.args.state.now c.args.nonce.now c.args.now.nanosecond) c.front_reply.result c.front_reply.ensures.reply

pub returns-clause-code_hash : goal.returns-clause-code_hash
returns-clause-code_hash g c =
    let types = site_types g.AC.AdditionalClaims.read_of g.GC.GenderClaim.read_of g.K.JsonWebKey g.K.KeyUse.JsonWebKeyUse in
    called.ok_code_hash types (front_attempt c.args.client.now c.args.query.now c.args.state.now c.args.nonce.now c.args.now.nanosecond) c.front_reply.result c.front_reply.ensures.reply

pub returns-clause-demanded : goal.returns-clause-demanded
returns-clause-demanded g c =
    let types = site_types g.AC.AdditionalClaims.read_of g.GC.GenderClaim.read_of g.K.JsonWebKey g.K.KeyUse.JsonWebKeyUse in
    called.ok_demanded types (front_attempt c.args.client.now c.args.query.now c.args.state.now c.args.nonce.now c.args.now.nanosecond) c.front_reply.result c.front_reply.ensures.reply
