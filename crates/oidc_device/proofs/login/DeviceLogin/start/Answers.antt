use Rattle.oidc_device.proofs.Called as called
use Rattle.oidc_device.proofs.login.DeviceLogin.start.Goals as goal

pub returns-clause-ran : goal.returns-clause-ran
returns-clause-ran g c = rw c.of_codes.ensures (c.codes_for-codes.ensures.ran c.args.now.nanosecond)

pub returns-clause-first : goal.returns-clause-first
returns-clause-first g c = rw c.of_codes.ensures (called.first_of c.args.client.now c.args.now.nanosecond _ _ _ (c.codes_for-codes.ensures.ran c.args.now.nanosecond))

pub returns-clause-uri : goal.returns-clause-uri
returns-clause-uri g c = rw c.of_codes.ensures (called.start_uri_of c.args.client.now c.args.now.nanosecond _ _ _ (c.codes_for-codes.ensures.ran c.args.now.nanosecond))

pub returns-clause-no_address : goal.returns-clause-no_address
returns-clause-no_address g c = rw c.of_codes.ensures (called.start_no_address c.args.client.now c.args.now.nanosecond _ _ _ (c.codes_for-codes.ensures.ran c.args.now.nanosecond))

pub returns-clause-blamed : goal.returns-clause-blamed
returns-clause-blamed g c = rw c.of_codes.ensures (called.start_blamed c.args.client.now c.args.now.nanosecond c.codes_for-codes.result _ c.codes_for-codes.ensures.blamed)

pub returns-clause-no_inner_memory : goal.returns-clause-no_inner_memory
returns-clause-no_inner_memory g c = rw c.of_codes.ensures (called.start_hides c.args.client.now c.args.now.nanosecond c.codes_for-codes.result c.codes_for-codes.ensures.no_inner_memory)
