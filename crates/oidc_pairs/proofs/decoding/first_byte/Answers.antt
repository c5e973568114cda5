use Rattle.oidc_pairs.proofs.DecodedBytes.{decode_plus, decode_other}
use Rattle.oidc_pairs.proofs.decoding.first_byte.Goals as goal

pub returns-then-first-eq43-clause-bytes : goal.returns-then-first-eq43-clause-bytes
returns-then-first-eq43-clause-bytes c = decode_plus c.args.first c.args.later.now c.if-first-eq43.true

pub returns-then-first-ne37-clause-bytes : goal.returns-then-first-ne37-clause-bytes
returns-then-first-ne37-clause-bytes c = decode_other c.args.first c.args.later.now c.if-first-eq43.false c.if-first-ne37.true
