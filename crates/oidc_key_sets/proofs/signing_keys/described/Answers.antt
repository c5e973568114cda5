use Rattle.std.proofs.Common.{◌∙◌, ap, option_and_then}
use Rattle.oidc_key_sets.specs.SigningKeys.{algorithm_named}
use Rattle.oidc_key_sets.proofs.SaidKeys.{described_by}
use Rattle.oidc_key_sets.proofs.signing_keys.described.Goals as goal

pub returns : goal.returns
returns c =
    described_by c.args.said.now c.requires.0 c.args.key c.in_ok-key.key c.in_ok-key-2.key c.in_ok-key-3.key c.with_algorithm.result _ _ _ _ c.requires.1
    c.id.ensures.id c.in_ok-key.ensures c.purpose.ensures.purpose c.in_ok-key-2.ensures
    c.operations.ensures.operations c.in_ok-key-3.ensures
    (c.algorithm_named.ensures ∙ ap (option_and_then algorithm_named) c.algorithm.ensures.algorithm) c.with_algorithm.ensures
