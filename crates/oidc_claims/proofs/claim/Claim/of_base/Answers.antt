use Rattle.std.proofs.Common.{◌∙◌, ap}
use Rattle.std.specs.List.{find}
use Rattle.std.specs.Str.{bytes_eq}
use Rattle.oidc_claims.specs.Table.{name_of}
use Rattle.oidc_claims.proofs.Lengths.{by_length}
use Rattle.oidc_claims.proofs.claim.Claim.of_base.Goals as goal

pub returns : goal.returns
returns c =
    let base = c.args.base.now in
    c.named.ensures ∙ ap (find (λ claim. bytes_eq (name_of claim) base)) c.of_length.ensures ∙ by_length base
