use Rattle.std.proofs.Common.{◌∙◌, ap}
use Rattle.oidc_types.specs.Localized.{variants_of}
use Rattle.std.proofs.Common.{None}
use Rattle.oidc_types.proofs.Entries.{is_empty}
use Rattle.oidc_types.proofs.localized.LocalizedClaim.new.Goals as goal

pub returns : goal.returns
returns g c = record { empty = ap (variants_of None) c.new.ensures.empty ∙ is_empty }
