use Rattle.oidc_discovery.proofs.PinnedAlone.{pinned_alone}
use Rattle.oidc_discovery.proofs.laws.pinned_alone.Goals as goal

pub returns : goal.returns
returns c = record { alone = pinned_alone }
