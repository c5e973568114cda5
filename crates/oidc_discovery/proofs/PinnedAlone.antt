-- A client of a document's metadata allows the pinned algorithm alone.
use Rattle.std.proofs.Common.{◌≡◌, [], ◌∷◌, Bool, true, false, Ok, Err, sym, ap, if◌then◌else◌}
use Rattle.oidc_types.specs.declared.core_algorithms.CoreJwsSigningAlgorithm.{CoreJwsSigningAlgorithm}
use Rattle.oidc_client.specs.ProviderMetadata.{SeenProviderMetadata, client_of_provider}
use Rattle.oidc_rsa.specs.ProviderKey.{SeenProviderKey}
use Rattle.oidc_discovery.specs.declared.errors.PinError.TheVariants.{NotListed}
use Rattle.oidc_discovery.specs.Pinned.{Additional, lists, metadata_with, AllowsPinnedAlone}

abbrev Made : Type 0
Made = SeenProviderMetadata Additional SeenProviderKey CoreJwsSigningAlgorithm

of_test : (listed : Bool) (meant made : Made) → (if listed then Ok meant else Err NotListed) ≡ Ok made → meant ≡ made
of_test true meant made e = cc
of_test false meant made e = cc

pub pinned_alone : AllowsPinnedAlone
pinned_alone said algorithm keys made client_id secret e =
    let same : metadata_with said (algorithm ∷ []) keys ≡ made =
    of_test (lists said algorithm) (metadata_with said (algorithm ∷ []) keys) made e in
    ap (λ (m : Made). (client_of_provider m client_id secret).allowed) (sym same)
