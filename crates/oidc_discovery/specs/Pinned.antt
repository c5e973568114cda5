-- The metadata of a provider that was asked, under the one algorithm that a site pins (OpenID Connect Core 1.0 section
-- 3.1.3.7 item 7, RFC 8725 section 3.1).
use Rattle.std.specs.Prelude.{◌≡◌, ℕ, List, [], ◌∷◌, Bool, Option, Some, Result, Ok, Err, if◌then◌else◌}
use Rattle.std.specs.List.{list_any}
use Rattle.std.specs.Str.{bytes_eq}
use Rattle.oidc_types.specs.{signing_text}
use Rattle.oidc_types.specs.declared.core_algorithms.CoreJwsSigningAlgorithm.{CoreJwsSigningAlgorithm}
use Rattle.oidc_user_info.specs.declared.logout.LogoutProviderMetadata.{LogoutProviderMetadata}
use Rattle.oidc_user_info.specs.declared.provider_metadata.EmptyAdditionalProviderMetadata.{EmptyAdditionalProviderMetadata}
use Rattle.oidc_client.specs.ProviderMetadata.{SeenProviderMetadata, client_of_provider}
use Rattle.oidc_rsa.specs.ProviderKey.{SeenProviderKey}
use Rattle.oidc_discovery.specs.declared.errors.PinError.{PinError}
use Rattle.oidc_discovery.specs.declared.errors.PinError.TheVariants.{NotListed, Memory}
use Rattle.oidc_discovery.specs.Metadata.{SeenMetadata}

-- the document lists an algorithm
abbrev pub lists : SeenMetadata → CoreJwsSigningAlgorithm → Bool
lists said algorithm = list_any (λ text. bytes_eq text (signing_text algorithm)) said.needed.signing_algorithms

abbrev pub Additional : Type 0
Additional = LogoutProviderMetadata EmptyAdditionalProviderMetadata

-- with these algorithms and these keys
abbrev pub metadata_with : SeenMetadata → List CoreJwsSigningAlgorithm → List SeenProviderKey
    → SeenProviderMetadata Additional SeenProviderKey CoreJwsSigningAlgorithm
metadata_with said algorithms keys = record {
  issuer = said.needed.issuer;
  authorization_endpoint = said.needed.authorization_endpoint;
  token_endpoint = said.token_endpoint;
  userinfo_endpoint = said.userinfo_endpoint;
  jwks_uri = said.needed.jwks_uri;
  jwks = keys;
  signing_algorithms = algorithms;
  additional_metadata = record {
    end_session_endpoint = said.end_session_endpoint;
    additional_metadata = record {};
  };
}

-- the metadata, where the document lists the pinned algorithm, which alone is kept of its algorithms
abbrev pub pinned : SeenMetadata → CoreJwsSigningAlgorithm → List SeenProviderKey
    → Result (SeenProviderMetadata Additional SeenProviderKey CoreJwsSigningAlgorithm) PinError
pinned said algorithm keys =
    if lists said algorithm then Ok (metadata_with said (algorithm ∷ []) keys) else Err NotListed

-- the fact, unless the result is want of memory
abbrev pub UnlessMemory : {V : Type 0} → Result V PinError → Type 0 → Type 0
UnlessMemory (Err Memory) Fact = Unit {0}
UnlessMemory result Fact = Fact

-- Whatever a document lists, a client of its metadata allows ID tokens by the pinned algorithm alone.
abbrev pub AllowsPinnedAlone : Type 0
AllowsPinnedAlone =
    (said : SeenMetadata) (algorithm : CoreJwsSigningAlgorithm) (keys : List SeenProviderKey)
    (made : SeenProviderMetadata Additional SeenProviderKey CoreJwsSigningAlgorithm)
    (client_id : List ℕ) (secret : Option (List ℕ))
    → pinned said algorithm keys ≡ Ok made
    → (client_of_provider made client_id secret).allowed ≡ Some (algorithm ∷ [])
