-- What a program brings that signs a device in: its types, of which is known how its additional claims and its genders are
-- read and what its keys say; and its client. The algorithms are those of the standards (RFC 7518 sections 3.1 and 5.1).
use Rattle.std.specs.Prelude.{List, Result}
use Rattle.oidc_members.specs.Seen.{SeenMember}
use Rattle.oidc_members.specs.declared.refusal.Refusal.{Refusal}
use Rattle.oidc_types.specs.{find_word, signing_text, signing_algorithms}
use Rattle.oidc_types.specs.CoreAlgorithms.{encryption_text, encryption_algorithms}
use Rattle.oidc_types.specs.declared.core_algorithms.CoreJsonWebKeyType.{CoreJsonWebKeyType}
use Rattle.oidc_types.specs.declared.core_algorithms.CoreJwsSigningAlgorithm.{CoreJwsSigningAlgorithm}
use Rattle.oidc_types.specs.declared.core_algorithms.CoreJweContentEncryptionAlgorithm.{CoreJweContentEncryptionAlgorithm}
use Rattle.oidc_types.specs.contracts.core_algorithms.CoreJwsSigningAlgorithmJwsSigningAlgorithm.TheImpl.{ghosts as of_algorithms}
use Rattle.oidc_types.specs.contracts.core_algorithms.CoreJwsSigningAlgorithmClosedVocabulary.TheImpl.{ghosts as of_algorithm_words}
use Rattle.oidc_types.specs.contracts.core_algorithms.CoreJsonWebKeyTypeClosedVocabulary.TheImpl.{ghosts as of_type_words}
use Rattle.oidc_keys.specs.declared.jwk.JsonWebKey.{Ghosts as Keys}
use Rattle.oidc_keys.specs.declared.jwk.JsonWebKeyUse.{Ghosts as Uses}
use Rattle.oidc_tokens.specs.Signatures.{meanings}
use Rattle.oidc_user_info.specs.InfoAnswers.{Readers, readers}
use Rattle.oidc_client.specs.Client as clients

abbrev pub DeviceTypes : Type 0 → Type 0 → Type 0 → Type 0 → Type 1
DeviceTypes AC GC Key Use =
    Readers AC GC CoreJweContentEncryptionAlgorithm Key Use CoreJwsSigningAlgorithm CoreJsonWebKeyType

abbrev pub device_types : {AC GC Key Use : Type 0}
    → (List SeenMember → Result AC Refusal) → (SeenMember → Result GC Refusal)
    → Keys Key Use CoreJwsSigningAlgorithm CoreJsonWebKeyType → Uses Use → DeviceTypes AC GC Key Use
device_types additional gender keys uses =
    readers additional gender (find_word encryption_text encryption_algorithms)
    (find_word signing_text signing_algorithms)
    (meanings keys uses of_algorithms of_algorithm_words of_type_words)

-- a client whose provider signs by keys of this type, and by algorithms of the standards
abbrev pub SeenDeviceClient : Type 0 → Type 0
SeenDeviceClient Key = clients.SeenClient Key CoreJwsSigningAlgorithm
