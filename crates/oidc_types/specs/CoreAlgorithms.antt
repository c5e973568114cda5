-- the algorithms and key types of JSON Web Algorithms: their texts, and the types of their keys
use Rattle.std.specs.Prelude.{ℕ, List, [], ◌∷◌, codes, Bool, true, false, Option, None, Some}
use Rattle.oidc_types.specs.declared.core_algorithms.CoreJsonWebKeyType.{CoreJsonWebKeyType}
use Rattle.oidc_types.specs.declared.core_algorithms.CoreJsonWebKeyType.TheVariants as key_type
use Rattle.oidc_types.specs.declared.core_algorithms.CoreJwsSigningAlgorithm.{CoreJwsSigningAlgorithm}
use Rattle.oidc_types.specs.declared.core_algorithms.CoreJwsSigningAlgorithm.TheVariants as alg
use Rattle.oidc_types.specs.declared.core_algorithms.CoreJweContentEncryptionAlgorithm.{CoreJweContentEncryptionAlgorithm}
use Rattle.oidc_types.specs.declared.core_algorithms.CoreJweContentEncryptionAlgorithm.TheVariants as enc
use Rattle.oidc_types.specs.declared.core_algorithms.CoreJweKeyManagementAlgorithm.{CoreJweKeyManagementAlgorithm}
use Rattle.oidc_types.specs.declared.core_algorithms.CoreJweKeyManagementAlgorithm.TheVariants as management

-- ---- key types (RFC 7518 section 6.1, RFC 8037 section 2)

-- the text of a key type, the member `kty`
abbrev pub key_type_text : CoreJsonWebKeyType → List ℕ
key_type_text key_type.EllipticCurve = codes "EC"
key_type_text key_type.OctetKeyPair = codes "OKP"
key_type_text key_type.RSA = codes "RSA"
key_type_text key_type.Symmetric = codes "oct"

-- all key types
abbrev pub key_types : List CoreJsonWebKeyType
key_types = key_type.EllipticCurve ∷ key_type.OctetKeyPair ∷ key_type.RSA ∷ key_type.Symmetric ∷ []

-- ---- algorithms that sign (RFC 7518 section 3.1, RFC 8037 section 3.1)

-- the text of a signing algorithm, the member `alg` of a JOSE header
abbrev pub signing_text : CoreJwsSigningAlgorithm → List ℕ
signing_text alg.HmacSha256 = codes "HS256"
signing_text alg.HmacSha384 = codes "HS384"
signing_text alg.HmacSha512 = codes "HS512"
signing_text alg.RsaSsaPkcs1V15Sha256 = codes "RS256"
signing_text alg.RsaSsaPkcs1V15Sha384 = codes "RS384"
signing_text alg.RsaSsaPkcs1V15Sha512 = codes "RS512"
signing_text alg.EcdsaP256Sha256 = codes "ES256"
signing_text alg.EcdsaP384Sha384 = codes "ES384"
signing_text alg.EcdsaP521Sha512 = codes "ES512"
signing_text alg.RsaSsaPssSha256 = codes "PS256"
signing_text alg.RsaSsaPssSha384 = codes "PS384"
signing_text alg.RsaSsaPssSha512 = codes "PS512"
signing_text alg.EdDsa = codes "EdDSA"
signing_text alg.None = codes "none"

-- all signing algorithms
abbrev pub signing_algorithms : List CoreJwsSigningAlgorithm
signing_algorithms = alg.HmacSha256 ∷ alg.HmacSha384 ∷ alg.HmacSha512 ∷ alg.RsaSsaPkcs1V15Sha256 ∷
    alg.RsaSsaPkcs1V15Sha384 ∷ alg.RsaSsaPkcs1V15Sha512 ∷ alg.EcdsaP256Sha256 ∷
    alg.EcdsaP384Sha384 ∷ alg.EcdsaP521Sha512 ∷ alg.RsaSsaPssSha256 ∷ alg.RsaSsaPssSha384 ∷
    alg.RsaSsaPssSha512 ∷ alg.EdDsa ∷ alg.None ∷ []

-- the type of an algorithm's keys: none for the algorithm that does not sign
abbrev pub signing_key_type : CoreJwsSigningAlgorithm → Option CoreJsonWebKeyType
signing_key_type alg.HmacSha256 = Some key_type.Symmetric
signing_key_type alg.HmacSha384 = Some key_type.Symmetric
signing_key_type alg.HmacSha512 = Some key_type.Symmetric
signing_key_type alg.RsaSsaPkcs1V15Sha256 = Some key_type.RSA
signing_key_type alg.RsaSsaPkcs1V15Sha384 = Some key_type.RSA
signing_key_type alg.RsaSsaPkcs1V15Sha512 = Some key_type.RSA
signing_key_type alg.EcdsaP256Sha256 = Some key_type.EllipticCurve
signing_key_type alg.EcdsaP384Sha384 = Some key_type.EllipticCurve
signing_key_type alg.EcdsaP521Sha512 = Some key_type.EllipticCurve
signing_key_type alg.RsaSsaPssSha256 = Some key_type.RSA
signing_key_type alg.RsaSsaPssSha384 = Some key_type.RSA
signing_key_type alg.RsaSsaPssSha512 = Some key_type.RSA
signing_key_type alg.EdDsa = Some key_type.OctetKeyPair
signing_key_type alg.None = None

-- the algorithms whose key is a secret that both sides have: those by HMAC
abbrev pub signs_with_secret : CoreJwsSigningAlgorithm → Bool
signs_with_secret alg.HmacSha256 = true
signs_with_secret alg.HmacSha384 = true
signs_with_secret alg.HmacSha512 = true
signs_with_secret alg.RsaSsaPkcs1V15Sha256 = false
signs_with_secret alg.RsaSsaPkcs1V15Sha384 = false
signs_with_secret alg.RsaSsaPkcs1V15Sha512 = false
signs_with_secret alg.EcdsaP256Sha256 = false
signs_with_secret alg.EcdsaP384Sha384 = false
signs_with_secret alg.EcdsaP521Sha512 = false
signs_with_secret alg.RsaSsaPssSha256 = false
signs_with_secret alg.RsaSsaPssSha384 = false
signs_with_secret alg.RsaSsaPssSha512 = false
signs_with_secret alg.EdDsa = false
signs_with_secret alg.None = false

-- ---- algorithms that encrypt content (RFC 7518 section 5.1)

-- the text of a content encryption algorithm, the member `enc` of a JOSE header
abbrev pub encryption_text : CoreJweContentEncryptionAlgorithm → List ℕ
encryption_text enc.Aes128CbcHmacSha256 = codes "A128CBC-HS256"
encryption_text enc.Aes192CbcHmacSha384 = codes "A192CBC-HS384"
encryption_text enc.Aes256CbcHmacSha512 = codes "A256CBC-HS512"
encryption_text enc.Aes128Gcm = codes "A128GCM"
encryption_text enc.Aes192Gcm = codes "A192GCM"
encryption_text enc.Aes256Gcm = codes "A256GCM"

-- all content encryption algorithms
abbrev pub encryption_algorithms : List CoreJweContentEncryptionAlgorithm
encryption_algorithms = enc.Aes128CbcHmacSha256 ∷ enc.Aes192CbcHmacSha384 ∷ enc.Aes256CbcHmacSha512 ∷
    enc.Aes128Gcm ∷ enc.Aes192Gcm ∷ enc.Aes256Gcm ∷ []

-- ---- algorithms that encrypt or agree on a key (RFC 7518 section 4.1)

-- the text of a key management algorithm, the member `alg` of a JOSE header
abbrev pub management_text : CoreJweKeyManagementAlgorithm → List ℕ
management_text management.RsaPkcs1V15 = codes "RSA1_5"
management_text management.RsaOaep = codes "RSA-OAEP"
management_text management.RsaOaepSha256 = codes "RSA-OAEP-256"
management_text management.AesKeyWrap128 = codes "A128KW"
management_text management.AesKeyWrap192 = codes "A192KW"
management_text management.AesKeyWrap256 = codes "A256KW"
management_text management.Direct = codes "dir"
management_text management.EcdhEs = codes "ECDH-ES"
management_text management.EcdhEsAesKeyWrap128 = codes "ECDH-ES+A128KW"
management_text management.EcdhEsAesKeyWrap192 = codes "ECDH-ES+A192KW"
management_text management.EcdhEsAesKeyWrap256 = codes "ECDH-ES+A256KW"
management_text management.Aes128Gcm = codes "A128GCMKW"
management_text management.Aes192Gcm = codes "A192GCMKW"
management_text management.Aes256Gcm = codes "A256GCMKW"
management_text management.PbEs2HmacSha256AesKeyWrap128 = codes "PBES2-HS256+A128KW"
management_text management.PbEs2HmacSha384AesKeyWrap192 = codes "PBES2-HS384+A192KW"
management_text management.PbEs2HmacSha512AesKeyWrap256 = codes "PBES2-HS512+A256KW"

-- all key management algorithms
abbrev pub management_algorithms : List CoreJweKeyManagementAlgorithm
management_algorithms = management.RsaPkcs1V15 ∷ management.RsaOaep ∷ management.RsaOaepSha256 ∷ management.AesKeyWrap128 ∷ management.AesKeyWrap192 ∷
    management.AesKeyWrap256 ∷ management.Direct ∷ management.EcdhEs ∷ management.EcdhEsAesKeyWrap128 ∷ management.EcdhEsAesKeyWrap192 ∷
    management.EcdhEsAesKeyWrap256 ∷ management.Aes128Gcm ∷ management.Aes192Gcm ∷ management.Aes256Gcm ∷ management.PbEs2HmacSha256AesKeyWrap128 ∷
    management.PbEs2HmacSha384AesKeyWrap192 ∷ management.PbEs2HmacSha512AesKeyWrap256 ∷ []
