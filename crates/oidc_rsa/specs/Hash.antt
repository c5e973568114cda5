-- The hash functions of RSA signatures (RFC 7518 sections 3.3 and 3.5).
use Rattle.std.specs.Prelude.{ℕ, List}
use Rattle.sha2.specs.Sha256.{sha256}
use Rattle.sha2.specs.Sha512.{sha384, sha512}
use Rattle.oidc_rsa.specs.declared.hash.HashFunction.{HashFunction}
use Rattle.oidc_rsa.specs.declared.hash.HashFunction.TheVariants.{Sha256, Sha384, Sha512}

-- the hash of a message
abbrev pub hash_of : HashFunction → List ℕ → List ℕ
hash_of Sha256 message = sha256 message
hash_of Sha384 message = sha384 message
hash_of Sha512 message = sha512 message

-- how many octets a hash has (hLen)
abbrev pub hash_len : HashFunction → ℕ
hash_len Sha256 = 32
hash_len Sha384 = 48
hash_len Sha512 = 64
