-- The client's secret and the provider's keys are not taken for one another.
use Rattle.std.proofs.Common.{◌≡◌, Bool, true, false, Option, Some, None, Result, Ok, if◌then◌else◌}
use Rattle.std.specs.Prelude.{filter}
use Rattle.std.specs.Option.{ok_or}
use Rattle.oidc_types.specs.{signs_with_secret}
use Rattle.oidc_keys.specs.declared.refusals.SignatureVerificationError.{SignatureVerificationError}
use Rattle.oidc_keys.specs.declared.refusals.SignatureVerificationError.TheVariants.{DisallowedAlg}
use Rattle.oidc_rsa.specs.ProviderKey.{SeenProviderKey}
use Rattle.oidc_rsa.specs.Confusion.{NoAlgorithmConfusion}
use Rattle.oidc_tokens.specs.Signatures.{fits, the_one}
use Rattle.oidc_discovery.specs.Judging.{SecretAndKeysApart, provider_keys}

abbrev Found : Type 0
Found = Result SeenProviderKey SignatureVerificationError

-- which of two a key is, by a test
of_true : (test : Bool) (one other : Found) (key : SeenProviderKey) → test ≡ true → (if test then one else other) ≡ Ok key → one ≡ Ok key
of_true true one other key is e = e
of_true false one other key is e = absurd (cc)

of_false : (test : Bool) (one other : Found) (key : SeenProviderKey) → test ≡ false → (if test then one else other) ≡ Ok key → other ≡ Ok key
of_false true one other key is e = absurd (cc)
of_false false one other key is e = e

the_secret : (secret : Option SeenProviderKey) (key : SeenProviderKey) → ok_or secret DisallowedAlg ≡ Ok key → secret ≡ Some key
the_secret None key e = absurd (cc)
the_secret (Some own) key e = cc

pub secret_and_keys_apart : NoAlgorithmConfusion → SecretAndKeysApart
secret_and_keys_apart none = record {
  by_secret = λ v kid algorithm message signature shared taken. (
    the_secret v.secret_key taken.key
        (of_true (signs_with_secret algorithm) (ok_or v.secret_key DisallowedAlg) (the_one (filter (fits provider_keys algorithm kid) v.keys)) taken.key shared taken.by_key),
    none.by_secret taken.key algorithm message signature shared taken.accepted,
  );
  by_rsa = λ v kid algorithm message signature other taken. (
    of_false (signs_with_secret algorithm) (ok_or v.secret_key DisallowedAlg) (the_one (filter (fits provider_keys algorithm kid) v.keys)) taken.key other taken.by_key,
    none.by_rsa taken.key algorithm message signature other taken.accepted,
  );
}
