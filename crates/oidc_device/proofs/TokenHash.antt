-- The hash of an access token beside an accepted ID token is that of its algorithm under its key, and what its rows say.
use Rattle.std.proofs.Common.{◌≡◌, ◌≢◌, ℕ, ℤ, List, Bool, true, false, Option, Some, Result, Ok, refl, sym, ap, subst, ◌∙◌}
use Rattle.std.specs.Prelude.{not}
use Rattle.std.specs.Option.{ok_or}
use Rattle.std.specs.Str.{bytes_eq}
use Rattle.std.proofs.lemmas.Slice.Eq.{bytes_eq-Decides}
use Rattle.oidc_types.specs.{signing_text}
use Rattle.oidc_types.specs.declared.signing_error.SigningError.{SigningError}
use Rattle.oidc_types.specs.declared.signing_error.SigningError.TheVariants.{UnsupportedAlg}
use Rattle.oidc_types.specs.declared.core_algorithms.CoreJweContentEncryptionAlgorithm.{CoreJweContentEncryptionAlgorithm}
use Rattle.oidc_types.specs.declared.core_algorithms.CoreJwsSigningAlgorithm.{CoreJwsSigningAlgorithm}
use Rattle.oidc_jwt.specs.declared.header.JsonWebTokenAlgorithm.{JsonWebTokenAlgorithm}
use Rattle.oidc_jwt.specs.declared.header.JsonWebTokenAlgorithm.TheVariants as algorithm
use Rattle.oidc_tokens.specs.Hashes.{hashing, hash_or_refusal}
use Rattle.oidc_tokens.specs.Refreshed.{FitsHash}
use Rattle.oidc_tokens.specs.Signatures.{signing_alg, key_for}
use Rattle.oidc_tokens.specs.declared.verification.refusals.ClaimsVerificationError.{ClaimsVerificationError}
use Rattle.oidc_oauth2.specs.Replies.{◌>>=◌, ◌>>◌, ◌when◌, ◌for◌}
use Rattle.oidc_device.specs.Types.{DeviceTypes, SeenDeviceClient}
use Rattle.oidc_device.specs.Token.{SeenIdToken, KeyVerifier, device_verifier, IsAcceptedBy, claimed_hash, hash_under, HasOwnHash, hashing_found, or_no_hash, hash_beside, refusal_of_claim, claims_another}
use Rattle.oidc_device.specs.SignedIn.{SeenDeviceSignedIn, signed_by}
use Rattle.oidc_device.specs.Errors.{Error}
use Rattle.oidc_device.specs.Causes.{Held}
use Rattle.oidc_device.specs.declared.errors.DeviceError.TheVariants as device

module _ {AC GC Key Use : Type 0} (types : DeviceTypes AC GC Key Use) (v : KeyVerifier Key) (token : SeenIdToken AC GC) (alg : CoreJwsSigningAlgorithm) (key : Key)
    (signed : token.header.alg ≡ algorithm.Signature alg) (chosen : key_for types.keys v token.header.kid alg ≡ Ok key) where
  found : hashing_found types v token ≡ Ok (hashing (signing_text alg) (types.keys.keys.hash_of key alg))
  found =
      ap (λ said. signing_alg said >>= λ named. (signing_alg said >>= key_for types.keys v token.header.kid) >>= λ key. Ok (hashing (signing_text named) (types.keys.keys.hash_of key named))) signed
      ∙ ap (λ r. r >>= λ key. Ok (hashing (signing_text alg) (types.keys.keys.hash_of key alg))) chosen

  -- the hash, or the refusal that names the algorithm
  pub beside : (text : List ℕ) → hash_beside types v token text ≡ ok_or (hash_under types key alg text) (UnsupportedAlg (signing_text alg))
  unfolding hash_beside
  beside text = ap (λ r. hash_or_refusal (or_no_hash r) text) found

-- ---- a claim that fits by the algorithm and the key of an acceptance

same_alg : (x y : CoreJwsSigningAlgorithm) (o : JsonWebTokenAlgorithm CoreJweContentEncryptionAlgorithm CoreJwsSigningAlgorithm) → o ≡ algorithm.Signature x → o ≡ algorithm.Signature y → x ≡ y
same_alg x y o a b = cc

same_key : {Key R : Type 0} (x y : Key) (o : Result Key R) → o ≡ Ok x → o ≡ Ok y → x ≡ y
same_key x y o a b = cc

module _ {AC GC Key Use : Type 0} (types : DeviceTypes AC GC Key Use) (client : SeenDeviceClient Key) (now : ℤ) (token : SeenIdToken AC GC) (x : IsAcceptedBy types client now token) where
  -- fits by those of the token
  pub fits_own : (text : List ℕ) → FitsHash types.keys token x.alg x.key text → HasOwnHash types client token text
  fits_own text fits alg key has_alg has_key =
      let by_alg : x.alg ≡ alg = same_alg x.alg alg _ x.signed has_alg in
      let chosen = subst (λ g. key_for types.keys (device_verifier types client) token.header.kid g ≡ Ok x.key) by_alg x.chosen in
      let by_key : x.key ≡ key = same_key x.key key _ chosen has_key in
      subst (λ g. FitsHash types.keys token g key text) by_alg (subst (λ k. FitsHash types.keys token x.alg k text) by_key fits)

-- ---- the rows on a claim

differ_by : (xs ys : List ℕ) → xs ≢ ys → (b : Bool) → bytes_eq xs ys ≡ b → b ≡ false
differ_by xs ys other true is = absurd (other ((bytes_eq-Decides xs ys).0 is))
differ_by xs ys other false is = refl

differ : (xs ys : List ℕ) → xs ≢ ys → bytes_eq xs ys ≡ false
differ xs ys other = differ_by xs ys other _ refl

pub differ_back : (xs ys : List ℕ) → not (bytes_eq xs ys) ≡ true → xs ≢ ys
differ_back xs ys is same = let equal : bytes_eq xs ys ≡ true = (bytes_eq-Decides xs ys).1 same in let both = sym is ∙ ap not equal in cc

same_by : (xs ys : List ℕ) (b : Bool) → bytes_eq xs ys ≡ b → not b ≡ false → xs ≡ ys
same_by xs ys true equal is = (bytes_eq-Decides xs ys).0 equal
same_by xs ys false equal is = cc

pub same_back : (xs ys : List ℕ) → not (bytes_eq xs ys) ≡ false → xs ≡ ys
same_back xs ys is = same_by xs ys (bytes_eq xs ys) refl is

-- another hash is claimed
pub other_claim : (claim hash : List ℕ) → hash ≢ claim → claims_another (Some claim) (Ok hash) ≡ true
other_claim claim hash other = ap not (differ hash claim other)

-- the own hash is claimed
pub own_claim : (claim : List ℕ) → claims_another (Some claim) (Ok claim) ≡ false
own_claim claim = ap not ((bytes_eq-Decides claim claim).1 refl)

-- ---- the rows on an ID token that came: from the first check that fails on, and from the hash on

module _ {AC GC : Type 0} (h : Held AC GC) where
  abbrev pub by_claim : Bool → Result (SeenDeviceSignedIn AC GC) Error
  by_claim another = (device.TokenHash when another) >> Ok (signed_by h.token h.tokens)

  abbrev pub by_hash : Option (List ℕ) → Result (List ℕ) SigningError → Result (SeenDeviceSignedIn AC GC) Error
  by_hash claim hash = (device.Signing for refusal_of_claim claim hash) >> by_claim (claims_another claim hash)

module _ {AC GC Key Use : Type 0} (types : DeviceTypes AC GC Key Use) (client : SeenDeviceClient Key) (h : Held AC GC) where
  abbrev pub by_check : Option ClaimsVerificationError → Result (SeenDeviceSignedIn AC GC) Error
  by_check failure =
      (device.Claims for failure) >> by_hash h (claimed_hash h.token) (hash_beside types (device_verifier types client) h.token h.tokens.access_token)
