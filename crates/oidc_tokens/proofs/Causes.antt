-- The first check that fails, by its cause.
use Rattle.std.proofs.Common.{◌≡◌, ◌≢◌, ℕ, ℤ, Bool, true, false, List, [], ◌∷◌, Option, None, Some, refl, sym, ap, subst, ◌∙◌, arith, inl, inr, filter}
use Rattle.std.specs.Prelude.{Result, Ok, Err, not, ◌&&◌, ◌⊎◌, ◌≤ℤ◌, if◌then◌else◌, int_lt, is_none, IsTrue, IsFalse}
use Rattle.std.specs.Option.{ok_or}
use Rattle.std.specs.Str.{bytes_eq}
use Rattle.std.proofs.lemmas.Bool.{true≢false, false≢true}
use Rattle.std.proofs.lemmas.Int.{ints}
use Rattle.oidc_keys.specs.declared.refusals.SignatureVerificationError.{SignatureVerificationError}
use Rattle.oidc_keys.specs.declared.refusals.SignatureVerificationError.TheVariants as refusal
use Rattle.oidc_jwt.specs.declared.header.JsonWebTokenAlgorithm.{JsonWebTokenAlgorithm}
use Rattle.oidc_jwt.specs.declared.header.JsonWebTokenAlgorithm.TheVariants as algorithm
use Rattle.oidc_tokens.specs.declared.verification.refusals.ClaimsVerificationError.{ClaimsVerificationError}
use Rattle.oidc_tokens.specs.declared.verification.refusals.ClaimsVerificationError.TheVariants.{Unsupported, InvalidIssuer, InvalidAudience, SignatureVerification, Expired, InvalidNonce}
use Rattle.oidc_tokens.specs.Steps.{◌>>=◌}
use Rattle.oidc_jwt.specs.Tokens.{SeenToken}
use Rattle.oidc_id_token_claims.specs.IdTokenClaims.{SeenIdTokenClaims}
use Rattle.oidc_tokens.specs.Signatures.{KeyMeanings, SeenVerifier, signing_alg, the_one, fits, is_allowed, if_allowed, key_for, verdict_on}
use Rattle.oidc_tokens.specs.Verification.{is_token_type, is_encrypted, is_supported, is_alone_in, unless, refused_as, first_refusal, first_failure}
use Rattle.oidc_tokens.specs.Causes.{KeyIsAtFault, KeySays, Cause}
use Rattle.oidc_tokens.proofs.Accepted.{bytes_same, alone_back}

same_err : {A : Type 0} (o : Result A SignatureVerificationError) (a b : SignatureVerificationError) → o ≡ Err a → o ≡ Err b → a ≡ b
same_err o a b h k = let both = sym h ∙ k in cc both

pub same_some : {E : Type 0} (a b : E) → Some a ≡ Some b → a ≡ b
same_some a b h = cc

-- ---- the header

none_is : {A : Type 0} (o : Option A) → is_none o ≡ false → o ≢ None
none_is None h = λ e. true≢false h
none_is (Some x) h = λ e. cc

pub too_much_by : {A : Type 0} (crit : Bool) (cty : Option A) (token_type encrypted : Bool) → (not crit && is_none cty && token_type && not encrypted) ≡ false
    → IsTrue crit ⊎ ((cty ≢ None) ⊎ (IsFalse token_type ⊎ IsTrue encrypted))
too_much_by true cty token_type encrypted h = inl refl
too_much_by false (Some x) token_type encrypted h = inr (inl (λ e. cc))
too_much_by false None false encrypted h = inr (inr (inl refl))
too_much_by false None true true h = inr (inr (inr refl))
too_much_by false None true false h = absurd (true≢false h)

-- ---- the signature

module _ {Key Use Algorithm Type' : Type 0} (k : KeyMeanings Key Use Algorithm Type') {JE P : Type 0} (v : SeenVerifier Key Algorithm) (token : SeenToken JE Algorithm P) where
  abbrev SignatureCause : SignatureVerificationError → Type 0
  SignatureCause r = KeyIsAtFault k v token r ⊎ KeySays k v token r

  verdict_cause : (alg : Algorithm) → token.header.alg ≡ algorithm.Signature alg → (key : Key) → key_for k v token.header.kid alg ≡ Ok key
      → (r : SignatureVerificationError) → k.keys.verdict key alg token.message token.signature ≡ Err r → SignatureCause r
  verdict_cause alg signed key chosen r h = inr (alg, key, signed, chosen, h)

  one_cause : (alg : Algorithm) → token.header.alg ≡ algorithm.Signature alg → IsFalse (k.algorithms.uses_shared_secret alg)
      → (keys : List Key) → filter (fits k alg token.header.kid) v.keys ≡ keys → (r : SignatureVerificationError) → the_one keys ≡ Err r → SignatureCause r
  one_cause alg signed unshared [] are r h =
      let cause : SignatureCause refusal.NoMatchingKey = inl (alg, signed, unshared, are) in subst SignatureCause (same_err (the_one {A = Key} []) refusal.NoMatchingKey r refl h) cause
  one_cause alg signed unshared (key ∷ []) are r h = absurd cc
  one_cause alg signed unshared (a ∷ b ∷ more) are r h =
      let cause : SignatureCause refusal.AmbiguousKeyId = inl (alg, signed, unshared, a, b, more, are) in subst SignatureCause (same_err (the_one (a ∷ b ∷ more)) refusal.AmbiguousKeyId r refl h) cause

  secret_cause : (alg : Algorithm) → token.header.alg ≡ algorithm.Signature alg → IsTrue (k.algorithms.uses_shared_secret alg) → (secret : Option Key) → v.secret_key ≡ secret
      → (r : SignatureVerificationError) → ok_or secret refusal.DisallowedAlg ≡ Err r → SignatureCause r
  secret_cause alg signed shared None is r h =
      let cause : SignatureCause refusal.DisallowedAlg = inl (alg, signed, inr (shared, is)) in
      subst SignatureCause (same_err (ok_or {T = Key} None refusal.DisallowedAlg) refusal.DisallowedAlg r refl h) cause
  secret_cause alg signed shared (Some key) is r h = absurd cc

  key_cause : (alg : Algorithm) → token.header.alg ≡ algorithm.Signature alg → (shared : Bool) → k.algorithms.uses_shared_secret alg ≡ shared → (r : SignatureVerificationError)
      → (if shared then ok_or v.secret_key refusal.DisallowedAlg else the_one (filter (fits k alg token.header.kid) v.keys)) ≡ Err r → SignatureCause r
  key_cause alg signed true is r h = secret_cause alg signed is v.secret_key refl r h
  key_cause alg signed false is r h = one_cause alg signed is (filter (fits k alg token.header.kid) v.keys) refl r h

  chosen_cause : (alg : Algorithm) → token.header.alg ≡ algorithm.Signature alg → (chosen : Result Key SignatureVerificationError) → key_for k v token.header.kid alg ≡ chosen
      → (r : SignatureVerificationError) → (chosen >>= λ key. k.keys.verdict key alg token.message token.signature) ≡ Err r → SignatureCause r
  chosen_cause alg signed (Ok key) is r h = verdict_cause alg signed key is r h
  chosen_cause alg signed (Err refused) is r h =
      let answer : Result (Unit {0}) SignatureVerificationError = Err refused in
      let same : refused ≡ r = same_err answer refused r refl h in
      key_cause alg signed (k.algorithms.uses_shared_secret alg) refl r (is ∙ ap Err same)

  allowed_cause : (alg : Algorithm) → token.header.alg ≡ algorithm.Signature alg → (allowed : Bool) → is_allowed k v alg ≡ allowed → (r : SignatureVerificationError)
      → ((if allowed then Ok alg else Err refusal.DisallowedAlg) >>= λ alg. key_for k v token.header.kid alg >>= λ key. k.keys.verdict key alg token.message token.signature) ≡ Err r → SignatureCause r
  allowed_cause alg signed true is r h = chosen_cause alg signed (key_for k v token.header.kid alg) refl r h
  allowed_cause alg signed false is r h =
      let cause : SignatureCause refusal.DisallowedAlg = inl (alg, signed, inl is) in
      let refused : Result (Unit {0}) SignatureVerificationError = Err refusal.DisallowedAlg in
      subst SignatureCause (same_err refused refusal.DisallowedAlg r refl h) cause

  named_cause : (named : JsonWebTokenAlgorithm JE Algorithm) → token.header.alg ≡ named → is_encrypted named ≡ false → (r : SignatureVerificationError)
      → (signing_alg named >>= λ named. if_allowed k v named >>= λ alg. key_for k v token.header.kid alg >>= λ key. k.keys.verdict key alg token.message token.signature) ≡ Err r → SignatureCause r
  named_cause (algorithm.Signature alg) signed plain r h = allowed_cause alg signed (is_allowed k v alg) refl r h
  named_cause (algorithm.Encryption alg) signed plain r h = absurd (true≢false plain)
  named_cause algorithm.None signed plain r h =
      let cause : SignatureCause refusal.NoSignature = inl signed in
      let refused : Result (Unit {0}) SignatureVerificationError = Err refusal.NoSignature in
      subst SignatureCause (same_err refused refusal.NoSignature r refl h) cause

  pub signature_cause : is_encrypted token.header.alg ≡ false → (r : SignatureVerificationError) → verdict_on k v token ≡ Err r → SignatureCause r
  unfolding verdict_on
  signature_cause plain r h = named_cause token.header.alg refl plain r h

-- ---- all checks

pub plain_of : (crit none token_type encrypted : Bool) → (not crit && none && token_type && not encrypted) ≡ true → encrypted ≡ false
plain_of crit none token_type false h = refl
plain_of false true true true h = absurd (false≢true h)
plain_of true none token_type true h = absurd (false≢true h)
plain_of false false token_type true h = absurd (false≢true h)
plain_of false true false true h = absurd (false≢true h)

pub differ : (xs ys : List ℕ) → bytes_eq xs ys ≡ false → xs ≢ ys
differ xs ys h = λ e. true≢false (sym (bytes_same xs ys e) ∙ h)

not_less : (a b : ℤ) → int_lt a b ≡ false → b ≤ℤ a
not_less a b h = grind (arith, ints)

module _ {Key Use Algorithm Type' : Type 0} (k : KeyMeanings Key Use Algorithm Type') {JE AC GC : Type 0}
    (v : SeenVerifier Key Algorithm) (allows : Option (List ℕ) → Bool) (now : ℤ) (token : SeenToken JE Algorithm (SeenIdTokenClaims AC GC)) where
  last_cause : (allowed : Bool) → allows token.payload.own.nonce ≡ allowed → (e : ClaimsVerificationError) → first_refusal (unless allowed InvalidNonce ∷ []) ≡ Some e → Cause k v allows now token e
  last_cause true is e h = absurd cc
  last_cause false is e h = subst (Cause k v allows now token) (same_some InvalidNonce e h) is

  time_cause : (unexpired : Bool) → int_lt now token.payload.own.expiration ≡ unexpired → (e : ClaimsVerificationError)
      → first_refusal (unless unexpired Expired ∷ unless (allows token.payload.own.nonce) InvalidNonce ∷ []) ≡ Some e → Cause k v allows now token e
  time_cause true is e h = last_cause (allows token.payload.own.nonce) refl e h
  time_cause false is e h = subst (Cause k v allows now token) (same_some Expired e h) (not_less now token.payload.own.expiration is)

  signed_cause : is_encrypted token.header.alg ≡ false → (said : Result (Unit {0}) SignatureVerificationError) → verdict_on k v token ≡ said → (e : ClaimsVerificationError)
      → first_refusal (refused_as SignatureVerification said ∷ unless (int_lt now token.payload.own.expiration) Expired ∷ unless (allows token.payload.own.nonce) InvalidNonce ∷ []) ≡ Some e → Cause k v allows now token e
  signed_cause plain (Ok u) is e h = time_cause (int_lt now token.payload.own.expiration) refl e h
  signed_cause plain (Err r) is e h = subst (Cause k v allows now token) (same_some (SignatureVerification r) e h) (signature_cause k v token plain r is)

  audience_cause : is_encrypted token.header.alg ≡ false → (alone : Bool) → is_alone_in v.client_id token.payload.own.audiences ≡ alone → (e : ClaimsVerificationError)
      → first_refusal (unless alone InvalidAudience ∷ refused_as SignatureVerification (verdict_on k v token) ∷ unless (int_lt now token.payload.own.expiration) Expired ∷ unless (allows token.payload.own.nonce) InvalidNonce ∷ []) ≡ Some e
      → Cause k v allows now token e
  audience_cause plain true is e h = signed_cause plain (verdict_on k v token) refl e h
  audience_cause plain false is e h = subst (Cause k v allows now token) (same_some InvalidAudience e h) (λ alone. true≢false (sym (alone_back v.client_id token.payload.own.audiences alone) ∙ is))

  issuer_cause : is_encrypted token.header.alg ≡ false → (same : Bool) → bytes_eq token.payload.own.issuer.text v.issuer.text ≡ same → (e : ClaimsVerificationError)
      → first_refusal (unless same InvalidIssuer ∷ unless (is_alone_in v.client_id token.payload.own.audiences) InvalidAudience ∷ refused_as SignatureVerification (verdict_on k v token)
      ∷ unless (int_lt now token.payload.own.expiration) Expired ∷ unless (allows token.payload.own.nonce) InvalidNonce ∷ []) ≡ Some e
      → Cause k v allows now token e
  issuer_cause plain true is e h = audience_cause plain (is_alone_in v.client_id token.payload.own.audiences) refl e h
  issuer_cause plain false is e h = subst (Cause k v allows now token) (same_some InvalidIssuer e h) (differ token.payload.own.issuer.text v.issuer.text is)

  header_cause : (supported : Bool) → is_supported token.header ≡ supported → (e : ClaimsVerificationError)
      → first_refusal (unless supported Unsupported ∷ unless (bytes_eq token.payload.own.issuer.text v.issuer.text) InvalidIssuer ∷ unless (is_alone_in v.client_id token.payload.own.audiences) InvalidAudience
      ∷ refused_as SignatureVerification (verdict_on k v token) ∷ unless (int_lt now token.payload.own.expiration) Expired ∷ unless (allows token.payload.own.nonce) InvalidNonce ∷ []) ≡ Some e
      → Cause k v allows now token e
  header_cause true is e h = issuer_cause (plain_of token.header.crit (is_none token.header.cty) (is_token_type token.header.typ) (is_encrypted token.header.alg) is) (bytes_eq token.payload.own.issuer.text v.issuer.text) refl e h
  header_cause false is e h =
      subst (Cause k v allows now token) (same_some Unsupported e h)
      (too_much_by token.header.crit token.header.cty (is_token_type token.header.typ) (is_encrypted token.header.alg) is)

  pub failure_cause : (e : ClaimsVerificationError) → first_failure k v allows now token ≡ Some e → Cause k v allows now token e
  unfolding first_failure
  failure_cause e h = header_cause (is_supported token.header) refl e h
