-- What a call answers that judges an ID token that comes with refreshed tokens, of its rows.
use Rattle.std.proofs.Common.{◌≡◌, ℕ, ℤ, List, [], ◌∷◌, Option, None, Some, refl, sym, ap, subst, ◌∙◌, inl, inr, ⊎_elim}
use Rattle.std.specs.Prelude.{Result, Err, ◌⊎◌, option_map}
use Rattle.oidc_tokens.specs.declared.refreshed.RefreshedClaimsError.{RefreshedClaimsError}
use Rattle.oidc_tokens.specs.declared.refreshed.RefreshedClaimsError.TheVariants.{Claims, OtherIssuer, OtherSubject, OtherAudience, OtherAuthTime, OtherNonce, OtherAuthorizedParty, Signing, TokenHash, Memory}
use Rattle.oidc_tokens.specs.declared.verification.refusals.ClaimsVerificationError.{ClaimsVerificationError}
use Rattle.oidc_tokens.specs.declared.verification.refusals.ClaimsVerificationError.TheVariants as check
use Rattle.oidc_jwt.specs.Tokens.{SeenToken}
use Rattle.oidc_id_token_claims.specs.IdTokenClaims.{SeenIdTokenClaims}
use Rattle.oidc_tokens.specs.Signatures.{KeyMeanings, SeenVerifier}
use Rattle.oidc_tokens.specs.Verification.{Judges, first_refusal, first_failure}
use Rattle.oidc_tokens.specs.Refreshed.{any_nonce, sign_in_failure, hash_failure, hashing_of, refreshed_failure, of_check, JudgesRefreshed}

-- what the verifier answers is answered of its rows
pub of_checks : (C D : Type 0) (failure : Option ClaimsVerificationError) (e : ClaimsVerificationError) → Judges {C = C} failure (Err e) → JudgesRefreshed {C = D} (option_map Claims failure) (Err (of_check e))
of_checks C D failure check.Memory h = tt
of_checks C D failure check.Unsupported h = ap (option_map Claims) h
of_checks C D failure check.InvalidIssuer h = ap (option_map Claims) h
of_checks C D failure check.InvalidAudience h = ap (option_map Claims) h
of_checks C D failure (check.SignatureVerification r) h = ap (option_map Claims) h
of_checks C D failure check.Expired h = ap (option_map Claims) h
of_checks C D failure check.InvalidNonce h = ap (option_map Claims) h
of_checks C D failure check.InvalidSubject h = ap (option_map Claims) h

-- a refusal is want of memory or that of the row
pub said : (C : Type 0) (failure : Option RefreshedClaimsError) (e : RefreshedClaimsError) → JudgesRefreshed {C = C} failure (Err e) → (e ≡ Memory) ⊎ (failure ≡ Some e)
said C failure Memory h = inl refl
said C failure (Claims kind) h = inr h
said C failure OtherIssuer h = inr h
said C failure OtherSubject h = inr h
said C failure OtherAudience h = inr h
said C failure OtherAuthTime h = inr h
said C failure OtherNonce h = inr h
said C failure OtherAuthorizedParty h = inr h
said C failure (Signing refusal) h = inr h
said C failure TokenHash h = inr h

pub of_row : (D : Type 0) (failure : Option RefreshedClaimsError) (e : RefreshedClaimsError) → failure ≡ Some e → JudgesRefreshed {C = D} failure (Err e)
of_row D failure Memory h = tt
of_row D failure (Claims kind) h = h
of_row D failure OtherIssuer h = h
of_row D failure OtherSubject h = h
of_row D failure OtherAudience h = h
of_row D failure OtherAuthTime h = h
of_row D failure OtherNonce h = h
of_row D failure OtherAuthorizedParty h = h
of_row D failure (Signing refusal) h = h
of_row D failure TokenHash h = h

pub of_memory : (D : Type 0) (failure : Option RefreshedClaimsError) (e : RefreshedClaimsError) → e ≡ Memory → JudgesRefreshed {C = D} failure (Err e)
of_memory D failure e is = subst (λ e. JudgesRefreshed {C = D} failure (Err e)) (sym is) tt

-- what is answered of one row is answered of all, where those before it hold
pub as_rows : (C D : Type 0) (failure all : Option RefreshedClaimsError) (e : RefreshedClaimsError) → (failure ≡ Some e → all ≡ Some e) → JudgesRefreshed {C = C} failure (Err e)
    → JudgesRefreshed {C = D} all (Err e)
as_rows C D failure all e same h = ⊎_elim (λ memory. of_memory D all e memory) (λ is. of_row D all e (same is)) (said C failure e h)

first_is : (a b c : Option RefreshedClaimsError) (e : RefreshedClaimsError) → a ≡ Some e → first_refusal (a ∷ b ∷ c ∷ []) ≡ Some e
first_is a b c e h = rw h refl

second_is : (a b c : Option RefreshedClaimsError) (e : RefreshedClaimsError) → a ≡ None → b ≡ Some e → first_refusal (a ∷ b ∷ c ∷ []) ≡ Some e
second_is a b c e h is = rw (h, is) refl

-- what is answered of the last row
last_is : (D : Type 0) (a b c : Option RefreshedClaimsError) (answer : Result D RefreshedClaimsError) → a ≡ None → b ≡ None → JudgesRefreshed c answer → JudgesRefreshed (first_refusal (a ∷ b ∷ c ∷ [])) answer
last_is D a b c answer first second h =
    subst (λ x. JudgesRefreshed (first_refusal (x ∷ b ∷ c ∷ [])) answer) (sym first) (subst (λ y. JudgesRefreshed (first_refusal (None ∷ y ∷ c ∷ [])) answer) (sym second) h)

-- where no row fails, nothing but want of memory is refused
pub nothing_else : (C : Type 0) (failure : Option RefreshedClaimsError) (e : RefreshedClaimsError) → JudgesRefreshed {C = C} failure (Err e) → failure ≡ None → e ≡ Memory
nothing_else C failure e h none = ⊎_elim (λ memory. memory) (λ is. let both = sym is ∙ none in absurd cc) (said C failure e h)

-- ---- the three groups of rows

module _ {Key Use Algorithm Type' : Type 0} (k : KeyMeanings Key Use Algorithm Type') {JE AC GC : Type 0}
    (v : SeenVerifier Key Algorithm) (now : ℤ) (first : SeenIdTokenClaims AC GC) (access_token : List ℕ)
    (token : SeenToken JE Algorithm (SeenIdTokenClaims AC GC)) where
  abbrev checked : Option RefreshedClaimsError
  checked = option_map Claims (first_failure k v any_nonce now token)

  abbrev hashed : Option RefreshedClaimsError
  hashed = hash_failure (hashing_of k v token) access_token token.payload.own.access_token_hash

  pub by_checks : (C D : Type 0) (e : RefreshedClaimsError) → JudgesRefreshed {C = C} (option_map Claims (first_failure k v any_nonce now token)) (Err e)
      → JudgesRefreshed {C = D} (refreshed_failure k v now first access_token token) (Err e)
  unfolding refreshed_failure
  by_checks C D e h =
      let rows = first_refusal (checked ∷ sign_in_failure first token.payload ∷ hashed ∷ []) in
      as_rows C D checked rows e (λ is. first_is checked (sign_in_failure first token.payload) hashed e is) h

  pub by_sign_in : (C D : Type 0) (e : RefreshedClaimsError) → option_map Claims (first_failure k v any_nonce now token) ≡ None
      → JudgesRefreshed {C = C} (sign_in_failure first token.payload) (Err e) → JudgesRefreshed {C = D} (refreshed_failure k v now first access_token token) (Err e)
  unfolding refreshed_failure
  by_sign_in C D e passed h =
      let rows = first_refusal (checked ∷ sign_in_failure first token.payload ∷ hashed ∷ []) in
      as_rows C D (sign_in_failure first token.payload) rows e (λ is. second_is checked (sign_in_failure first token.payload) hashed e passed is) h

  pub by_hash : (D : Type 0) (answer : Result D RefreshedClaimsError) → option_map Claims (first_failure k v any_nonce now token) ≡ None → sign_in_failure first token.payload ≡ None
      → JudgesRefreshed (hash_failure (hashing_of k v token) access_token token.payload.own.access_token_hash) answer → JudgesRefreshed (refreshed_failure k v now first access_token token) answer
  unfolding refreshed_failure
  by_hash D answer passed same h = last_is D checked (sign_in_failure first token.payload) hashed answer passed same h
