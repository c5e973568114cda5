-- Whoever expects the claims of a token that is issued accepts it.
use Rattle.std.proofs.Common.{◌≡◌, ℕ, ℤ, List, [], ◌∷◌, Bool, Option, None, Some, Result, Ok, Err, refl, ap, subst, ◌∙◌, arith}
use Rattle.std.proofs.lemmas.List.Elements.{All-nil, All-cons}
use Rattle.oidc_types.specs.declared.signing_error.SigningError.{SigningError}
use Rattle.oidc_members.specs.Seen.{OutSeen}
use Rattle.oidc_tokens.specs.Steps.{◌>>=◌}
use Rattle.oidc_jwt.specs.Tokens.{SeenToken}
use Rattle.oidc_id_token_claims.specs.IdTokenClaims.{SeenIdTokenClaims}
use Rattle.oidc_jwt.specs.Issuing.{signed_with}
use Rattle.oidc_tokens.specs.Hashes.{Hashing, hash_or_refusal, with_token_hash, with_code_hash, with_hashes}
use Rattle.oidc_tokens.specs.Signatures.{KeyMeanings, SeenVerifier, key_for}
use Rattle.oidc_tokens.specs.Verification.{is_token_type, Accepts}
use Rattle.oidc_id_token_claims.specs.RoundTrip.{IsTokenInRange}
use Rattle.oidc_tokens.specs.Issuing.{Expects}

-- ---- claims that differ in their hashes alone

pub record DifferInHashes {AC GC : Type 0} (a b : SeenIdTokenClaims AC GC) : Type 0 where
  pub issuer : a.own.issuer ≡ b.own.issuer
  pub audiences : a.own.audiences ≡ b.own.audiences
  pub expiration : a.own.expiration ≡ b.own.expiration
  pub issue_time : a.own.issue_time ≡ b.own.issue_time
  pub auth_time : a.own.auth_time ≡ b.own.auth_time
  pub nonce : a.own.nonce ≡ b.own.nonce
  pub standard_claims : a.standard_claims ≡ b.standard_claims
  pub additional_claims : a.additional_claims ≡ b.additional_claims

module _ {AC GC : Type 0} where
  itself : (a : SeenIdTokenClaims AC GC) → DifferInHashes a a
  itself a = record { issuer = refl; audiences = refl; expiration = refl; issue_time = refl; auth_time = refl; nonce = refl; standard_claims = refl; additional_claims = refl }

  onward : (a b c : SeenIdTokenClaims AC GC) → DifferInHashes a b → DifferInHashes b c → DifferInHashes a c
  onward a b c h k = record {
    issuer = h.issuer ∙ k.issuer;
    audiences = h.audiences ∙ k.audiences;
    expiration = h.expiration ∙ k.expiration;
    issue_time = h.issue_time ∙ k.issue_time;
    auth_time = h.auth_time ∙ k.auth_time;
    nonce = h.nonce ∙ k.nonce;
    standard_claims = h.standard_claims ∙ k.standard_claims;
    additional_claims = h.additional_claims ∙ k.additional_claims;
  }

  ok_same : (a b : SeenIdTokenClaims AC GC) → ◌≡◌ {A = Result (SeenIdTokenClaims AC GC) SigningError} (Ok a) (Ok b) → a ≡ b
  ok_same a b h = cc

  same_ok : (a b : SeenIdTokenClaims AC GC) → ◌≡◌ {A = Result (SeenIdTokenClaims AC GC) SigningError} (Ok a) (Ok b) → DifferInHashes b a
  same_ok a b h = let same : a ≡ b = ok_same a b h in subst (λ x. DifferInHashes x a) same (itself a)

  token_by : (hash : Result (List ℕ) SigningError) (claims hashed : SeenIdTokenClaims AC GC)
      → (hash >>= λ hash. Ok (record claims { own = record claims.own { access_token_hash = Some hash } })) ≡ Ok hashed → DifferInHashes hashed claims
  token_by (Ok hash) claims hashed h =
      let changed : SeenIdTokenClaims AC GC = record claims { own = record claims.own { access_token_hash = Some hash } } in
      onward hashed changed claims (same_ok changed hashed h)
      (record { issuer = refl; audiences = refl; expiration = refl; issue_time = refl; auth_time = refl; nonce = refl; standard_claims = refl; additional_claims = refl })
  token_by (Err refusal) claims hashed h = absurd cc

  code_by : (hash : Result (List ℕ) SigningError) (claims hashed : SeenIdTokenClaims AC GC)
      → (hash >>= λ hash. Ok (record claims { own = record claims.own { code_hash = Some hash } })) ≡ Ok hashed → DifferInHashes hashed claims
  code_by (Ok hash) claims hashed h =
      let changed : SeenIdTokenClaims AC GC = record claims { own = record claims.own { code_hash = Some hash } } in
      onward hashed changed claims (same_ok changed hashed h)
      (record { issuer = refl; audiences = refl; expiration = refl; issue_time = refl; auth_time = refl; nonce = refl; standard_claims = refl; additional_claims = refl })
  code_by (Err refusal) claims hashed h = absurd cc

  token_differs : (by : Hashing) (token : Option (List ℕ)) (claims hashed : SeenIdTokenClaims AC GC) → with_token_hash by token claims ≡ Ok hashed → DifferInHashes hashed claims
  token_differs by None claims hashed h = same_ok claims hashed h
  token_differs by (Some token) claims hashed h = token_by (hash_or_refusal by token) claims hashed h

  code_differs : (by : Hashing) (code : Option (List ℕ)) (claims hashed : SeenIdTokenClaims AC GC) → with_code_hash by code claims ≡ Ok hashed → DifferInHashes hashed claims
  code_differs by None claims hashed h = same_ok claims hashed h
  code_differs by (Some code) claims hashed h = code_by (hash_or_refusal by code) claims hashed h

  both_by : (by : Hashing) (code : Option (List ℕ)) (first : Result (SeenIdTokenClaims AC GC) SigningError) (claims hashed : SeenIdTokenClaims AC GC)
      → ((x : SeenIdTokenClaims AC GC) → first ≡ Ok x → DifferInHashes x claims) → (first >>= λ x. with_code_hash by code x) ≡ Ok hashed → DifferInHashes hashed claims
  both_by by code (Ok x) claims hashed first h = onward hashed x claims (code_differs by code x hashed h) (first x refl)
  both_by by code (Err refusal) claims hashed first h = absurd cc

  pub hashes_differ : (by : Hashing) (token code : Option (List ℕ)) (claims hashed : SeenIdTokenClaims AC GC) → with_hashes by token code claims ≡ Ok hashed → DifferInHashes hashed claims
  unfolding with_hashes
  hashes_differ by token code claims hashed h = both_by by code (with_token_hash by token claims) claims hashed (λ x is. token_differs by token claims x is) h

  -- the range speaks of no hash
  pub range_kept : (additional_out : AC → List OutSeen) (claims hashed : SeenIdTokenClaims AC GC) → DifferInHashes hashed claims → IsTokenInRange additional_out claims → IsTokenInRange additional_out hashed
  range_kept additional_out claims hashed d r = record {
    issuer = rw d.issuer r.issuer;
    expiration = rw d.expiration r.expiration;
    issue_time = rw d.issue_time r.issue_time;
    auth_time = rw d.auth_time r.auth_time;
    standard_claims = rw d.standard_claims r.standard_claims;
    values = rw d.additional_claims r.values;
    names = rw d.additional_claims r.names;
  }

-- ---- the token

module _ {Key Use Algorithm Type' : Type 0} (k : KeyMeanings Key Use Algorithm Type') {JE AC GC : Type 0} where
  pub accepts_issued : (v : SeenVerifier Key Algorithm) (allows : Option (List ℕ) → Bool) (now : ℤ) (alg : Algorithm) (key : Key) (claims : SeenIdTokenClaims AC GC) (token : SeenToken JE Algorithm (SeenIdTokenClaims AC GC))
      → Expects k v allows now alg key claims → DifferInHashes token.payload claims → token.header ≡ signed_with alg (k.keys.key_id key)
      → k.keys.verdict key alg token.message token.signature ≡ Ok tt → Accepts k v allows now token
  accepts_issued v allows now alg key claims token e d header verified =
      let one : token.payload.own.audiences ≡ v.client_id ∷ [] = d.audiences ∙ e.audience in
      record {
        no_extension = ap (λ h. h.crit) header;
        no_inner_token = ap (λ h. h.cty) header;
        known_type = ap (λ h. is_token_type h.typ) header;
        issuer = ap (λ i. i.text) d.issuer ∙ e.issuer;
        audience = record {
          one = rw one (0, omega arith, refl);
          no_other = rw one (All-cons (λ a. a ≡ v.client_id) v.client_id [] refl (All-nil (λ a. a ≡ v.client_id)));
        };
        alg = alg;
        signed = ap (λ h. h.alg) header;
        allowed = e.allowed;
        key = key;
        chosen = ap (λ h. key_for k v h.kid alg) header ∙ e.chosen;
        verified = verified;
        unexpired = rw d.expiration e.unexpired;
        nonce = ap allows d.nonce ∙ e.nonce;
      }
