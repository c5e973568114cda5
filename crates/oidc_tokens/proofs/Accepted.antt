-- The checks, one after the other, are those of acceptance.
use Rattle.std.proofs.Common.{◌≡◌, ℕ, suc, ℤ, Bool, true, false, List, [], ◌∷◌, Option, None, Some, refl, ap, ◌∙◌, arith, ⊎_elim}
use Rattle.std.specs.Prelude.{Result, Ok, Err, not, ◌&&◌, if◌then◌else◌, Contains, int_lt, ◌<ℤ◌, is_none}
use Rattle.std.specs.List.{list_all, list_any}
use Rattle.std.specs.Option.{option_or}
use Rattle.std.specs.Str.{bytes_eq}
use Rattle.std.proofs.lemmas.Bool.{and_parts, and_from, or_cases, false≢true}
use Rattle.std.proofs.lemmas.List.Elements.{All-weaker}
use Rattle.std.proofs.lemmas.List.Sums.{AllPass-from_list_all, list_all-from_AllPass}
use Rattle.std.proofs.lemmas.List.Folds.{list_any_at}
use Rattle.std.proofs.lemmas.Slice.Eq.{bytes_eq-Decides}
use Rattle.std.proofs.lemmas.Int.{ints}
use Rattle.oidc_keys.specs.declared.refusals.SignatureVerificationError.{SignatureVerificationError}
use Rattle.oidc_jwt.specs.declared.header.JsonWebTokenAlgorithm.{JsonWebTokenAlgorithm}
use Rattle.oidc_jwt.specs.declared.header.JsonWebTokenAlgorithm.TheVariants as algorithm
use Rattle.oidc_jwt.specs.declared.header.TokenHeader.{TokenHeader}
use Rattle.oidc_tokens.specs.declared.verification.refusals.ClaimsVerificationError.{ClaimsVerificationError}
use Rattle.oidc_tokens.specs.declared.verification.refusals.ClaimsVerificationError.TheVariants.{Unsupported, InvalidIssuer, InvalidAudience, SignatureVerification, Expired, InvalidNonce}
use Rattle.oidc_tokens.specs.Steps.{◌>>=◌}
use Rattle.oidc_jwt.specs.Tokens.{SeenToken}
use Rattle.oidc_id_token_claims.specs.IdTokenClaims.{SeenIdTokenClaims}
use Rattle.oidc_tokens.specs.Signatures.{KeyMeanings, SeenVerifier, signing_alg, is_allowed, if_allowed, key_for, verdict_on}
use Rattle.oidc_tokens.specs.Verification.{is_token_type, is_encrypted, is_supported, IsForAlone, is_alone_in, Accepts, unless, refused_as, first_refusal, first_failure, FailsUnlessAccepted}

-- ---- one check

pub same_bytes : (xs ys : List ℕ) → bytes_eq xs ys ≡ true → xs ≡ ys
same_bytes xs ys h = (bytes_eq-Decides xs ys).0 h

pub bytes_same : (xs ys : List ℕ) → xs ≡ ys → bytes_eq xs ys ≡ true
bytes_same xs ys h = (bytes_eq-Decides xs ys).1 h

pub contains_found : {A : Type 0} (test : A → Bool) (x : A) → ((y : A) → test y ≡ true → y ≡ x) → (xs : List A) → list_any test xs ≡ true → Contains xs x
contains_found test x same [] h = absurd (false≢true h)
contains_found test x same (y ∷ ys) h =
    ⊎_elim
    (λ here. (0, omega arith, same y here))
    (λ there. let rest : Contains ys x = contains_found test x same ys there in (suc rest.0, omega (arith, rest.1), rest.2))
    (or_cases (test y) (list_any test ys) h)

pub found_contained : {A : Type 0} (test : A → Bool) (x : A) → test x ≡ true → (xs : List A) → Contains xs x → list_any test xs ≡ true
found_contained test x passes xs h = list_any_at test xs h.0 x h.1 (ap test h.2 ∙ passes)

pub alone : (id : List ℕ) (audiences : List (List ℕ)) → is_alone_in id audiences ≡ true → IsForAlone id audiences
alone id audiences h =
    let parts = and_parts (list_any (λ a. bytes_eq a id) audiences) (list_all (λ a. bytes_eq a id) audiences) h in
    record {
      one = contains_found (λ a. bytes_eq a id) id (λ a e. same_bytes a id e) audiences parts.0;
      no_other = All-weaker (λ a. bytes_eq a id ≡ true) (λ a. a ≡ id) (λ a e. same_bytes a id e) audiences (AllPass-from_list_all (λ a. bytes_eq a id) audiences parts.1);
    }

pub alone_back : (id : List ℕ) (audiences : List (List ℕ)) → IsForAlone id audiences → is_alone_in id audiences ≡ true
alone_back id audiences is =
    and_from (list_any (λ a. bytes_eq a id) audiences) (list_all (λ a. bytes_eq a id) audiences)
    (found_contained (λ a. bytes_eq a id) id (bytes_same id id refl) audiences is.one)
    (list_all-from_AllPass (λ a. bytes_eq a id) audiences (All-weaker (λ a. a ≡ id) (λ a. bytes_eq a id ≡ true) (λ a e. bytes_same a id e) audiences is.no_other))

less : (a b : ℤ) → int_lt a b ≡ true → a <ℤ b
less a b h = grind (arith, ints)

less_back : (a b : ℤ) → a <ℤ b → int_lt a b ≡ true
less_back a b h = grind (arith, ints)

pub not_true : (b : Bool) → not b ≡ true → b ≡ false
not_true true h = absurd (false≢true h)
not_true false h = refl

none_of : {A : Type 0} (o : Option A) → is_none o ≡ true → o ≡ None
none_of None h = refl
none_of (Some x) h = absurd (false≢true h)

-- ---- the header

module _ {JE JS : Type 0} where
  pub supported_parts : (h : TokenHeader JE JS) → is_supported h ≡ true → (h.crit ≡ false) × (h.cty ≡ None) × (is_token_type h.typ ≡ true)
  supported_parts h e =
      let a = and_parts (not h.crit && is_none h.cty && is_token_type h.typ) (not (is_encrypted h.alg)) e in
      let b = and_parts (not h.crit && is_none h.cty) (is_token_type h.typ) a.0 in
      let c = and_parts (not h.crit) (is_none h.cty) b.0 in
      (not_true h.crit c.0, none_of h.cty c.1, b.1)

  pub supported_back : (h : TokenHeader JE JS) (alg : JS) → h.crit ≡ false → h.cty ≡ None → is_token_type h.typ ≡ true → h.alg ≡ algorithm.Signature alg → is_supported h ≡ true
  supported_back h alg crit cty typ signed =
      and_from (not h.crit && is_none h.cty && is_token_type h.typ) (not (is_encrypted h.alg))
      (and_from (not h.crit && is_none h.cty) (is_token_type h.typ)
      (and_from (not h.crit) (is_none h.cty) (ap not crit) (ap is_none cty)) typ)
      (ap (λ a. not (is_encrypted a)) signed)

-- ---- the signature

module _ {Key Use Algorithm Type' : Type 0} (k : KeyMeanings Key Use Algorithm Type') {JE P : Type 0} where
  -- what is said of a signature that is good
  pub record Good (v : SeenVerifier Key Algorithm) (token : SeenToken JE Algorithm P) : Type 0 where
    pub alg : Algorithm
    pub signed : token.header.alg ≡ algorithm.Signature alg
    pub allowed : is_allowed k v alg ≡ true
    pub key : Key
    pub chosen : key_for k v token.header.kid alg ≡ Ok key
    pub verified : k.keys.verdict key alg token.message token.signature ≡ Ok tt

  chosen_of : (v : SeenVerifier Key Algorithm) (token : SeenToken JE Algorithm P) (alg : Algorithm) → token.header.alg ≡ algorithm.Signature alg → is_allowed k v alg ≡ true
      → (chosen : Result Key SignatureVerificationError) → key_for k v token.header.kid alg ≡ chosen
      → (chosen >>= λ key. k.keys.verdict key alg token.message token.signature) ≡ Ok tt → Good v token
  chosen_of v token alg signed allowed (Ok key) is h = record { alg = alg; signed = signed; allowed = allowed; key = key; chosen = is; verified = h }
  chosen_of v token alg signed allowed (Err e) is h = absurd cc

  allowed_of : (v : SeenVerifier Key Algorithm) (token : SeenToken JE Algorithm P) (alg : Algorithm) → token.header.alg ≡ algorithm.Signature alg
      → (b : Bool) → is_allowed k v alg ≡ b
      → ((if b then Ok alg else Err SignatureVerificationError.DisallowedAlg) >>= λ alg. key_for k v token.header.kid alg >>= λ key. k.keys.verdict key alg token.message token.signature) ≡ Ok tt → Good v token
  allowed_of v token alg signed true is h = chosen_of v token alg signed is _ refl h
  allowed_of v token alg signed false is h = absurd cc

  named_of : (v : SeenVerifier Key Algorithm) (token : SeenToken JE Algorithm P) (named : JsonWebTokenAlgorithm JE Algorithm) → token.header.alg ≡ named
      → (signing_alg named >>= λ named. if_allowed k v named >>= λ alg. key_for k v token.header.kid alg >>= λ key. k.keys.verdict key alg token.message token.signature) ≡ Ok tt → Good v token
  named_of v token (algorithm.Signature alg) signed h = allowed_of v token alg signed _ refl h
  named_of v token (algorithm.Encryption alg) signed h = absurd cc
  named_of v token algorithm.None signed h = absurd cc

  pub good : (v : SeenVerifier Key Algorithm) (token : SeenToken JE Algorithm P) → verdict_on k v token ≡ Ok tt → Good v token
  unfolding verdict_on
  good v token h = named_of v token token.header.alg refl h

  pub good_back : (v : SeenVerifier Key Algorithm) (token : SeenToken JE Algorithm P) → Good v token → verdict_on k v token ≡ Ok tt
  unfolding verdict_on
  good_back v token g = rw (g.signed, g.allowed, g.chosen) g.verified

-- ---- all of them

pub passes : {E : Type 0} (test : Bool) (refusal : E) → unless test refusal ≡ None → test ≡ true
passes true refusal h = refl
passes false refusal h = absurd cc

pub passed : (said : Result (Unit {0}) SignatureVerificationError) → refused_as SignatureVerification said ≡ None → said ≡ Ok tt
passed (Ok u) h = refl
passed (Err e) h = absurd cc

first_two : (a b : Option ClaimsVerificationError) → option_or a b ≡ None → (a ≡ None) × (b ≡ None)
first_two None b h = (refl, h)
first_two (Some e) b h = absurd cc

abbrev pub All_none : {E : Type 0} → Option E → Option E → Option E → Option E → Option E → Option E → Type 0
All_none a b c d e f = (a ≡ None) × (b ≡ None) × (c ≡ None) × (d ≡ None) × (e ≡ None) × (f ≡ None)

pub all_six : {E : Type 0} (a b c d e f : Option E) → first_refusal (a ∷ b ∷ c ∷ d ∷ e ∷ f ∷ []) ≡ None → All_none a b c d e f
all_six None None None None None None h = (refl, refl, refl, refl, refl, refl)
all_six (Some x) b c d e f h = absurd cc
all_six None (Some x) c d e f h = absurd cc
all_six None None (Some x) d e f h = absurd cc
all_six None None None (Some x) e f h = absurd cc
all_six None None None None (Some x) f h = absurd cc
all_six None None None None None (Some x) h = absurd cc

pub six_back : {E : Type 0} (a b c d e f : Option E) → All_none a b c d e f → first_refusal (a ∷ b ∷ c ∷ d ∷ e ∷ f ∷ []) ≡ None
six_back a b c d e f h = rw (h.0, h.1, h.2, h.3, h.4, h.5) refl

module _ {Key Use Algorithm Type' : Type 0} (k : KeyMeanings Key Use Algorithm Type') {JE AC GC : Type 0} where
  pub accepts : (v : SeenVerifier Key Algorithm) (allows : Option (List ℕ) → Bool) (now : ℤ) (token : SeenToken JE Algorithm (SeenIdTokenClaims AC GC))
      → first_failure k v allows now token ≡ None → Accepts k v allows now token
  unfolding first_failure
  accepts v allows now token h =
      let own = token.payload.own in
      let six = all_six (unless (is_supported token.header) Unsupported) (unless (bytes_eq own.issuer.text v.issuer.text) InvalidIssuer) (unless (is_alone_in v.client_id own.audiences) InvalidAudience)
      (refused_as SignatureVerification (verdict_on k v token)) (unless (int_lt now own.expiration) Expired) (unless (allows own.nonce) InvalidNonce) h in
      let header = supported_parts token.header (passes (is_supported token.header) Unsupported six.0) in
      let signed = good k v token (passed (verdict_on k v token) six.3) in
      record {
        no_extension = header.0;
        no_inner_token = header.1;
        known_type = header.2;
        issuer = same_bytes own.issuer.text v.issuer.text (passes (bytes_eq own.issuer.text v.issuer.text) InvalidIssuer six.1);
        audience = alone v.client_id own.audiences (passes (is_alone_in v.client_id own.audiences) InvalidAudience six.2);
        alg = signed.alg;
        signed = signed.signed;
        allowed = signed.allowed;
        key = signed.key;
        chosen = signed.chosen;
        verified = signed.verified;
        unexpired = less now own.expiration (passes (int_lt now own.expiration) Expired six.4);
        nonce = passes (allows own.nonce) InvalidNonce six.5;
      }

  pub accepted : (v : SeenVerifier Key Algorithm) (allows : Option (List ℕ) → Bool) (now : ℤ) (token : SeenToken JE Algorithm (SeenIdTokenClaims AC GC))
      → Accepts k v allows now token → first_failure k v allows now token ≡ None
  unfolding first_failure
  accepted v allows now token a =
      let own = token.payload.own in
      six_back _ _ _ _ _ _ (
        ap (λ b. unless b Unsupported) (supported_back token.header a.alg a.no_extension a.no_inner_token a.known_type a.signed),
        ap (λ b. unless b InvalidIssuer) (bytes_same own.issuer.text v.issuer.text a.issuer),
        ap (λ b. unless b InvalidAudience) (alone_back v.client_id own.audiences a.audience),
        ap (refused_as SignatureVerification) (good_back k v token (record { alg = a.alg; signed = a.signed; allowed = a.allowed; key = a.key; chosen = a.chosen; verified = a.verified })),
        ap (λ b. unless b Expired) (less_back now own.expiration a.unexpired),
        ap (λ b. unless b InvalidNonce) a.nonce,
      )

  pub fails_unless_accepted : FailsUnlessAccepted k JE AC GC
  fails_unless_accepted v allows now token = (accepts v allows now token, accepted v allows now token)
