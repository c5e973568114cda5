-- The checks of a user info answer that is a token, one after the other, are those of acceptance, and the first
-- that fails has its cause.
use Rattle.std.proofs.Common.{◌≡◌, ◌≢◌, ℕ, Bool, true, false, List, [], ◌∷◌, Option, None, Some, refl, sym, ap, subst, ◌∙◌}
use Rattle.std.specs.Prelude.{Result, Ok, Err, not, ◌||◌, is_none}
use Rattle.std.specs.Option.{option_map_or}
use Rattle.std.specs.Str.{bytes_eq}
use Rattle.std.proofs.lemmas.Bool.{true≢false, false≢true}
use Rattle.oidc_types.specs.{TextAndUrl}
use Rattle.oidc_keys.specs.declared.refusals.SignatureVerificationError.{SignatureVerificationError}
use Rattle.oidc_tokens.specs.declared.verification.refusals.ClaimsVerificationError.{ClaimsVerificationError}
use Rattle.oidc_tokens.specs.declared.verification.refusals.ClaimsVerificationError.TheVariants.{Unsupported, InvalidIssuer, InvalidAudience, SignatureVerification, InvalidSubject}
use Rattle.oidc_jwt.specs.Tokens.{SeenToken}
use Rattle.oidc_tokens.specs.Signatures.{KeyMeanings, verdict_on}
use Rattle.oidc_tokens.specs.Verification.{is_token_type, is_encrypted, is_supported, is_alone_in, unless, refused_as, first_refusal}
use Rattle.oidc_tokens.specs.UserInfoVerification.{SeenUserInfoVerifier, Parties, without_secret, IsIssuedBy, NamesAlone, AcceptsInfo, passes_issuer, passes_audience, is_expected_subject, first_info_failure, InfoFailsUnlessAccepted}
use Rattle.oidc_tokens.specs.UserInfoCauses.{InfoTokenCause}
use Rattle.oidc_tokens.proofs.Accepted.{same_bytes, bytes_same, alone, alone_back, supported_parts, supported_back, good, good_back, passes, passed}
use Rattle.oidc_tokens.proofs.Causes.{same_some, too_much_by, plain_of, differ, signature_cause}

-- ---- a check that may not be asked for

asked_holds : (asked test : Bool) → (not asked || test) ≡ true → asked ≡ true → test ≡ true
asked_holds true test h a = h
asked_holds false test h a = absurd (false≢true a)

asked_back : (asked test : Bool) → (asked ≡ true → test ≡ true) → (not asked || test) ≡ true
asked_back true test h = h refl
asked_back false test h = refl

asked_fails : (asked test : Bool) → (not asked || test) ≡ false → (asked ≡ true) × (test ≡ false)
asked_fails true test h = (refl, h)
asked_fails false test h = absurd (true≢false h)

-- ---- the parties

abbrev is_issued_by : List ℕ → Option TextAndUrl → Bool
is_issued_by text issuer = option_map_or (λ i. bytes_eq i.text text) issuer false

issued_by : (text : List ℕ) (issuer : Option TextAndUrl) → is_issued_by text issuer ≡ true → IsIssuedBy text issuer
issued_by text None h = absurd (false≢true h)
issued_by text (Some i) h = record { found = i; there = refl; same = same_bytes i.text text h }

issued_back : (text : List ℕ) (issuer : Option TextAndUrl) → IsIssuedBy text issuer → is_issued_by text issuer ≡ true
issued_back text issuer is = ap (is_issued_by text) is.there ∙ bytes_same is.found.text text is.same

abbrev is_for_alone : List ℕ → Option (List (List ℕ)) → Bool
is_for_alone id audiences = option_map_or (is_alone_in id) audiences false

for_alone : (id : List ℕ) (audiences : Option (List (List ℕ))) → is_for_alone id audiences ≡ true → NamesAlone id audiences
for_alone id None h = absurd (false≢true h)
for_alone id (Some xs) h = record { found = xs; there = refl; alone = alone id xs h }

for_alone_back : (id : List ℕ) (audiences : Option (List (List ℕ))) → NamesAlone id audiences → is_for_alone id audiences ≡ true
for_alone_back id audiences is = ap (is_for_alone id) is.there ∙ alone_back id is.found is.alone

same_text : (a b : List ℕ) → Some a ≡ Some b → a ≡ b
same_text a b h = cc

pub about : (expected : Option (List ℕ)) (subject : List ℕ) → is_expected_subject expected subject ≡ true → (e : List ℕ) → expected ≡ Some e → subject ≡ e
about None subject h e is = absurd cc
about (Some x) subject h e is = same_bytes subject x h ∙ same_text x e is

pub about_back : (expected : Option (List ℕ)) (subject : List ℕ) → ((e : List ℕ) → expected ≡ Some e → subject ≡ e) → is_expected_subject expected subject ≡ true
about_back None subject h = refl
about_back (Some x) subject h = bytes_same subject x (h x refl)

pub about_another : (expected : Option (List ℕ)) (subject : List ℕ) → is_expected_subject expected subject ≡ false → (e : List ℕ) × (expected ≡ Some e) × (subject ≢ e)
about_another None subject h = absurd (true≢false h)
about_another (Some x) subject h = (x, refl, differ subject x h)

-- ---- all of them

abbrev All_none : Option ClaimsVerificationError → Option ClaimsVerificationError → Option ClaimsVerificationError → Option ClaimsVerificationError → Option ClaimsVerificationError → Type 0
All_none a b c d e = (a ≡ None) × (b ≡ None) × (c ≡ None) × (d ≡ None) × (e ≡ None)

all_five : (a b c d e : Option ClaimsVerificationError) → first_refusal (a ∷ b ∷ c ∷ d ∷ e ∷ []) ≡ None → All_none a b c d e
all_five None None None None None h = (refl, refl, refl, refl, refl)
all_five (Some x) b c d e h = absurd cc
all_five None (Some x) c d e h = absurd cc
all_five None None (Some x) d e h = absurd cc
all_five None None None (Some x) e h = absurd cc
all_five None None None None (Some x) h = absurd cc

five_back : (a b c d e : Option ClaimsVerificationError) → All_none a b c d e → first_refusal (a ∷ b ∷ c ∷ d ∷ e ∷ []) ≡ None
five_back a b c d e h = rw (h.0, h.1, h.2, h.3, h.4) refl

module _ {Key Use Algorithm Type' : Type 0} (k : KeyMeanings Key Use Algorithm Type') {JE P : Type 0} where
  pub info_accepts : (v : SeenUserInfoVerifier Key) (token : SeenToken JE Algorithm P) (named : Parties) → first_info_failure k v token named ≡ None → AcceptsInfo k v token named
  unfolding first_info_failure
  info_accepts v token named h =
      let five = all_five (unless (is_supported token.header) Unsupported) (unless (passes_issuer v named.issuer) InvalidIssuer) (unless (passes_audience v named.audiences) InvalidAudience)
      (refused_as SignatureVerification (verdict_on k (without_secret v) token)) (unless (is_expected_subject v.expected_subject named.subject) InvalidSubject) h in
      let header = supported_parts token.header (passes (is_supported token.header) Unsupported five.0) in
      let signed = good k (without_secret v) token (passed (verdict_on k (without_secret v) token) five.3) in
      record {
        no_extension = header.0;
        no_inner_token = header.1;
        known_type = header.2;
        issuer = λ asked. issued_by v.issuer.text named.issuer (asked_holds v.issuer_match (is_issued_by v.issuer.text named.issuer) (passes (passes_issuer v named.issuer) InvalidIssuer five.1) asked);
        audience = λ asked. for_alone v.client_id named.audiences (asked_holds v.audience_match (is_for_alone v.client_id named.audiences) (passes (passes_audience v named.audiences) InvalidAudience five.2) asked);
        alg = signed.alg;
        signed = signed.signed;
        allowed = signed.allowed;
        key = signed.key;
        chosen = signed.chosen;
        verified = signed.verified;
        subject = about v.expected_subject named.subject (passes (is_expected_subject v.expected_subject named.subject) InvalidSubject five.4);
      }

  pub info_accepted : (v : SeenUserInfoVerifier Key) (token : SeenToken JE Algorithm P) (named : Parties) → AcceptsInfo k v token named → first_info_failure k v token named ≡ None
  unfolding first_info_failure
  info_accepted v token named a =
      five_back _ _ _ _ _ (
        ap (λ b. unless b Unsupported) (supported_back token.header a.alg a.no_extension a.no_inner_token a.known_type a.signed),
        ap (λ b. unless b InvalidIssuer) (asked_back v.issuer_match (is_issued_by v.issuer.text named.issuer) (λ asked. issued_back v.issuer.text named.issuer (a.issuer asked))),
        ap (λ b. unless b InvalidAudience) (asked_back v.audience_match (is_for_alone v.client_id named.audiences) (λ asked. for_alone_back v.client_id named.audiences (a.audience asked))),
        ap (refused_as SignatureVerification) (good_back k (without_secret v) token (record { alg = a.alg; signed = a.signed; allowed = a.allowed; key = a.key; chosen = a.chosen; verified = a.verified })),
        ap (λ b. unless b InvalidSubject) (about_back v.expected_subject named.subject a.subject),
      )

  pub info_fails_unless_accepted : InfoFailsUnlessAccepted k JE P
  info_fails_unless_accepted v token named = (info_accepts v token named, info_accepted v token named)

-- ---- the first that fails

module _ {Key Use Algorithm Type' : Type 0} (k : KeyMeanings Key Use Algorithm Type') {JE P : Type 0}
    (v : SeenUserInfoVerifier Key) (token : SeenToken JE Algorithm P) (named : Parties) where
  subject_cause : (expected : Bool) → is_expected_subject v.expected_subject named.subject ≡ expected → (e : ClaimsVerificationError) → first_refusal (unless expected InvalidSubject ∷ []) ≡ Some e → InfoTokenCause k v token named e
  subject_cause true is e h = absurd cc
  subject_cause false is e h = subst (InfoTokenCause k v token named) (same_some InvalidSubject e h) (about_another v.expected_subject named.subject is)

  signed_cause : is_encrypted token.header.alg ≡ false → (said : Result (Unit {0}) SignatureVerificationError) → verdict_on k (without_secret v) token ≡ said → (e : ClaimsVerificationError)
      → first_refusal (refused_as SignatureVerification said ∷ unless (is_expected_subject v.expected_subject named.subject) InvalidSubject ∷ []) ≡ Some e → InfoTokenCause k v token named e
  signed_cause plain (Ok u) is e h = subject_cause (is_expected_subject v.expected_subject named.subject) refl e h
  signed_cause plain (Err r) is e h = subst (InfoTokenCause k v token named) (same_some (SignatureVerification r) e h) (signature_cause k (without_secret v) token plain r is)

  audience_cause : is_encrypted token.header.alg ≡ false → (passes : Bool) → passes_audience v named.audiences ≡ passes → (e : ClaimsVerificationError)
      → first_refusal (unless passes InvalidAudience ∷ refused_as SignatureVerification (verdict_on k (without_secret v) token) ∷ unless (is_expected_subject v.expected_subject named.subject) InvalidSubject ∷ []) ≡ Some e
      → InfoTokenCause k v token named e
  audience_cause plain true is e h = signed_cause plain (verdict_on k (without_secret v) token) refl e h
  audience_cause plain false is e h =
      let fails = asked_fails v.audience_match (is_for_alone v.client_id named.audiences) is in
      subst (InfoTokenCause k v token named) (same_some InvalidAudience e h)
      (fails.0, λ holds. true≢false (sym (for_alone_back v.client_id named.audiences holds) ∙ fails.1))

  issuer_cause : is_encrypted token.header.alg ≡ false → (passes : Bool) → passes_issuer v named.issuer ≡ passes → (e : ClaimsVerificationError)
      → first_refusal (unless passes InvalidIssuer ∷ unless (passes_audience v named.audiences) InvalidAudience ∷ refused_as SignatureVerification (verdict_on k (without_secret v) token)
      ∷ unless (is_expected_subject v.expected_subject named.subject) InvalidSubject ∷ []) ≡ Some e
      → InfoTokenCause k v token named e
  issuer_cause plain true is e h = audience_cause plain (passes_audience v named.audiences) refl e h
  issuer_cause plain false is e h =
      let fails = asked_fails v.issuer_match (is_issued_by v.issuer.text named.issuer) is in
      subst (InfoTokenCause k v token named) (same_some InvalidIssuer e h)
      (fails.0, λ holds. true≢false (sym (issued_back v.issuer.text named.issuer holds) ∙ fails.1))

  header_cause : (supported : Bool) → is_supported token.header ≡ supported → (e : ClaimsVerificationError)
      → first_refusal (unless supported Unsupported ∷ unless (passes_issuer v named.issuer) InvalidIssuer ∷ unless (passes_audience v named.audiences) InvalidAudience
      ∷ refused_as SignatureVerification (verdict_on k (without_secret v) token) ∷ unless (is_expected_subject v.expected_subject named.subject) InvalidSubject ∷ []) ≡ Some e
      → InfoTokenCause k v token named e
  header_cause true is e h = issuer_cause (plain_of token.header.crit (is_none token.header.cty) (is_token_type token.header.typ) (is_encrypted token.header.alg) is) (passes_issuer v named.issuer) refl e h
  header_cause false is e h =
      subst (InfoTokenCause k v token named) (same_some Unsupported e h)
      (too_much_by token.header.crit token.header.cty (is_token_type token.header.typ) (is_encrypted token.header.alg) is)

  pub info_failure_cause : (e : ClaimsVerificationError) → first_info_failure k v token named ≡ Some e → InfoTokenCause k v token named e
  unfolding first_info_failure
  info_failure_cause e h = header_cause (is_supported token.header) refl e h
