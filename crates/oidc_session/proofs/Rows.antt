-- Each answer of the table of a logout token rests on its cause, and each cause has its answer.
use Rattle.std.proofs.Common.{◌≡◌, ℕ, ℤ, Bool, true, false, List, Option, None, Result, Ok, Err, refl, sym, ap, subst, ◌∙◌}
use Rattle.std.specs.Prelude.{not, ◌||◌, is_some, int_lt}
use Rattle.std.specs.FinSet as set
use Rattle.std.specs.Cmp.Lexicographic.{bytes_decides}
use Rattle.std.specs.Str.{bytes_eq}
use Rattle.std.proofs.lemmas.Bool.{false≢true}
use Rattle.oidc_members.specs.declared.refusal.Refusal.{Refusal}
use Rattle.oidc_keys.specs.declared.refusals.SignatureVerificationError.{SignatureVerificationError}
use Rattle.oidc_oauth2.specs.Replies.{◌>>=◌, ◌>>◌, ◌when◌, ◌for◌, ◌or_as◌}
use Rattle.oidc_tokens.specs.Verification.{IsForAlone, is_alone_in}
use Rattle.oidc_login.proofs.Walks.{Walk, at_or_as, at_when, at_for}
use Rattle.oidc_session.specs.Sessions.{TokenIds, SeenLogout}
use Rattle.oidc_session.specs.LogoutTokens.{LogoutKeys, SeenLogoutVerifier, SeenLogoutToken, logout_token_of, is_known_header, is_signed_by, signature_fault, fault_of, names_somebody, logout_of, checked_claims, checked_logout, accepted_logout}
use Rattle.oidc_session.specs.LogoutCauses.{HasKnownHeader, HasOwnIssuer, HasOwnAudience, HasOwnAlgorithm, IsVerified, IsInTime, HasLogoutEvent, NamesSomebody, HasNoNonce, IsAcceptedLogout, LogoutCause}
use Rattle.oidc_session.specs.declared.errors.LogoutError.{LogoutError}
use Rattle.oidc_session.specs.declared.errors.LogoutError.TheVariants as refusal
use Rattle.oidc_session.proofs.Facts.{not_true, not_false, other_bytes, bytes_other, less, less_back, not_less, not_less_back, known_parts, known_back, too_much, too_much_back, signed_of, signed_back, unsigned, unsigned_back, verdict_ok, verdict_err, named_of, named_back, nobody_of, nobody_back, alone, alone_back}

unalone : {id : List ℕ} {audiences : List (List ℕ)} → is_alone_in id audiences ≡ false → IsForAlone id audiences → ⊥
unalone {id} {audiences} h is = false≢true (sym h ∙ alone_back id audiences is)

false_of : (b : Bool) → (b ≡ true → ⊥) → b ≡ false
false_of true n = absurd (n refl)
false_of false n = refl

unalone_back : (id : List ℕ) (audiences : List (List ℕ)) → (IsForAlone id audiences → ⊥) → is_alone_in id audiences ≡ false
unalone_back id audiences n = false_of (is_alone_in id audiences) (λ h. n (alone id audiences h))

module _ {F : Type 0} (P : Unit {0} → Type 0) (Q : F → Type 0) where
  at_last : (b : Bool) (e : F) → (b ≡ true → Q e) → (b ≡ false → P tt) → Walk P Q (e when b)
  at_last true e row_holds ends = row_holds refl
  at_last false e row_holds ends = ends refl

module _ {Key Algorithm : Type 0} (keys : LogoutKeys Key Algorithm) (v : SeenLogoutVerifier Key Algorithm)
    (token_ids : TokenIds) (now : ℤ) (text : List ℕ) where
  abbrev Why : LogoutError → Type 0
  Why = LogoutCause keys v token_ids now text

  -- what holds of a token that passes
  record Passes (token : SeenLogoutToken Algorithm) : Type 0 where
    past : HasNoNonce keys v now text token
    is_new : set.contains token_ids token.payload.needed.token_id ≡ false

  accepted : (token : SeenLogoutToken Algorithm) → Passes token → IsAcceptedLogout keys v token_ids now text (logout_of token.payload)
  accepted token p =
      let a = p.past in
      let b = a.names_somebody in
      let c = b.has_logout_event in
      let d = c.in_time in
      let e = d.is_verified in
      let f = e.by_algorithm in
      let g = f.addressed in
      let h = g.issued in
      let k = h.known in
      record {
        token = token;
        read = k.read;
        no_extension = k.no_extension;
        no_inner_token = k.no_inner_token;
        known_type = k.known_type;
        own_issuer = h.own_issuer;
        own_audience = g.own_audience;
        own_algorithm = f.own_algorithm;
        verified = e.verified;
        unexpired = d.unexpired;
        has_event = c.has_event;
        has_name = b.has_name;
        no_nonce = a.no_nonce;
        is_new = p.is_new;
        named = refl;
      }

  -- ---- from the table to the causes

  module _ (token : SeenLogoutToken Algorithm) (read : logout_token_of keys.words text ≡ Ok token) where
    abbrev PassesHere : Unit {0} → Type 0
    PassesHere u = Passes token

    by_claims : IsVerified keys v now text token → Walk PassesHere Why (checked_claims token_ids now token.payload)
    by_claims verified =
        at_when PassesHere Why (not (int_lt now token.payload.needed.expiration)) refusal.Expired _
        (λ h. record { token = token; is_verified = verified; expired = not_less now token.payload.needed.expiration (not_true _ h) })
        (λ h. let in_time : IsInTime keys v now text token = record { is_verified = verified; unexpired = less now token.payload.needed.expiration (not_false _ h) } in
        at_when PassesHere Why (not token.payload.needed.names_logout) refusal.Events _
        (λ h. record { token = token; in_time = in_time; no_event = not_true _ h })
        (λ h. let event : HasLogoutEvent keys v now text token = record { in_time = in_time; has_event = not_false _ h } in
        at_when PassesHere Why (not (names_somebody token.payload)) refusal.NoName _
        (λ h. let n = nobody_of token.payload (not_true _ h) in record { token = token; has_logout_event = event; no_subject = n.0; no_provider_session = n.1 })
        (λ h. let names : NamesSomebody keys v now text token = record { has_logout_event = event; has_name = named_of token.payload (not_false _ h) } in
        at_when PassesHere Why token.payload.has_nonce refusal.Nonce _
        (λ h. record { token = token; names_somebody = names; nonce = h })
        (λ h. let past : HasNoNonce keys v now text token = record { names_somebody = names; no_nonce = h } in
        at_last PassesHere Why (set.contains token_ids token.payload.needed.token_id) refusal.Replayed
        (λ h. record { token = token; has_no_nonce = past; known_id = h })
        (λ h. record { past = past; is_new = h })))))

    checked : Walk PassesHere Why (checked_logout keys v token_ids now token)
    unfolding checked_logout
    checked =
        at_when PassesHere Why (not (is_known_header token.header)) refusal.Unsupported _
        (λ h. record { token = token; read = read; too_much = too_much token.header (not_true _ h) })
        (λ h. let parts = known_parts token.header (not_false _ h) in
        let known : HasKnownHeader keys v now text token = record { read = read; no_extension = parts.0; no_inner_token = parts.1; known_type = parts.2 } in
        at_when PassesHere Why (not (bytes_eq token.payload.needed.issuer.text v.issuer.text)) refusal.InvalidIssuer _
        (λ h. record { token = token; known = known; other_issuer = other_bytes _ _ (not_true _ h) })
        (λ h. let issued : HasOwnIssuer keys v now text token = record { known = known; own_issuer = (bytes_decides _ _).0 (not_false _ h) } in
        at_when PassesHere Why (not (is_alone_in v.client_id token.payload.needed.audiences)) refusal.InvalidAudience _
        (λ h. record { token = token; issued = issued; other_audience = λ is. unalone (not_true _ h) is })
        (λ h. let addressed : HasOwnAudience keys v now text token = record { issued = issued; own_audience = alone v.client_id token.payload.needed.audiences (not_false _ h) } in
        at_when PassesHere Why (not (is_signed_by keys.words v.alg token.header.alg)) refusal.WrongAlgorithm _
        (λ h. record { token = token; addressed = addressed; other_algorithm = unsigned keys.words v.alg token (not_true _ h) })
        (λ h. let by : HasOwnAlgorithm keys v now text token = record { addressed = addressed; own_algorithm = signed_of keys.words v.alg token (not_false _ h) } in
        at_for PassesHere Why (signature_fault keys v token) refusal.Signature _
        (λ fault h. record { token = token; by_algorithm = by; faulty = verdict_err _ fault h })
        (λ h. by_claims (record { by_algorithm = by; verified = verdict_ok _ h }))))))

  meant_of : (token : SeenLogoutToken Algorithm) (reply : Result (Unit {0}) LogoutError) → Walk (λ u. Passes token) Why reply
      → Walk (IsAcceptedLogout keys v token_ids now text) Why (reply >> Ok (logout_of token.payload))
  meant_of token (Ok u) p = accepted token p
  meant_of token (Err e) why = why

  pub walk : Walk (IsAcceptedLogout keys v token_ids now text) Why (accepted_logout keys v token_ids now text)
  unfolding accepted_logout
  walk =
      at_or_as (IsAcceptedLogout keys v token_ids now text) Why (logout_token_of keys.words text) refusal.Parse _
      (λ e h. h)
      (λ token h. meant_of token (checked_logout keys v token_ids now token) (checked token h))

  -- ---- from the causes to the table

  abbrev by_tests : Bool → Bool → Bool → Bool → Option SignatureVerificationError → Bool → Bool → Bool → Bool → Bool → Result (Unit {0}) LogoutError
  by_tests known issued addressed signed fault in_time event named nonce old = do
    refusal.Unsupported when not known
    refusal.InvalidIssuer when not issued
    refusal.InvalidAudience when not addressed
    refusal.WrongAlgorithm when not signed
    refusal.Signature for fault
    refusal.Expired when not in_time
    refusal.Events when not event
    refusal.NoName when not named
    refusal.Nonce when nonce
    refusal.Replayed when old

  module _ (token : SeenLogoutToken Algorithm) where
    abbrev a : Bool
    a = is_known_header token.header

    abbrev b : Bool
    b = bytes_eq token.payload.needed.issuer.text v.issuer.text

    abbrev c : Bool
    c = is_alone_in v.client_id token.payload.needed.audiences

    abbrev d : Bool
    d = is_signed_by keys.words v.alg token.header.alg

    abbrev s : Option SignatureVerificationError
    s = signature_fault keys v token

    abbrev e : Bool
    e = int_lt now token.payload.needed.expiration

    abbrev f : Bool
    f = token.payload.needed.names_logout

    abbrev g : Bool
    g = names_somebody token.payload

    abbrev h : Bool
    h = token.payload.has_nonce

    abbrev r : Bool
    r = set.contains token_ids token.payload.needed.token_id

    tests : checked_logout keys v token_ids now token ≡ by_tests a b c d s e f g h r
    unfolding checked_logout
    tests = refl

    header_held : HasKnownHeader keys v now text token → a ≡ true
    header_held k = known_back token.header k.no_extension k.no_inner_token k.known_type

    issuer_held : HasOwnIssuer keys v now text token → b ≡ true
    issuer_held k = (bytes_decides _ _).1 k.own_issuer

    audience_held : HasOwnAudience keys v now text token → c ≡ true
    audience_held k = alone_back v.client_id token.payload.needed.audiences k.own_audience

    algorithm_held : HasOwnAlgorithm keys v now text token → d ≡ true
    algorithm_held k = signed_back keys.words v.alg token k.own_algorithm

    signature_held : IsVerified keys v now text token → s ≡ None
    signature_held k = ap fault_of k.verified

    time_held : IsInTime keys v now text token → e ≡ true
    time_held k = less_back now token.payload.needed.expiration k.unexpired

    past_header : HasKnownHeader keys v now text token → checked_logout keys v token_ids now token ≡ by_tests true b c d s e f g h r
    past_header k = tests ∙ (λ i. by_tests (header_held k i) b c d s e f g h r)

    past_issuer : HasOwnIssuer keys v now text token → checked_logout keys v token_ids now token ≡ by_tests true true c d s e f g h r
    past_issuer k = past_header k.known ∙ (λ i. by_tests true (issuer_held k i) c d s e f g h r)

    past_audience : HasOwnAudience keys v now text token → checked_logout keys v token_ids now token ≡ by_tests true true true d s e f g h r
    past_audience k = past_issuer k.issued ∙ (λ i. by_tests true true (audience_held k i) d s e f g h r)

    past_algorithm : HasOwnAlgorithm keys v now text token → checked_logout keys v token_ids now token ≡ by_tests true true true true s e f g h r
    past_algorithm k = past_audience k.addressed ∙ (λ i. by_tests true true true (algorithm_held k i) s e f g h r)

    past_signature : IsVerified keys v now text token → checked_logout keys v token_ids now token ≡ by_tests true true true true None e f g h r
    past_signature k = past_algorithm k.by_algorithm ∙ (λ i. by_tests true true true true (signature_held k i) e f g h r)

    past_time : IsInTime keys v now text token → checked_logout keys v token_ids now token ≡ by_tests true true true true None true f g h r
    past_time k = past_signature k.is_verified ∙ (λ i. by_tests true true true true None (time_held k i) f g h r)

    past_event : HasLogoutEvent keys v now text token → checked_logout keys v token_ids now token ≡ by_tests true true true true None true true g h r
    past_event k = past_time k.in_time ∙ (λ i. by_tests true true true true None true (k.has_event i) g h r)

    past_name : NamesSomebody keys v now text token → checked_logout keys v token_ids now token ≡ by_tests true true true true None true true true h r
    past_name k = past_event k.has_logout_event ∙ (λ i. by_tests true true true true None true true (named_back token.payload k.has_name i) h r)

    past_nonce : HasNoNonce keys v now text token → checked_logout keys v token_ids now token ≡ by_tests true true true true None true true true false r
    past_nonce k = past_name k.names_somebody ∙ (λ i. by_tests true true true true None true true true (k.no_nonce i) r)

  -- the answer, once the text is read and the token is checked
  answer : (token : SeenLogoutToken Algorithm) (reply : Result (Unit {0}) LogoutError) → logout_token_of keys.words text ≡ Ok token
      → checked_logout keys v token_ids now token ≡ reply → accepted_logout keys v token_ids now text ≡ (reply >> Ok (logout_of token.payload))
  unfolding accepted_logout
  answer token reply read is =
      ap (λ (found : Result (SeenLogoutToken Algorithm) Refusal). (found or_as refusal.Parse) >>= λ token. checked_logout keys v token_ids now token >> Ok (logout_of token.payload)) read
      ∙ ap (λ checked. checked >> Ok (logout_of token.payload)) is

  unread : (why : Refusal) → logout_token_of keys.words text ≡ Err why → accepted_logout keys v token_ids now text ≡ Err (refusal.Parse why)
  unfolding accepted_logout
  unread why is =
      ap (λ (found : Result (SeenLogoutToken Algorithm) Refusal). (found or_as refusal.Parse) >>= λ token. checked_logout keys v token_ids now token >> Ok (logout_of token.payload)) is

  pub refused : (why : LogoutError) → LogoutCause keys v token_ids now text why → accepted_logout keys v token_ids now text ≡ Err why
  refused (refusal.Parse why) k = unread why k
  refused refusal.Unsupported k =
      answer k.token (Err refusal.Unsupported) k.read (tests k.token ∙ (λ i. by_tests (too_much_back k.token.header k.too_much i) (b k.token) (c k.token) (d k.token) (s k.token) (e k.token) (f k.token) (g k.token) (h k.token) (r k.token)))
  refused refusal.InvalidIssuer k =
      answer k.token (Err refusal.InvalidIssuer) k.known.read (past_header k.token k.known ∙ (λ i. by_tests true (bytes_other _ _ k.other_issuer i) (c k.token) (d k.token) (s k.token) (e k.token) (f k.token) (g k.token) (h k.token) (r k.token)))
  refused refusal.InvalidAudience k =
      answer k.token (Err refusal.InvalidAudience) k.issued.known.read (past_issuer k.token k.issued ∙ (λ i. by_tests true true (unalone_back v.client_id k.token.payload.needed.audiences k.other_audience i) (d k.token) (s k.token) (e k.token) (f k.token) (g k.token) (h k.token) (r k.token)))
  refused refusal.WrongAlgorithm k =
      answer k.token (Err refusal.WrongAlgorithm) k.addressed.issued.known.read (past_audience k.token k.addressed ∙ (λ i. by_tests true true true (unsigned_back keys.words v.alg k.token k.other_algorithm i) (s k.token) (e k.token) (f k.token) (g k.token) (h k.token) (r k.token)))
  refused (refusal.Signature fault) k =
      answer k.token (Err (refusal.Signature fault)) k.by_algorithm.addressed.issued.known.read (past_algorithm k.token k.by_algorithm ∙ (λ i. by_tests true true true true (fault_of (k.faulty i)) (e k.token) (f k.token) (g k.token) (h k.token) (r k.token)))
  refused refusal.Expired k =
      answer k.token (Err refusal.Expired) k.is_verified.by_algorithm.addressed.issued.known.read (past_signature k.token k.is_verified ∙ (λ i. by_tests true true true true None (not_less_back now k.token.payload.needed.expiration k.expired i) (f k.token) (g k.token) (h k.token) (r k.token)))
  refused refusal.Events k =
      answer k.token (Err refusal.Events) k.in_time.is_verified.by_algorithm.addressed.issued.known.read (past_time k.token k.in_time ∙ (λ i. by_tests true true true true None true (k.no_event i) (g k.token) (h k.token) (r k.token)))
  refused refusal.NoName k =
      answer k.token (Err refusal.NoName) k.has_logout_event.in_time.is_verified.by_algorithm.addressed.issued.known.read (past_event k.token k.has_logout_event ∙ (λ i. by_tests true true true true None true true (nobody_back k.token.payload k.no_subject k.no_provider_session i) (h k.token) (r k.token)))
  refused refusal.Nonce k =
      answer k.token (Err refusal.Nonce) k.names_somebody.has_logout_event.in_time.is_verified.by_algorithm.addressed.issued.known.read (past_name k.token k.names_somebody ∙ (λ i. by_tests true true true true None true true true (k.nonce i) (r k.token)))
  refused refusal.Replayed k =
      answer k.token (Err refusal.Replayed) k.has_no_nonce.names_somebody.has_logout_event.in_time.is_verified.by_algorithm.addressed.issued.known.read (past_nonce k.token k.has_no_nonce ∙ (λ i. by_tests true true true true None true true true false (k.known_id i)))
  refused refusal.Memory k = absurd k

  pub accepts : (logout : SeenLogout) → IsAcceptedLogout keys v token_ids now text logout → accepted_logout keys v token_ids now text ≡ Ok logout
  accepts logout k =
      let known : HasKnownHeader keys v now text k.token = record { read = k.read; no_extension = k.no_extension; no_inner_token = k.no_inner_token; known_type = k.known_type } in
      let issued : HasOwnIssuer keys v now text k.token = record { known = known; own_issuer = k.own_issuer } in
      let addressed : HasOwnAudience keys v now text k.token = record { issued = issued; own_audience = k.own_audience } in
      let by : HasOwnAlgorithm keys v now text k.token = record { addressed = addressed; own_algorithm = k.own_algorithm } in
      let verified : IsVerified keys v now text k.token = record { by_algorithm = by; verified = k.verified } in
      let in_time : IsInTime keys v now text k.token = record { is_verified = verified; unexpired = k.unexpired } in
      let event : HasLogoutEvent keys v now text k.token = record { in_time = in_time; has_event = k.has_event } in
      let names : NamesSomebody keys v now text k.token = record { has_logout_event = event; has_name = k.has_name } in
      let past : HasNoNonce keys v now text k.token = record { names_somebody = names; no_nonce = k.no_nonce } in
      answer k.token (Ok tt) k.read (past_nonce k.token past ∙ (λ i. by_tests true true true true None true true true false (k.is_new i)))
      ∙ sym (ap Ok k.named)

  pub accepted_of : (logout : SeenLogout) → accepted_logout keys v token_ids now text ≡ Ok logout → IsAcceptedLogout keys v token_ids now text logout
  accepted_of logout h = subst (Walk (IsAcceptedLogout keys v token_ids now text) Why) h walk

  -- it names a subject or a session of the provider
  pub names_of : (logout : SeenLogout) → accepted_logout keys v token_ids now text ≡ Ok logout → (is_some logout.subject || is_some logout.provider_session) ≡ true
  names_of logout h =
      let k = accepted_of logout h in
      ap (λ (l : SeenLogout). is_some l.subject || is_some l.provider_session) k.named ∙ named_back k.token.payload k.has_name
