-- The judge of revocations.
use Rattle.std.proofs.Common.{◌≡◌, ◌≢◌, ◌==◌, ℕ, Bool, true, false, List, refl, ap, ◌∙◌, arith}
use Rattle.std.specs.Prelude.{Result, Ok, Err, if◌then◌else◌}
use Rattle.oidc_members.specs.Seen.{SeenMember}
use Rattle.oidc_members.specs.declared.refusal.Refusal.{Refusal}
use Rattle.oidc_oauth2.specs.Messages.{SeenResponse}
use Rattle.oidc_oauth2.specs.Replies.{◌>>=◌, ◌>>◌, ◌when◌}
use Rattle.oidc_oauth2.specs.TokenAnswers.{TokenRefusal, is_over_long, is_empty, record_in, refused_by, refusal_in, success_in}
use Rattle.oidc_oauth2.specs.AnswerCauses.{HoldsErrorObject}
use Rattle.oidc_oauth2.specs.declared.token_answers.OtherCause.TheVariants.{Uri, EmptyBody, MediaType}
use Rattle.oidc_oauth2.specs.declared.token_answers.RequestTokenError.TheVariants.{ServerResponse, Request, Parse, Other, TooLong, Memory}
use Rattle.oidc_oauth2_requests.specs.RequestAnswers.{revocation_answer}
use Rattle.oidc_oauth2_requests.specs.RequestCauses.{IsRevoked, RefusalCause, FailsWith, RevocationCause}
use Rattle.oidc_oauth2_requests.proofs.Judges.{Rests, IsJudge}

equal : (n m : ℕ) → (n == m) ≡ true → n ≡ m
equal n m h = grind arith

same : (n m : ℕ) → n ≡ m → (n == m) ≡ true
same n m h = grind arith

apart : (n m : ℕ) → n ≢ m → (n == m) ≡ false
apart n m h = grind arith

unequal : (n m : ℕ) → (n == m) ≡ false → n ≢ m
unequal n m h = grind arith

module _ {TE : Type 0} (error_of : List SeenMember → Result TE Refusal) (r : SeenResponse) where
  abbrev RevocationRests : Result (Unit {0}) (TokenRefusal TE) → Type 0
  RevocationRests = Rests (RevocationCause error_of) (λ r u. IsRevoked r) r

  -- ---- from the rows

  read_rests : HoldsErrorObject r → (read : Result TE Refusal) → record_in error_of r.body ≡ read → RefusalCause error_of r (refused_by error_of r.body read)
  read_rests holds (Ok error) is = record { holds = holds; read = is }
  read_rests holds (Err refusal) is = record { holds = holds; unread = is; own_body = refl }

  body_rests : r.status ≢ 200 → (empty : Bool) → is_empty r.body ≡ empty
      → RefusalCause error_of r (if empty then Other EmptyBody else refused_by error_of r.body (record_in error_of r.body))
  body_rests other true is = record { no_success = other; no_body = is }
  body_rests other false is = read_rests (record { no_success = other; some_body = is }) (record_in error_of r.body) refl

  refusal_rests : r.status ≢ 200 → RefusalCause error_of r (refusal_in error_of r)
  unfolding refusal_in
  refusal_rests other = body_rests other (is_empty r.body) refl

  fails : is_over_long r.body ≡ false → (e : TokenRefusal TE) → RefusalCause error_of r e → RevocationCause error_of r e
  fails short (ServerResponse error) c = record { not_too_long = short; cause = c }
  fails short (Request u) c = absurd c
  fails short (Parse refusal body) c = record { not_too_long = short; cause = c }
  fails short (Other cause) c = record { not_too_long = short; cause = c }
  fails short (TooLong body) c = absurd c
  fails short Memory c = absurd c

  abbrev by_status : Bool → Result SeenResponse (TokenRefusal TE)
  by_status success = if success then Ok r else Err (refusal_in error_of r)

  abbrev revoked : Result SeenResponse (TokenRefusal TE) → Result (Unit {0}) (TokenRefusal TE)
  revoked success = success >>= (λ _. Ok tt)

  status_rests : is_over_long r.body ≡ false → (success : Bool) → (r.status == 200) ≡ success → RevocationRests (revoked (by_status success))
  status_rests short true is = record { not_too_long = short; success = equal r.status 200 is }
  status_rests short false is = fails short (refusal_in error_of r) (refusal_rests (unequal r.status 200 is))

  abbrev by_size : Bool → Result (Unit {0}) (TokenRefusal TE)
  by_size long = revoked ((TooLong r.body when long) >> by_status (r.status == 200))

  size_rests : (long : Bool) → is_over_long r.body ≡ long → RevocationRests (by_size long)
  size_rests true is = record { too_long = is; own_body = refl }
  size_rests false is = status_rests is (r.status == 200) refl

  rests : RevocationRests (revocation_answer error_of r)
  unfolding revocation_answer success_in
  rests = size_rests (is_over_long r.body) refl

  -- ---- and back

  sized : (long : Bool) → is_over_long r.body ≡ long → revocation_answer error_of r ≡ by_size long
  unfolding revocation_answer success_in
  sized long is = ap by_size is

  held : IsRevoked r → revocation_answer error_of r ≡ Ok tt
  held c = sized false c.not_too_long ∙ ap (λ success. revoked (by_status success)) (same r.status 200 c.success)

  other_worth : is_over_long r.body ≡ false → r.status ≢ 200 → revocation_answer error_of r ≡ Err (refusal_in error_of r)
  other_worth short other = sized false short ∙ ap (λ success. revoked (by_status success)) (apart r.status 200 other)

  abbrev by_body : Bool → TokenRefusal TE
  by_body empty = if empty then Other EmptyBody else refused_by error_of r.body (record_in error_of r.body)

  refusal_by : (empty : Bool) → is_empty r.body ≡ empty → refusal_in error_of r ≡ by_body empty
  unfolding refusal_in
  refusal_by empty is = ap by_body is

  said : HoldsErrorObject r → (read : Result TE Refusal) → record_in error_of r.body ≡ read → refusal_in error_of r ≡ refused_by error_of r.body read
  said holds read is = refusal_by false holds.some_body ∙ ap (refused_by error_of r.body) is

  failed : (e : TokenRefusal TE) → FailsWith error_of r e → revocation_answer error_of r ≡ Err e
  failed (ServerResponse error) c =
      other_worth c.not_too_long c.cause.holds.no_success ∙ ap (λ e. Err e) (said c.cause.holds (Ok error) c.cause.read)
  failed (Request u) c = absurd c.cause
  failed (Parse refusal body) c =
      other_worth c.not_too_long c.cause.holds.no_success
      ∙ ap (λ e. Err e) (said c.cause.holds (Err refusal) c.cause.unread ∙ ap (λ b. Parse refusal b) c.cause.own_body)
  failed (Other Uri) c = absurd c.cause
  failed (Other EmptyBody) c =
      other_worth c.not_too_long c.cause.no_success ∙ ap (λ e. Err e) (refusal_by true c.cause.no_body)
  failed (Other MediaType) c = absurd c.cause
  failed (TooLong body) c = absurd c.cause
  failed Memory c = absurd c.cause

  refused : (e : TokenRefusal TE) → RevocationCause error_of r e → revocation_answer error_of r ≡ Err e
  refused (ServerResponse error) c = failed _ c
  refused (Request u) c = failed _ c
  refused (Parse refusal body) c = failed _ c
  refused (Other cause) c = failed _ c
  refused (TooLong body) c = sized true c.too_long ∙ ap (λ b. Err (TooLong b)) c.own_body
  refused Memory c = failed _ c

pub revocations : {TE : Type 0} (error_of : List SeenMember → Result TE Refusal) → IsJudge (RevocationCause error_of) (λ r u. IsRevoked r) (revocation_answer error_of)
revocations error_of = record {
  rests = λ r. rests error_of r;
  refused = λ r e c. refused error_of r e c;
  held = λ r u c. held error_of r c;
  no_fault = λ r u c. c.cause;
  no_address = λ r c. c.cause;
  no_memory = λ r c. c.cause;
}
