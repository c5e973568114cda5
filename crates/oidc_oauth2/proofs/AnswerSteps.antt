-- What a response to a request for tokens is worth, by the steps that answers to all requests share.
use Rattle.std.proofs.Common.{◌≡◌, ◌==◌, ℕ, Bool, true, false, List, refl, ap, sym, subst, ◌∙◌}
use Rattle.std.specs.Prelude.{Result, Ok, Err, not, if◌then◌else◌}
use Rattle.oidc_members.specs.Seen.{SeenMember}
use Rattle.oidc_members.specs.Objects.{split_of}
use Rattle.oidc_members.specs.declared.refusal.Refusal.{Refusal}
use Rattle.oidc_oauth2.specs.Messages.{SeenResponse}
use Rattle.oidc_oauth2.specs.Replies.{◌>>=◌, ◌>>◌, ◌when◌, ◌or_as◌, Unless, Gives}
use Rattle.oidc_oauth2.specs.TokenAnswers.{TokenRefusal, is_over_long, is_empty, may_be_json, record_in, error_in, tokens_in, status_worth, token_answer, read_in, members_in, object_in, refused_by, refusal_in, success_in, object_answer, wants_memory, seen_refusal, token_errors}
use Rattle.oidc_oauth2.specs.declared.token_answers.OtherCause.TheVariants.{EmptyBody, MediaType}
use Rattle.oidc_oauth2.proofs.Runs.{unless_map}
use Rattle.oidc_oauth2.specs.declared.token_answers.RequestTokenError.{RequestTokenError}
use Rattle.oidc_oauth2.specs.declared.token_answers.RequestTokenError.TheVariants.{ServerResponse, Parse, Other, TooLong}

module _ {TE A : Type 0} (error_of : List SeenMember → Result TE Refusal) (read_of : List SeenMember → Result A Refusal) where
  -- the record of an object
  abbrev pub record_of : List SeenMember × List ℕ → Result A (TokenRefusal TE)
  record_of object = read_in object.1 (read_of object.0)

  -- ---- of status 200

  module _ (r : SeenResponse) where
    abbrev both : Result (List SeenMember) Refusal → Result A (TokenRefusal TE)
    both split = read_in r.body (split >>= read_of)

    split_first : (split : Result (List SeenMember) Refusal)
        → both split ≡ (read_in r.body split >>= (λ members. Ok (members, r.body))) >>= record_of
    split_first (Ok members) = refl
    split_first (Err refusal) = refl

    by_empty : (empty : Bool)
        → (Other EmptyBody when empty) >> both (split_of r.body) ≡ ((Other EmptyBody when empty) >> members_in r.body) >>= record_of
    by_empty true = refl
    by_empty false = split_first (split_of r.body)

    by_type : (other : Bool) → (Other MediaType when other) >> ((Other EmptyBody when is_empty r.body) >> both (split_of r.body))
        ≡ ((Other MediaType when other) >> ((Other EmptyBody when is_empty r.body) >> members_in r.body)) >>= record_of
    by_type true = refl
    by_type false = by_empty (is_empty r.body)

    tokens_by_object : tokens_in error_of read_of r ≡ object_in r >>= record_of
    unfolding tokens_in object_in
    tokens_by_object = by_type (not (may_be_json r))

  module _ (r : SeenResponse) where
    -- ---- of another status

    abbrev of_error : Result TE Refusal → Result A (TokenRefusal TE)
    of_error read = (read or_as (λ refusal. Parse refusal r.body)) >>= (λ error. Err (ServerResponse error))

    by_error : (read : Result TE Refusal) → of_error read ≡ Err (refused_by error_of r.body read)
    by_error (Ok error) = refl
    by_error (Err refusal) = refl

    by_body : (empty : Bool) → (Other EmptyBody when empty) >> of_error (record_in error_of r.body)
        ≡ Err (if empty then Other EmptyBody else refused_by error_of r.body (record_in error_of r.body))
    by_body true = refl
    by_body false = by_error (record_in error_of r.body)

    error_by_refusal : error_in error_of read_of r ≡ Err (refusal_in error_of r)
    unfolding error_in refusal_in
    error_by_refusal = by_body (is_empty r.body)

    -- ---- of any status

    by_status : (success : Bool) → (if success then tokens_in error_of read_of r else error_in error_of read_of r)
        ≡ (if success then Ok r else Err (refusal_in error_of r)) >>= tokens_in error_of read_of
    by_status true = refl
    by_status false = error_by_refusal

    by_size : (long : Bool) → (TooLong r.body when long) >> status_worth error_of read_of r
        ≡ ((TooLong r.body when long) >> (if r.status == 200 then Ok r else Err (refusal_in error_of r))) >>= tokens_in error_of read_of
    unfolding status_worth
    by_size true = refl
    by_size false = by_status (r.status == 200)

    pub answer_by_success : token_answer error_of read_of r ≡ success_in error_of r >>= tokens_in error_of read_of
    unfolding token_answer success_in
    answer_by_success = by_size (is_over_long r.body)

    -- ---- by the object

    by_object : (s : Result SeenResponse (TokenRefusal TE)) → s >>= tokens_in error_of read_of ≡ (s >>= object_in) >>= record_of
    by_object (Ok success) = tokens_by_object success
    by_object (Err e) = refl

    answer_by_object : token_answer error_of read_of r ≡ object_answer error_of r >>= record_of
    answer_by_object = answer_by_success ∙ by_object (success_in error_of r)

    refused_object : (e : TokenRefusal TE) → object_answer error_of r ≡ Err e → token_answer error_of read_of r ≡ Err e
    refused_object e is = answer_by_object ∙ ap (λ object. object >>= record_of) is

    -- a response that holds no object is refused for that
    pub record_refused : {RE : Type 0} (result : Result A (RequestTokenError RE TE)) (e : RequestTokenError RE TE) → result ≡ Err e
        → Unless (wants_memory e) (object_answer error_of r ≡ Err (seen_refusal e)) → Gives token_errors result (token_answer error_of read_of r)
    record_refused result e is why =
        subst (λ result. Gives token_errors result (token_answer error_of read_of r)) (sym is)
        (unless_map (wants_memory e) (refused_object (seen_refusal e)) why)

    -- one that holds an object is worth what is read of that
    pub record_read : {RE : Type 0} (result : Result A (RequestTokenError RE TE)) (object : List SeenMember × List ℕ) → object_answer error_of r ≡ Ok object
        → Gives token_errors result (record_of object) → Gives token_errors result (token_answer error_of read_of r)
    record_read result object is gives =
        subst (Gives token_errors result) (sym (answer_by_object ∙ ap (λ object. object >>= record_of) is)) gives
