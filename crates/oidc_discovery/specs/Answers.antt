-- What an answer to one of these requests is worth (OpenID Connect Discovery 1.0 section 4.2, RFC 7517 section 8.5).
use Rattle.std.specs.Prelude.{◌≡◌, ◌==◌, ℕ, List, [], ◌∷◌, Bool, not, codes, Result, Ok, Err}
use Rattle.std.specs.List.{list_any}
use Rattle.oidc_oauth2.specs.Messages.{SeenResponse}
use Rattle.oidc_oauth2.specs.HttpUtils.{may_be}
use Rattle.oidc_oauth2.specs.TokenAnswers.{is_over_long}
use Rattle.oidc_oauth2.specs.Replies.{◌>>◌, ◌when◌}
use Rattle.oidc_key_sets.specs.declared.errors.KeySetError.{KeySetError}
use Rattle.oidc_key_sets.specs.Keys.{SeenRsaKey}
use Rattle.oidc_key_sets.specs.KeySets.{IsReadAs, UnlessMemory}
use Rattle.oidc_discovery.specs.declared.errors.AnswerError.{AnswerError}
use Rattle.oidc_discovery.specs.declared.errors.AnswerError.TheVariants.{TooLong, Status, MediaType, Refused}

-- the media types of a document
abbrev pub document_types : List (List ℕ)
document_types = codes "application/json" ∷ []

-- those of a set of keys
abbrev pub key_set_types : List (List ℕ)
key_set_types = codes "application/json" ∷ codes "application/jwk-set+json" ∷ []

-- The media type is absent, or one of these.
abbrev pub is_of_type : List (List ℕ) → SeenResponse → Bool
is_of_type types r = list_any (may_be r.content_type) types

abbrev pub body_of_type : {E : Type 0} → Bool → SeenResponse → Result (List ℕ) (AnswerError E)
body_of_type is_right r = do
  TooLong when is_over_long r.body
  Status r.status when not (r.status == 200)
  MediaType when not is_right
  Ok r.body

-- the body that an answer has: of at most 1,048,576 bytes, under status 200, of one of these types
unfoldable pub body_in : {E : Type 0} → List (List ℕ) → SeenResponse → Result (List ℕ) (AnswerError E)
body_in types r = body_of_type (is_of_type types r) r

-- The answer is why there is no such body, or what the body is read as.
abbrev pub IsJudged : {V E : Type 0} → (List ℕ → Result V E → Type 0) → Result (List ℕ) (AnswerError E)
    → Result V (AnswerError E) → Type 0
IsJudged Reads (Err e) answer = answer ≡ Err e
IsJudged Reads (Ok body) (Ok value) = Reads body (Ok value)
IsJudged Reads (Ok body) (Err (Refused e)) = Reads body (Err e)
IsJudged Reads (Ok body) (Err TooLong) = ⊥
IsJudged Reads (Ok body) (Err (Status status)) = ⊥
IsJudged Reads (Ok body) (Err MediaType) = ⊥

-- What a text is read as is this one thing: where it may be read as `meant`, it was, or there was no memory.
abbrev pub IsAsMeant : Result (List SeenRsaKey) KeySetError → List ℕ → Result (List SeenRsaKey) KeySetError → Type 0
IsAsMeant meant text read = IsReadAs text meant → UnlessMemory read (read ≡ meant)
