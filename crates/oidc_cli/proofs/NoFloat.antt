-- The claims of a user who is signed in hold no float, since an object that holds one isn't read.
use Rattle.std.proofs.Common.{◌≡◌, ℕ, List, [], ◌∷◌, map, Bool, true, false, cond, ◌||◌, Option, None, Some, Result, Ok, Err, IfOk, refl, sym, ap, ◌∙◌, filter}
use Rattle.std.specs.Prelude.{not, IfSome, ◌==◌, codes}
use Rattle.std.specs.List.{list_any, list_all}
use Rattle.std.specs.Str.{is_utf8}
use Rattle.std.proofs.lemmas.Bool.{true≢false, and_from}
use Rattle.serde_json.specs.Written.{has_float}
use Rattle.oidc_members.specs.Seen.{SeenMember}
use Rattle.oidc_members.specs.Objects.{split_of}
use Rattle.oidc_members.specs.Write.{any_float}
use Rattle.oidc_members.specs.declared.reading.Reading.{Reading}
use Rattle.oidc_members.specs.declared.refusal.Refusal.{Refusal}
use Rattle.oidc_readers.specs.Kinds.{text_kind}
use Rattle.oidc_readers.specs.Records.{faultless}
use Rattle.oidc_claims.specs.Additional.{out_of, are_additional}
use Rattle.oidc_claims.specs.Home.{is_additional, is_additional_home, home_of, user_info_fields}
use Rattle.oidc_claims.specs.Standard.{faultless_claims}
use Rattle.oidc_claims.specs.Others.{list_of, others_of, read_others}
use Rattle.oidc_claims.proofs.Theorems.{all_kept}
use Rattle.oidc_types.specs.declared.core_algorithms.CoreJweContentEncryptionAlgorithm.{CoreJweContentEncryptionAlgorithm}
use Rattle.oidc_types.specs.declared.core_algorithms.CoreJwsSigningAlgorithm.{CoreJwsSigningAlgorithm}
use Rattle.oidc_keys.specs.CoreJwk.{SymmetricKey}
use Rattle.oidc_keys.specs.contracts.core_jwk.CoreJsonWebKeyJsonWebKey.TheImpl.{ghosts as of_keys}
use Rattle.oidc_keys.specs.contracts.core_jwk.CoreJsonWebKeyUseJsonWebKeyUse.TheImpl.{ghosts as of_uses}
use Rattle.oidc_oauth2.specs.Messages.{SeenResponse, SeenAnswer}
use Rattle.oidc_oauth2.specs.Replies.{◌>>=◌, ◌>>◌, ◌when◌, ◌or_as◌}
use Rattle.oidc_oauth2.specs.TokenAnswers.{is_over_long}
use Rattle.oidc_oauth2.specs.HttpUtils.{may_be}
use Rattle.oidc_jwt.specs.Tokens.{SeenToken}
use Rattle.oidc_jwt.proofs.Theorems.{after, same_ok, split_free, payload_said}
use Rattle.oidc_id_token_claims.specs.IdTokenClaims.{additional_among}
use Rattle.oidc_user_info.specs.UserInfoClaims.{user_info_rule, user_info_claims_of, parts_in}
use Rattle.oidc_user_info.specs.InfoAnswers.{Demand, claims_in, from_json, of_object, token_in, of_token, by_media_type, info_answer}
use Rattle.oidc_user_info.specs.InfoErrors.{InfoRefusal}
use Rattle.oidc_login.specs.Callback.{Attempt}
use Rattle.oidc_login.specs.Causes.{IsSignedIn, HasInfo}
use Rattle.oidc_login.specs.Errors.{seen_reply}
use Rattle.oidc_login.specs.declared.errors.LoginError.{LoginError}
use Rattle.oidc_login.proofs.Theorems.{signed_free, info_answered}
use Rattle.oidc_cli.specs.Types.{types, SeenSignedIn, SeenUserInfo}
use Rattle.oidc_cli.specs.Report.{HasNoFloats}

-- ---- a step that gave a value stands on one

when_ok : {A F : Type 0} (e : F) (b : Bool) (next : Result A F) (x : A) → ((e when b) >> next) ≡ Ok x → next ≡ Ok x
when_ok e true next x h = absurd cc
when_ok e false next x h = h

as_ok : {A E F : Type 0} (r : Result A E) (line : E → F) (x : A) → (r or_as line) ≡ Ok x → r ≡ Ok x
as_ok (Ok y) line x h = let same : y ≡ x = cc in ap Ok same
as_ok (Err e) line x h = absurd cc

later_ok : {A F : Type 0} (o : Result (Unit {0}) F) (next : Result A F) (x : A) → (o >> next) ≡ Ok x → next ≡ Ok x
later_ok (Ok u) next x h = h
later_ok (Err e) next x h = absurd cc

then_ok : {A B F : Type 0} (o : Result A F) (f : A → Result B F) (y : B) → (o >>= f) ≡ Ok y → (x : A) × (o ≡ Ok x) × (f x ≡ Ok y)
then_ok (Ok x) f y h = (x, refl, h)
then_ok (Err refusal) f y h = absurd cc

-- ---- some members of an object without floats

abbrev IsFree : List SeenMember → Type 0
IsFree members = list_any (λ m. has_float m.value) members ≡ false

nor_parts : (a b : Bool) → (a || b) ≡ false → (a ≡ false) × (b ≡ false)
nor_parts false b h = (refl, h)
nor_parts true b h = absurd (true≢false h)

by_kept : (m : SeenMember) (ms : List SeenMember) (b : Bool) → has_float m.value ≡ false → any_float (map out_of ms) ≡ false → any_float (map out_of (cond b (m ∷ ms) ms)) ≡ false
by_kept m ms true h k = rw (h, k) refl
by_kept m ms false h k = k

kept_free : (test : SeenMember → Bool) (ms : List SeenMember) → IsFree ms → any_float (map out_of (filter test ms)) ≡ false
kept_free test [] h = refl
kept_free test (m ∷ ms) h =
    let parts = nor_parts (has_float m.value) (list_any (λ m. has_float m.value) ms) h in by_kept m (filter test ms) (test m) parts.0 (kept_free test ms parts.1)

passing : (test : SeenMember → Bool) (m : SeenMember) (rest : List SeenMember) (b : Bool) → test m ≡ b → list_all test rest ≡ true → list_all test (cond b (m ∷ rest) rest) ≡ true
passing test m rest true is h = and_from (test m) (list_all test rest) is h
passing test m rest false is h = h

filtered : (test : SeenMember → Bool) (ms : List SeenMember) → list_all test (filter test ms) ≡ true
filtered test [] = refl
filtered test (m ∷ ms) = passing test m (filter test ms) (test m) refl (filtered test ms)

additional_stay : (ms : List SeenMember) → are_additional (additional_among user_info_fields ms) ≡ true
additional_stay ms = filtered (λ m. is_additional m.name) ms

-- ---- claims of user info

abbrev reads_claims : Reading → List SeenMember → Result SeenUserInfo Refusal
reads_claims reading = user_info_claims_of read_others text_kind reading

claims_free : (reading : Reading) (members : List SeenMember) (found : SeenUserInfo) → reads_claims reading members ≡ Ok found → IsFree members → any_float (list_of found.additional_claims) ≡ false
unfolding user_info_claims_of parts_in
claims_free reading members found h free =
    let among : List SeenMember = additional_among user_info_fields members in
    after (faultless (user_info_rule text_kind reading) members) _ found h λ _ _ judged.
    after (faultless_claims text_kind reading members) _ found judged λ _ _ standard.
    let own : others_of (map out_of among) ≡ found.additional_claims = ap (λ (f : SeenUserInfo). f.additional_claims) (same_ok _ found standard) in
    let kept = all_kept among (additional_stay members) in
    let same : others_of (map out_of among) ≡ kept.0 = same_ok (others_of (map out_of among)) kept.0 kept.1 in
    ap any_float (ap list_of (sym own ∙ same) ∙ kept.2) ∙ kept_free (λ m. is_additional_home (home_of m.name user_info_fields)) members free

-- those of an object
object_free : (reading : Reading) (body : List ℕ) (found : SeenUserInfo) → claims_in read_others text_kind reading body ≡ Ok found → any_float (list_of found.additional_claims) ≡ false
object_free reading body found h =
    let split = then_ok (split_of body) (reads_claims reading) found h in claims_free reading split.0 found split.2 (split_free body split.0 split.1)

-- those of a token
token_free : (reading : Reading) (text : List ℕ) (token : SeenToken CoreJweContentEncryptionAlgorithm CoreJwsSigningAlgorithm SeenUserInfo) → token_in types reading text ≡ Ok token
    → any_float (list_of token.payload.additional_claims) ≡ false
token_free reading text token h =
    let said = payload_said types.encryption_named types.signing_named (reads_claims reading) text token h in claims_free reading said.0 token.payload said.2 said.1

-- ---- an answer

of_object_free : (demand : Demand SymmetricKey) (body : List ℕ) (found : SeenUserInfo) → of_object read_others text_kind demand body ≡ Ok found
    → any_float (list_of found.additional_claims) ≡ false
unfolding of_object from_json
of_object_free demand body found h =
    let read = then_ok (claims_in read_others text_kind demand.reading body or_as _) _ found (when_ok _ demand.signed _ found h) in
    let same = same_ok _ found (when_ok _ _ _ found read.2) in
    ap (λ (f : SeenUserInfo). any_float (list_of f.additional_claims)) (sym same)
    ∙ object_free demand.reading body read.0 (as_ok (claims_in read_others text_kind demand.reading body) _ read.0 read.1)

of_token_free : (demand : Demand SymmetricKey) (body : List ℕ) (found : SeenUserInfo) → of_token types demand.reading demand.verifier body ≡ Ok found
    → any_float (list_of found.additional_claims) ≡ false
unfolding of_token
of_token_free demand body found h =
    let read = then_ok (token_in types demand.reading body or_as _) _ found (when_ok _ (not (is_utf8 body)) _ found h) in
    let judged : Ok read.0.payload ≡ Ok found = later_ok _ _ found read.2 in
    ap (λ (f : SeenUserInfo). any_float (list_of f.additional_claims)) (sym (same_ok read.0.payload found judged))
    ∙ token_free demand.reading body read.0 (as_ok (token_in types demand.reading body) _ read.0 read.1)

by_type : (json jwt : Bool) (demand : Demand SymmetricKey) (r : SeenResponse) (other : Result SeenUserInfo InfoRefusal) (found : SeenUserInfo)
    → ((x : SeenUserInfo) → other ≡ Ok x → ⊥)
    → cond json (of_object read_others text_kind demand r.body) (cond jwt (of_token types demand.reading demand.verifier r.body) other) ≡ Ok found
    → any_float (list_of found.additional_claims) ≡ false
by_type true jwt demand r other found none h = of_object_free demand r.body found h
by_type false true demand r other found none h = of_token_free demand r.body found h
by_type false false demand r other found none h = absurd (none found h)

info_free : (demand : Demand SymmetricKey) (r : SeenResponse) (found : SeenUserInfo) → info_answer types demand r ≡ Ok found
    → any_float (list_of found.additional_claims) ≡ false
unfolding info_answer by_media_type
info_free demand r found h =
    by_type (may_be r.content_type (codes "application/json")) (may_be r.content_type (codes "application/jwt")) demand r _ found (λ x e. absurd cc)
    (when_ok _ (not (r.status == 200)) _ found (when_ok _ (is_over_long r.body) _ found h))

-- ---- a user who is signed in

module _ (a : Attempt SymmetricKey) (answers : List SeenAnswer) where
  given_free : (signed : SeenSignedIn) (held : _) (info : Option SeenUserInfo) → HasInfo types a answers held info
      → IfSome info (λ found. any_float (list_of found.additional_claims) ≡ false)
  given_free signed held None is = tt
  given_free signed held (Some found) is = info_free is.ask.demand is.response found (info_answered types a answers held found is)

  pub no_floats : {E : Type 0} (result : Result SeenSignedIn (LoginError E)) → IfOk result (IsSignedIn types a answers) → HasNoFloats (seen_reply result)
  no_floats (Err e) is = tt
  no_floats (Ok signed) is = (signed_free text_kind of_keys of_uses a answers signed is, given_free signed is.held signed.user_info is.info)
