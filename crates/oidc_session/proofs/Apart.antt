-- No text is both an ID token with a nonce and a logout token.
use Rattle.std.proofs.Common.{◌≡◌, ℕ, Bool, true, false, cond, List, [], ◌∷◌, Option, None, Some, Result, Ok, Err, refl, sym, ap, ◌∙◌}
use Rattle.std.specs.Prelude.{is_some}
use Rattle.std.specs.Option.{ok_or, option_flatten}
use Rattle.std.specs.Result.{result_ok}
use Rattle.std.proofs.lemmas.Bool.{false≢true}
use Rattle.serde_json.specs.Find.{as_null}
use Rattle.oidc_members.specs.Seen.{SeenMember}
use Rattle.oidc_members.specs.Objects.{split_of}
use Rattle.oidc_members.specs.declared.reading.Reading.{Reading}
use Rattle.oidc_members.specs.declared.refusal.Refusal.{Refusal}
use Rattle.oidc_readers.specs.Kinds.{text_kind, any_kind, or_null, there}
use Rattle.oidc_readers.specs.Fields.{first_value, own}
use Rattle.oidc_readers.specs.Records.{◌>>=◌, faultless, optional}
use Rattle.oidc_readers.specs.declared.kinds.Present.{Present}
use Rattle.oidc_jwt.specs.Tokens.{SeenToken, Parts, three_parts, no_token, decoded, object_read, token_of}
use Rattle.oidc_jwt.specs.Header.{header_of}
use Rattle.oidc_claims.specs.Standard.{faultless_claims}
use Rattle.oidc_id_token_claims.specs.TokenFields.{SeenOwnClaims, nonce as id_nonce, own_of, needed_of as id_needed_of}
use Rattle.oidc_id_token_claims.specs.IdTokenClaims.{SeenIdTokenClaims, additional_members, parts_in, id_token_claims_of, id_token_rule}
use Rattle.oidc_login.specs.Types.{SiteTypes}
use Rattle.oidc_login.specs.Token.{SeenIdToken, id_token_of, is_sent}
use Rattle.oidc_session.specs.LogoutClaims.{SeenLogoutClaims, nonce, logout_rule, needed_of, logout_claims_of}
use Rattle.oidc_session.specs.LogoutTokens.{LogoutKeys, SeenLogoutToken, logout_token_of}
use Rattle.oidc_session.specs.Apart.{NeverBoth}
use Rattle.oidc_session.proofs.Rows.{accepted_of}

-- ---- what an Ok came from

-- the value of a step, and that the next took it
bound : {A B F : Type 0} (r : Result A F) (f : A → Result B F) (y : B) → (r >>= f) ≡ Ok y → (x : A) × (r ≡ Ok x) × (f x ≡ Ok y)
bound (Ok x) f y h = (x, refl, h)
bound (Err e) f y h = absurd cc

same_ok : {A F : Type 0} (r : Result A F) (x y : A) → r ≡ Ok x → r ≡ Ok y → x ≡ y
same_ok r x y h k = cc

module _ {JE JS P : Type 0} (encryption_named : List ℕ → Option JE) (signing_named : List ℕ → Option JS)
    (payload_read : List SeenMember → Result P Refusal) where
  -- the members that the payload of a text is read from
  record ReadFrom (text : List ℕ) (payload : P) : Type 0 where
    parts : Parts
    has_parts : three_parts text ≡ Some parts
    second : List ℕ
    decoded_as : decoded parts.payload ≡ Ok second
    members : List SeenMember
    split_as : split_of second ≡ Ok members
    read_as : payload_read members ≡ Ok payload

  parts_of : (o : Option Parts) (p : Parts) → ok_or o no_token ≡ Ok p → o ≡ Some p
  parts_of None p h = absurd cc
  parts_of (Some q) p h = cc

  read_from : (text : List ℕ) (token : SeenToken JE JS P) → token_of encryption_named signing_named payload_read text ≡ Ok token → ReadFrom text token.payload
  unfolding token_of
  read_from text token h =
      let a = bound (ok_or (three_parts text) no_token) _ token h in
      let b = bound (decoded a.0.header) _ token a.2 in
      let c = bound (decoded a.0.payload) _ token b.2 in
      let d = bound (decoded a.0.signature) _ token c.2 in
      let e = bound (object_read (header_of encryption_named signing_named) b.0) _ token d.2 in
      let f = bound (object_read payload_read c.0) _ token e.2 in
      let g = bound (split_of c.0) payload_read f.0 f.1 in
      let same : f.0 ≡ token.payload = ap (λ (t : SeenToken JE JS P). t.payload) (same_ok _ _ token refl f.2) in
      record {
        parts = a.0;
        has_parts = parts_of (three_parts text) a.0 a.1;
        second = c.0;
        decoded_as = c.1;
        members = g.0;
        split_as = g.1;
        read_as = g.2 ∙ ap Ok same;
      }

-- ---- the nonce of either

same_some : {A : Type 0} (x y : A) → Some x ≡ Some y → x ≡ y
same_some x y h = cc

module _ {AC GC : Type 0} (additional_read : List SeenMember → Result AC Refusal) (gender_read : SeenMember → Result GC Refusal) (reading : Reading) where
  own_nonce : (members : List SeenMember) (own : SeenOwnClaims) → own_of reading members ≡ Ok own → own.nonce ≡ optional id_nonce members
  unfolding own_of
  own_nonce members own h =
      let a = bound (id_needed_of reading members) _ own h in
      sym (ap (λ (o : SeenOwnClaims). o.nonce) (same_ok _ _ own refl a.2))

  parts_nonce : (members : List SeenMember) (claims : SeenIdTokenClaims AC GC) → parts_in additional_read gender_read reading members ≡ Ok claims → claims.own.nonce ≡ optional id_nonce members
  unfolding parts_in
  parts_nonce members claims h =
      let a = bound (own_of reading members) _ claims h in
      let b = bound (faultless_claims gender_read reading members) _ claims a.2 in
      let c = bound (additional_read (additional_members members)) _ claims b.2 in
      sym (ap (λ (o : SeenIdTokenClaims AC GC). o.own.nonce) (same_ok _ _ claims refl c.2)) ∙ own_nonce members a.0 a.1

  pub id_token_nonce : (members : List SeenMember) (claims : SeenIdTokenClaims AC GC) → id_token_claims_of additional_read gender_read reading members ≡ Ok claims → claims.own.nonce ≡ optional id_nonce members
  unfolding id_token_claims_of
  id_token_nonce members claims h =
      let a = bound (faultless (id_token_rule gender_read reading) members) _ claims h in
      parts_nonce members claims a.2

logout_nonce : (members : List SeenMember) (claims : SeenLogoutClaims) → logout_claims_of members ≡ Ok claims → claims.has_nonce ≡ is_some (optional nonce members)
unfolding logout_claims_of
logout_nonce members claims h =
    let a = bound (faultless logout_rule members) _ claims h in
    let b = bound (needed_of members) _ claims a.2 in
    sym (ap (λ (c : SeenLogoutClaims). c.has_nonce) (same_ok _ _ claims refl b.2))

-- a member that isn't null and reads as a text is there for any kind
at_member : (b : Bool) (m : SeenMember) (n : List ℕ)
    → option_flatten (result_ok (cond b (Ok None) (there (text_kind m)))) ≡ Some n
    → is_some (option_flatten (result_ok (cond b (Ok None) (there (any_kind {V = Present} (record {}) m))))) ≡ true
at_member true m n h = absurd cc
at_member false m n h = refl

at_members : (ms : List SeenMember) (n : List ℕ) → option_flatten (first_value (or_null text_kind) ms) ≡ Some n
    → is_some (option_flatten (first_value (or_null (any_kind {V = Present} (record {}))) ms)) ≡ true
at_members [] n h = absurd cc
at_members (m ∷ ms) n h = at_member (is_some (as_null m.value)) m n h

nonce_seen : (members : List SeenMember) (n : List ℕ) → optional id_nonce members ≡ Some n → is_some (optional nonce members) ≡ true
nonce_seen members n h = at_members (own id_nonce members) n h

-- a nonce that was sent is there
sent_there : (sent : List ℕ) (found : Option (List ℕ)) → is_sent sent found ≡ true → (n : List ℕ) × (found ≡ Some n)
sent_there sent None h = absurd (false≢true h)
sent_there sent (Some n) h = (n, refl)

-- ---- one text

module _ {AC GC Key Use OtherKey Algorithm : Type 0} (types : SiteTypes AC GC Key Use) (keys : LogoutKeys OtherKey Algorithm) where
  both : (reading : Reading) (text : List ℕ) (token : SeenIdToken AC GC) (logout : SeenLogoutToken Algorithm)
      → id_token_of types reading text ≡ Ok token → logout_token_of keys.words text ≡ Ok logout
      → (n : List ℕ) → token.payload.own.nonce ≡ Some n → logout.payload.has_nonce ≡ true
  both reading text token logout read other n has =
      let a = read_from _ _ _ text token read in
      let b = read_from _ _ _ text logout other in
      let parts : a.parts ≡ b.parts = same_some a.parts b.parts (sym a.has_parts ∙ b.has_parts) in
      let second : a.second ≡ b.second = same_ok (decoded a.parts.payload) a.second b.second a.decoded_as (ap (λ (p : Parts). decoded p.payload) parts ∙ b.decoded_as) in
      let members : a.members ≡ b.members = same_ok (split_of a.second) a.members b.members a.split_as (ap split_of second ∙ b.split_as) in
      let id_side : optional id_nonce a.members ≡ Some n = sym (id_token_nonce types.additional types.gender reading a.members token.payload a.read_as) ∙ has in
      logout_nonce b.members logout.payload b.read_as ∙ nonce_seen b.members n (ap (optional id_nonce) (sym members) ∙ id_side)

  pub never_both : NeverBoth types keys
  never_both client reading sent now token v token_ids later logout text read accepted other =
      let a = accepted_of keys v token_ids later text logout other in
      let n = sent_there sent token.payload.own.nonce accepted.nonce in
      false≢true (sym a.no_nonce ∙ both reading text token a.token read a.read n.0 n.1)
