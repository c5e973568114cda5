-- What stands in a body that was written is read back from it.
use Rattle.std.proofs.Common.{◌≡◌, ℕ, List, [], ◌∷◌, map, Option, None, Some, Result, Ok, All, false, refl, ap, ◌∙◌, length, arith}
use Rattle.std.proofs.lemmas.Bool.{ne_eqb}
use Rattle.std.specs.Prelude.{codes, option_map, IsUtf8}
use Rattle.std.proofs.lemmas.List.Elements.{All-cons, All-nil}
use Rattle.serde_json.specs.Data.{string}
use Rattle.oidc_members.specs.Seen.{SeenMember, OutSeen}
use Rattle.oidc_members.specs.Objects.{members_of, loose_members_of, members_or_refusal, split_of, trimmed, is_braced}
use Rattle.oidc_members.specs.Write.{any_float, object_text}
use Rattle.oidc_members.specs.declared.reading.Reading.{Reading}
use Rattle.oidc_members.specs.declared.refusal.Refusal.{Refusal}
use Rattle.oidc_readers.specs.WrittenBack.{MayBeWritten, as_read}
use Rattle.oidc_readers.proofs.Theorems.{written_split_back, standing_free}
use Rattle.oidc_readers.specs.Fields.{judged}
use Rattle.oidc_id_token_claims.proofs.Theorems.{text_stands}
use Rattle.oidc_oauth2.specs.Replies.{◌>>=◌}
use Rattle.oidc_oauth2.specs.TokenAnswers.{is_empty, record_in}
use Rattle.oidc_oauth2.specs.TokenResponse.{tokens_among}
use Rattle.oidc_oauth2.specs.Words.{token_type_of}
use Rattle.oidc_tokens.specs.IdTokenFields.{response_fields_of}
use Rattle.oidc_user_info.specs.UserInfoClaims.{SeenUserInfoClaims, user_info_claims_of}
use Rattle.oidc_user_info.specs.InfoAnswers.{claims_in}
use Rattle.oidc_user_info.specs.RoundTrip.{IsInfoInRange, GivesInfoClaims}
use Rattle.oidc_login.specs.Types.{SiteTypes}
use Rattle.oidc_login.specs.Token.{SeenIdToken, Tokens, id_token_of, tokens_read}
use Rattle.oidc_provider.proofs.AsciiNames.{ascii}
use Rattle.oidc_provider.specs.Issuing.{tokens, token_body}

-- ---- a body that is the text of some members

same_Some : {A : Type 0} (x y : A) → ◌≡◌ {A = Option A} (Some x) (Some y) → x ≡ y
same_Some x y e = cc

module _ {A : Type 0} (read : List SeenMember → Result A Refusal) (value : A) where
  by_members : (found loose : Option (List SeenMember)) → option_map read found ≡ Some (Ok value) → (members_or_refusal found loose >>= read) ≡ Ok value
  by_members None loose is = absurd cc
  by_members (Some members) loose is = same_Some (read members) (Ok value) is

  pub read_again : (members : List OutSeen) (body : List ℕ) → option_map read (members_of (object_text members)) ≡ Some (Ok value)
      → body ≡ object_text members → record_in read body ≡ Ok value
  unfolding split_of
  read_again members body back is =
      ap (λ (text : List ℕ). record_in read text) is ∙ by_members (members_of (object_text members)) (loose_members_of (object_text members)) back

  -- a body without bytes holds nothing
  pub some_body : (body : List ℕ) → record_in read body ≡ Ok value → is_empty body ≡ false
  unfolding split_of members_of loose_members_of trimmed is_braced
  some_body [] is = absurd cc
  some_body (b ∷ body) is = ne_eqb (length (b ∷ body)) 0 (λ e. omega arith)

-- ---- user info

module _ {AC GC : Type 0} (additional : List SeenMember → Result AC Refusal) (gender : SeenMember → Result GC Refusal) (additional_out : AC → List OutSeen)
    (claims : SeenUserInfoClaims AC GC) (members : List OutSeen) (body : List ℕ) where
  pub info_again : (any_float (additional_out claims.additional_claims) ≡ false → any_float members ≡ false) → (any_float members ≡ false → body ≡ object_text members)
      → (IsInfoInRange additional_out claims → GivesInfoClaims additional gender members claims)
      → (reading : Reading) → IsInfoInRange additional_out claims → claims_in additional gender reading body ≡ Ok claims
  info_again free written back reading range =
      read_again (user_info_claims_of additional gender reading) claims members body (back range reading)
      (written (free (standing_free (additional_out claims.additional_claims) range.values)))

-- ---- the token body

access_name : IsUtf8 (codes "access_token")
access_name = ascii (codes "access_token") refl

type_name : IsUtf8 (codes "token_type")
type_name = ascii (codes "token_type") refl

type_text : IsUtf8 (codes "bearer")
type_text = ascii (codes "bearer") refl

token_name : IsUtf8 (codes "id_token")
token_name = ascii (codes "id_token") refl

-- a member whose value is a text
text_member : (name text : List ℕ) → IsUtf8 name → IsUtf8 text → MayBeWritten (record { name = name; value = string text })
text_member name text n t = record { texts = (n, t); value = text_stands text }

module _ {AC GC Key Use : Type 0} (types : SiteTypes AC GC Key Use) (reading : Reading) (token : List ℕ) (id_token : SeenIdToken AC GC) where
  abbrev own : Tokens AC GC
  own = tokens token id_token

  abbrev access : OutSeen
  access = record { name = codes "access_token"; value = string token }

  abbrev kind : OutSeen
  kind = record { name = codes "token_type"; value = string (codes "bearer") }

  abbrev issued : OutSeen
  issued = record { name = codes "id_token"; value = string id_token.text }

  -- the members of the body
  abbrev written : List OutSeen
  written = access ∷ kind ∷ issued ∷ []

  written_is : token_body token id_token ≡ object_text written
  unfolding token_body
  written_is = refl

  may_be_written : IsUtf8 token → IsUtf8 id_token.text → All MayBeWritten written
  may_be_written t i =
      All-cons MayBeWritten access (kind ∷ issued ∷ []) (text_member (codes "access_token") token access_name t)
      (All-cons MayBeWritten kind (issued ∷ []) (text_member (codes "token_type") (codes "bearer") type_name type_text)
      (All-cons MayBeWritten issued [] (text_member (codes "id_token") id_token.text token_name i) (All-nil MayBeWritten)))

  module _ (back : id_token_of types reading id_token.text ≡ Ok id_token) where
    members_read : tokens_read types reading (map as_read written) ≡ Ok own
    unfolding tokens_among response_fields_of judged token_type_of
    members_read = rw back refl

    pub tokens_again : (body : List ℕ) → body ≡ token_body token id_token → IsUtf8 token → IsUtf8 id_token.text → record_in (tokens_read types reading) body ≡ Ok own
    tokens_again body is t i =
        read_again (tokens_read types reading) own written body
        (ap (option_map (tokens_read types reading)) (written_split_back written (may_be_written t i)) ∙ ap Some members_read)
        (is ∙ written_is)
