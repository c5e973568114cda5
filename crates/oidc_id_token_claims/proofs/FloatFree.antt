-- An ID token's own fields hold no float.
use Rattle.std.proofs.Common.{◌≡◌, ℕ, ℤ, pos, negsuc, List, [], ◌∷◌, ◌++◌, map, false, Option, None, Some, option_map, refl, ap, ◌∙◌}
use Rattle.serde_json.specs.Data.{Data, string}
use Rattle.serde_json.specs.Find.{of_integer, is_float}
use Rattle.serde_json.specs.View.{items_of}
use Rattle.serde_json.specs.Written.{has_float, items_have_float}
use Rattle.oidc_members.specs.Seen.{OutSeen}
use Rattle.oidc_members.specs.Write.{any_float}
use Rattle.oidc_readers.specs.Moments.{seconds_of, seconds_data}
use Rattle.oidc_claims.specs.Gender.{GenderIsValue}
use Rattle.oidc_claims.specs.Write.{written}
use Rattle.oidc_claims.proofs.Theorems.{written_free}
use Rattle.oidc_jwt.proofs.Theorems.{free_append}
use Rattle.oidc_readers.specs.Writing.{texts_data}
use Rattle.oidc_id_token_claims.specs.TokenFields.{SeenOwnClaims, own_members}
use Rattle.oidc_id_token_claims.specs.IdTokenClaims.{SeenIdTokenClaims, id_token_members}
use Rattle.oidc_id_token_claims.proofs.Entries.{Entry, out_at, outs, Holds, EachHolds}
use Rattle.oidc_id_token_claims.proofs.FieldsBack.{entries, written_as}

integer_free : (z : ℤ) → is_float (of_integer z) ≡ false
integer_free (pos n) = refl
integer_free (negsuc n) = refl

texts_free : (texts : List (List ℕ)) → items_have_float (items_of (map string texts)) ≡ false
texts_free [] = refl
texts_free (text ∷ texts) = texts_free texts

abbrev IsFree : Data → Type 0
IsFree value = has_float value ≡ false

out_free : (name : List ℕ) (o : Option Data) → Holds IsFree o → any_float (out_at name o) ≡ false
out_free name None h = refl
out_free name (Some value) h = rw h refl

outs_free : (es : List Entry) → EachHolds IsFree es → any_float (outs es) ≡ false
outs_free [] h = refl
outs_free (e ∷ es) h = free_append (out_at e.0 e.1) (outs es) (out_free e.0 e.1 h.0) (outs_free es h.1)

text_free : (o : Option (List ℕ)) → Holds IsFree (option_map string o)
text_free None = tt
text_free (Some text) = refl

moment_free : (o : Option ℤ) → Holds IsFree (option_map seconds_data o)
moment_free None = tt
moment_free (Some moment) = integer_free (seconds_of moment)

list_free : (o : Option (List (List ℕ))) → Holds IsFree (option_map texts_data o)
list_free None = tt
list_free (Some texts) = texts_free texts

each_free : (c : SeenOwnClaims) → EachHolds IsFree (entries c)
each_free c = (
  refl,
  (
    texts_free c.audiences,
    (
      integer_free (seconds_of c.expiration),
      (
        integer_free (seconds_of c.issue_time),
        (
          moment_free c.auth_time,
          (text_free c.nonce, (text_free c.auth_context_ref, (list_free c.auth_method_refs, (text_free c.authorized_party, (text_free c.access_token_hash, (text_free c.code_hash, tt)))))),
        ),
      ),
    ),
  ),
)

pub own_free : (c : SeenOwnClaims) → any_float (own_members c) ≡ false
own_free c = ap any_float (written_as c) ∙ outs_free (entries c) (each_free c)

-- all claims, where the additional ones hold none
pub members_free : {AC GC : Type 0} (additional_out : AC → List OutSeen) (gender_data : GC → Data) → GenderIsValue gender_data → (c : SeenIdTokenClaims AC GC)
    → any_float (additional_out c.additional_claims) ≡ false → any_float (id_token_members additional_out gender_data c) ≡ false
members_free additional_out gender_data there c h =
    free_append (own_members c.own ++ written gender_data c.standard_claims) (additional_out c.additional_claims)
    (free_append (own_members c.own) (written gender_data c.standard_claims) (own_free c.own) (written_free gender_data there c.standard_claims)) h
