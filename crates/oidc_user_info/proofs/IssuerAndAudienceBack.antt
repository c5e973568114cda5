-- The fields of user info that are no claims: their rule over all members, and that they are read back.
use Rattle.std.proofs.Common.{◌≡◌, ℕ, List, [], map, true, false, Option, None, Some, codes, refl, sym, ap, ◌∙◌, filter, All}
use Rattle.std.specs.Prelude.{Ok}
use Rattle.std.specs.List.{list_all}
use Rattle.std.specs.Option.{ok_or, option_flatten}
use Rattle.std.specs.Result.{result_ok}
use Rattle.std.proofs.lemmas.List.Elements.{All-nil, All-cons, All-append}
use Rattle.url.specs.Parser.{parse_url}
use Rattle.serde_json.specs.Data.{Data, string}
use Rattle.oidc_types.specs.{TextAndUrl}
use Rattle.oidc_members.specs.Seen.{SeenMember, OutSeen}
use Rattle.oidc_members.specs.declared.refusal.ParseKind.TheVariants.{WrongType}
use Rattle.oidc_readers.specs.Kinds.{of_member, url_parsed, url_kind, text_or_texts_kind, there, or_null}
use Rattle.oidc_readers.specs.Fields.{judged, first_value}
use Rattle.oidc_readers.specs.Passes.{first_by}
use Rattle.oidc_readers.specs.Records.{optional}
use Rattle.oidc_readers.specs.WrittenBack.{MayStand, as_read}
use Rattle.oidc_readers.specs.Writing.{one_member, texts_data}
use Rattle.oidc_claims.specs.Home.{user_info_fields}
use Rattle.oidc_id_token_claims.specs.Homes.{is_field}
use Rattle.oidc_id_token_claims.proofs.Theorems.{is_field_name, field_same, judged_outside, judged_narrowed, texts_back, texts_stand, text_stands}
use Rattle.oidc_user_info.specs.UserInfoClaims.{iss, aud, issuer_and_audience_rule, issuer_and_audience_members}

abbrev fields : List (List ℕ)
fields = user_info_fields

-- ---- other members change nothing

pub issuer_same : (ms : List SeenMember) → optional iss ms ≡ optional iss (filter (is_field fields) ms)
issuer_same ms = ap (λ l. option_flatten (first_value (or_null url_kind) l)) (sym (field_same fields ms (codes "iss") refl))

pub audiences_same : (ms : List SeenMember) → optional aud ms ≡ optional aud (filter (is_field fields) ms)
audiences_same ms = ap (λ l. option_flatten (first_value (or_null text_or_texts_kind) l)) (sym (field_same fields ms (codes "aud") refl))

pub rule_outside : (before : List SeenMember) (m : SeenMember) → is_field fields m ≡ false → issuer_and_audience_rule before m ≡ None
rule_outside before m h = rw (
  judged_outside fields (codes "iss") (or_null url_kind) before m refl h,
  judged_outside fields (codes "aud") (or_null text_or_texts_kind) before m refl h,
) refl

pub rule_narrowed : (before : List SeenMember) (m : SeenMember) → issuer_and_audience_rule before m ≡ issuer_and_audience_rule (filter (is_field fields) before) m
rule_narrowed before m = rw (
  judged_narrowed fields (codes "iss") (or_null url_kind) before m refl,
  judged_narrowed fields (codes "aud") (or_null text_or_texts_kind) before m refl,
) refl

-- ---- what is written reads back

abbrev read_at : List ℕ → Data → SeenMember
read_at name value = as_read (record { name = name; value = value })

abbrev pub IsOfText : Option TextAndUrl → Type 0
IsOfText issuer = (found : TextAndUrl) → issuer ≡ Some found → parse_url None found.text ≡ Ok found.url

issuer_read : (i : TextAndUrl) → parse_url None i.text ≡ Ok i.url → url_kind (read_at (codes "iss") (string i.text)) ≡ Ok i
issuer_read i url = ap (url_parsed (read_at (codes "iss") (string i.text)) i.text) url

pub issuer_back : (issuer : Option TextAndUrl) (audiences : Option (List (List ℕ))) → IsOfText issuer → optional iss (map as_read (issuer_and_audience_members issuer audiences)) ≡ issuer
issuer_back None None url = refl
issuer_back None (Some texts) url = refl
issuer_back (Some i) None url = ap (λ r. option_flatten (result_ok (there r))) (issuer_read i (url i refl))
issuer_back (Some i) (Some texts) url = ap (λ r. option_flatten (result_ok (there r))) (issuer_read i (url i refl))

audiences_read : (texts : List (List ℕ)) → text_or_texts_kind (read_at (codes "aud") (texts_data texts)) ≡ Ok texts
audiences_read texts = ap (λ o. ok_or o (of_member WrongType (read_at (codes "aud") (texts_data texts)))) (texts_back texts)

pub audiences_back : (issuer : Option TextAndUrl) (audiences : Option (List (List ℕ))) → optional aud (map as_read (issuer_and_audience_members issuer audiences)) ≡ audiences
audiences_back None None = refl
audiences_back None (Some texts) = ap (λ r. option_flatten (result_ok (there r))) (audiences_read texts)
audiences_back (Some i) None = refl
audiences_back (Some i) (Some texts) = ap (λ r. option_flatten (result_ok (there r))) (audiences_read texts)

pub own_clean : (issuer : Option TextAndUrl) (audiences : Option (List (List ℕ))) → IsOfText issuer → first_by issuer_and_audience_rule [] (map as_read (issuer_and_audience_members issuer audiences)) ≡ None
unfolding judged
own_clean None None url = refl
own_clean None (Some texts) url = rw (audiences_read texts) refl
own_clean (Some i) None url = rw (issuer_read i (url i refl)) refl
own_clean (Some i) (Some texts) url = rw (issuer_read i (url i refl), audiences_read texts) refl

pub fields_named : (issuer : Option TextAndUrl) (audiences : Option (List (List ℕ))) → list_all (λ m. is_field_name fields m.name) (issuer_and_audience_members issuer audiences) ≡ true
fields_named None None = refl
fields_named None (Some texts) = refl
fields_named (Some i) None = refl
fields_named (Some i) (Some texts) = refl

abbrev Stand : List OutSeen → Type 0
Stand ms = All (λ (m : OutSeen). MayStand m.value) ms

stand_one : (name : List ℕ) (value : Data) → MayStand value → Stand (one_member name value)
stand_one name value h = All-cons (λ (m : OutSeen). MayStand m.value) _ [] h (All-nil (λ (m : OutSeen). MayStand m.value))

pub own_stand : (issuer : Option TextAndUrl) (audiences : Option (List (List ℕ))) → Stand (issuer_and_audience_members issuer audiences)
own_stand None None = All-nil (λ (m : OutSeen). MayStand m.value)
own_stand None (Some texts) = stand_one (codes "aud") (texts_data texts) (texts_stand texts)
own_stand (Some i) None = stand_one (codes "iss") (string i.text) (text_stands i.text)
own_stand (Some i) (Some texts) =
    All-append (λ (m : OutSeen). MayStand m.value) (one_member (codes "iss") (string i.text)) (one_member (codes "aud") (texts_data texts))
    (stand_one (codes "iss") (string i.text) (text_stands i.text)) (stand_one (codes "aud") (texts_data texts) (texts_stand texts))
