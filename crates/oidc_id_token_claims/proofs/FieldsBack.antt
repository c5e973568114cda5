-- An ID token's own fields that were written are read back.
use Rattle.std.proofs.Common.{◌≡◌, ℕ, ℤ, pos, negsuc, List, [], ◌∷◌, ◌++◌, map, Option, None, Some, option_map, Result, Ok, codes, refl, ap, ◌∙◌, append-nil, append_assoc, take, drop}
use Rattle.std.specs.Option.{ok_or, option_flatten}
use Rattle.std.specs.Result.{result_ok}
use Rattle.std.specs.Prelude.{option_and_then, unwrap_or}
use Rattle.url.specs.Parser.{parse_url}
use Rattle.serde_json.specs.Data.{Data, string}
use Rattle.serde_json.specs.Find.{as_number, as_integer, of_integer}
use Rattle.serde_json.specs.View.{items_of}
use Rattle.oidc_members.specs.Seen.{SeenMember, OutSeen}
use Rattle.oidc_members.specs.declared.reading.Reading.{Reading}
use Rattle.oidc_members.specs.declared.refusal.Refusal.{Refusal}
use Rattle.oidc_members.specs.declared.refusal.ParseKind.TheVariants.{Moment, WrongType}
use Rattle.oidc_types.specs.{TextAndUrl}
use Rattle.oidc_readers.specs.Kinds.{of_member, url_parsed, url_kind, seconds_read, moment_read, moment_kind, text_kind, texts_in, texts_kind, text_or_texts_kind, there, or_null}
use Rattle.oidc_readers.specs.Fields.{Field, own, value_in, judged, first_value}
use Rattle.oidc_readers.specs.Records.{◌>>=◌, missing, required, optional}
use Rattle.oidc_readers.specs.Moments.{seconds_of, seconds_data}
use Rattle.oidc_readers.specs.Passes.{first_by}
use Rattle.oidc_readers.specs.WrittenBack.{as_read}
use Rattle.oidc_readers.specs.Writing.{one_member, text_member, moment_member}
use Rattle.oidc_claims.specs.Write.{IsWholeSecond}
use Rattle.oidc_claims.proofs.Theorems.{whole_second}
use Rattle.oidc_readers.specs.Writing.{texts_data, texts_member}
use Rattle.oidc_id_token_claims.specs.TokenFields.{SeenOwnClaims, Needed, iss, aud, exp, iat, auth_time, nonce, acr, amr, azp, at_hash, c_hash, own_rule, needed_of, own_of, own_members}
use Rattle.oidc_id_token_claims.proofs.Entries.{Entry, out_at, outs, seen, with_name, alone_named}
use Rattle.oidc_id_token_claims.proofs.FieldsRule.{Good, AllGood, clean}

-- ---- the fields as entries

abbrev pub entries : SeenOwnClaims → List Entry
entries c =
    (codes "iss", Some (string c.issuer.text))
    ∷ (codes "aud", Some (texts_data c.audiences))
    ∷ (codes "exp", Some (seconds_data c.expiration))
    ∷ (codes "iat", Some (seconds_data c.issue_time))
    ∷ (codes "auth_time", option_map seconds_data c.auth_time)
    ∷ (codes "nonce", option_map string c.nonce)
    ∷ (codes "acr", option_map string c.auth_context_ref)
    ∷ (codes "amr", option_map texts_data c.auth_method_refs)
    ∷ (codes "azp", option_map string c.authorized_party)
    ∷ (codes "at_hash", option_map string c.access_token_hash)
    ∷ (codes "c_hash", option_map string c.code_hash)
    ∷ []

text_out : (name : List ℕ) (o : Option (List ℕ)) → text_member name o ≡ out_at name (option_map string o)
text_out name None = refl
text_out name (Some text) = refl

moment_out : (name : List ℕ) (o : Option ℤ) → moment_member name o ≡ out_at name (option_map seconds_data o)
moment_out name None = refl
moment_out name (Some moment) = refl

texts_out : (name : List ℕ) (o : Option (List (List ℕ))) → texts_member name o ≡ out_at name (option_map texts_data o)
texts_out name None = refl
texts_out name (Some texts) = refl

seven : (a b c d e f g : List OutSeen) → ((((((a ++ b) ++ c) ++ d) ++ e) ++ f) ++ g) ≡ a ++ (b ++ (c ++ (d ++ (e ++ (f ++ (g ++ []))))))
seven a b c d e f g = simp (append_assoc, append-nil)

-- the fields that may be absent
optional_as : (c : SeenOwnClaims) → ((((((moment_member (codes "auth_time") c.auth_time ++ text_member (codes "nonce") c.nonce) ++ text_member (codes "acr") c.auth_context_ref)
    ++ texts_member (codes "amr") c.auth_method_refs) ++ text_member (codes "azp") c.authorized_party) ++ text_member (codes "at_hash") c.access_token_hash) ++ text_member (codes "c_hash") c.code_hash)
    ≡ outs (drop 4 (entries c))
optional_as c =
    (λ i. ((((((moment_out (codes "auth_time") c.auth_time i ++ text_out (codes "nonce") c.nonce i) ++ text_out (codes "acr") c.auth_context_ref i)
    ++ texts_out (codes "amr") c.auth_method_refs i) ++ text_out (codes "azp") c.authorized_party i) ++ text_out (codes "at_hash") c.access_token_hash i) ++ text_out (codes "c_hash") c.code_hash i))
    ∙ seven (out_at (codes "auth_time") (option_map seconds_data c.auth_time)) (out_at (codes "nonce") (option_map string c.nonce)) (out_at (codes "acr") (option_map string c.auth_context_ref))
    (out_at (codes "amr") (option_map texts_data c.auth_method_refs)) (out_at (codes "azp") (option_map string c.authorized_party)) (out_at (codes "at_hash") (option_map string c.access_token_hash))
    (out_at (codes "c_hash") (option_map string c.code_hash))

pub written_as : (c : SeenOwnClaims) → own_members c ≡ outs (entries c)
written_as c =
    ap (λ l. one_member (codes "iss") (string c.issuer.text) ++ (one_member (codes "aud") (texts_data c.audiences)
    ++ (one_member (codes "exp") (seconds_data c.expiration) ++ (one_member (codes "iat") (seconds_data c.issue_time) ++ l)))) (optional_as c)

-- ---- values that read back

integer_back : (z : ℤ) → as_integer (of_integer z) ≡ Some z
integer_back (pos n) = refl
integer_back (negsuc n) = refl

moment_back : (reading : Reading) (m : SeenMember) (nanosecond : ℤ) → m.value ≡ seconds_data nanosecond → IsWholeSecond (Some nanosecond) → moment_kind reading m ≡ Ok nanosecond
moment_back reading m nanosecond is h =
    ap (moment_read reading m) is
    ∙ ap (seconds_read m) (integer_back (seconds_of nanosecond))
    ∙ ap (λ o. ok_or o (of_member Moment m)) (whole_second nanosecond h.0 h.1)

pub texts_back : (texts : List (List ℕ)) → texts_in (items_of (map string texts)) ≡ Some texts
texts_back [] = refl
texts_back (text ∷ texts) = ap (option_map (λ later. text ∷ later)) (texts_back texts)

module _ (c : SeenOwnClaims) where
  -- the members of one field
  iss_alone : with_name (codes "iss") (seen (entries c)) ≡ map as_read (one_member (codes "iss") (string c.issuer.text))
  iss_alone = alone_named (codes "iss") (Some (string c.issuer.text)) [] (drop 1 (entries c)) refl refl refl

  aud_alone : with_name (codes "aud") (seen (entries c)) ≡ map as_read (one_member (codes "aud") (texts_data c.audiences))
  aud_alone = alone_named (codes "aud") (Some (texts_data c.audiences)) (take 1 (entries c)) (drop 2 (entries c)) refl refl refl

  exp_alone : with_name (codes "exp") (seen (entries c)) ≡ map as_read (one_member (codes "exp") (seconds_data c.expiration))
  exp_alone = alone_named (codes "exp") (Some (seconds_data c.expiration)) (take 2 (entries c)) (drop 3 (entries c)) refl refl refl

  iat_alone : with_name (codes "iat") (seen (entries c)) ≡ map as_read (one_member (codes "iat") (seconds_data c.issue_time))
  iat_alone = alone_named (codes "iat") (Some (seconds_data c.issue_time)) (take 3 (entries c)) (drop 4 (entries c)) refl refl refl

  auth_time_alone : with_name (codes "auth_time") (seen (entries c)) ≡ map as_read (out_at (codes "auth_time") (option_map seconds_data c.auth_time))
  auth_time_alone = alone_named (codes "auth_time") _ (take 4 (entries c)) (drop 5 (entries c)) refl refl refl

  nonce_alone : with_name (codes "nonce") (seen (entries c)) ≡ map as_read (out_at (codes "nonce") (option_map string c.nonce))
  nonce_alone = alone_named (codes "nonce") _ (take 5 (entries c)) (drop 6 (entries c)) refl refl refl

  acr_alone : with_name (codes "acr") (seen (entries c)) ≡ map as_read (out_at (codes "acr") (option_map string c.auth_context_ref))
  acr_alone = alone_named (codes "acr") _ (take 6 (entries c)) (drop 7 (entries c)) refl refl refl

  amr_alone : with_name (codes "amr") (seen (entries c)) ≡ map as_read (out_at (codes "amr") (option_map texts_data c.auth_method_refs))
  amr_alone = alone_named (codes "amr") _ (take 7 (entries c)) (drop 8 (entries c)) refl refl refl

  azp_alone : with_name (codes "azp") (seen (entries c)) ≡ map as_read (out_at (codes "azp") (option_map string c.authorized_party))
  azp_alone = alone_named (codes "azp") _ (take 8 (entries c)) (drop 9 (entries c)) refl refl refl

  at_hash_alone : with_name (codes "at_hash") (seen (entries c)) ≡ map as_read (out_at (codes "at_hash") (option_map string c.access_token_hash))
  at_hash_alone = alone_named (codes "at_hash") _ (take 9 (entries c)) (drop 10 (entries c)) refl refl refl

  c_hash_alone : with_name (codes "c_hash") (seen (entries c)) ≡ map as_read (out_at (codes "c_hash") (option_map string c.code_hash))
  c_hash_alone = alone_named (codes "c_hash") _ (take 10 (entries c)) [] refl refl refl

-- what the members of an optional field hold
optional_text : (name : List ℕ) (o : Option (List ℕ)) → option_flatten (first_value (or_null text_kind) (map as_read (out_at name (option_map string o)))) ≡ o
optional_text name None = refl
optional_text name (Some text) = refl

optional_texts : (name : List ℕ) (o : Option (List (List ℕ))) → option_flatten (first_value (or_null texts_kind) (map as_read (out_at name (option_map texts_data o)))) ≡ o
optional_texts name None = refl
optional_texts name (Some texts) =
    ap (λ o. option_flatten (result_ok (there (ok_or o (of_member WrongType (as_read (record { name = name; value = texts_data texts }))))))) (texts_back texts)

optional_moment : (reading : Reading) (name : List ℕ) (o : Option ℤ) → IsWholeSecond o → option_flatten (first_value (or_null (moment_kind reading)) (map as_read (out_at name (option_map seconds_data o)))) ≡ o
optional_moment reading name None h = refl
optional_moment reading name (Some moment) h =
    ap (λ r. option_flatten (result_ok (there r))) (moment_back reading (as_read (record { name = name; value = seconds_data moment })) moment refl h)

-- ---- the fields of all members

abbrev needed_answer : TextAndUrl → ℤ → ℤ → Result Needed Refusal
needed_answer issuer expiration issue_time = Ok (record { issuer = issuer; expiration = expiration; issue_time = issue_time })

three_steps : (a : Result TextAndUrl Refusal) (b d : Result ℤ Refusal) (issuer : TextAndUrl) (expiration issue_time : ℤ) → a ≡ Ok issuer → b ≡ Ok expiration → d ≡ Ok issue_time
    → (a >>= λ issuer. b >>= λ expiration. d >>= λ issue_time. Ok (record { issuer = issuer; expiration = expiration; issue_time = issue_time }))
    ≡ needed_answer issuer expiration issue_time
three_steps a b d issuer expiration issue_time p q r = rw (p, q, r) refl

module _
    (reading : Reading)
    (c : SeenOwnClaims)
    (url : parse_url None c.issuer.text ≡ Ok c.issuer.url)
    (expiration : IsWholeSecond (Some c.expiration))
    (issue_time : IsWholeSecond (Some c.issue_time))
    (authenticated : IsWholeSecond c.auth_time) where
  abbrev read_at : List ℕ → Data → SeenMember
  read_at name value = as_read (record { name = name; value = value })

  url_back : url_kind (read_at (codes "iss") (string c.issuer.text)) ≡ Ok c.issuer
  url_back = ap (url_parsed (read_at (codes "iss") (string c.issuer.text)) c.issuer.text) url

  exp_back : moment_kind reading (read_at (codes "exp") (seconds_data c.expiration)) ≡ Ok c.expiration
  exp_back = moment_back reading (read_at (codes "exp") (seconds_data c.expiration)) c.expiration refl expiration

  iat_back : moment_kind reading (read_at (codes "iat") (seconds_data c.issue_time)) ≡ Ok c.issue_time
  iat_back = moment_back reading (read_at (codes "iat") (seconds_data c.issue_time)) c.issue_time refl issue_time

  iss_there : required iss (seen (entries c)) ≡ Ok c.issuer
  iss_there = ap (λ ms. ok_or (first_value url_kind ms) (missing (codes "iss"))) (iss_alone c) ∙ ap (λ r. ok_or (result_ok r) (missing (codes "iss"))) url_back

  exp_there : required (exp reading) (seen (entries c)) ≡ Ok c.expiration
  exp_there = ap (λ ms. ok_or (first_value (moment_kind reading) ms) (missing (codes "exp"))) (exp_alone c) ∙ ap (λ r. ok_or (result_ok r) (missing (codes "exp"))) exp_back

  iat_there : required (iat reading) (seen (entries c)) ≡ Ok c.issue_time
  iat_there = ap (λ ms. ok_or (first_value (moment_kind reading) ms) (missing (codes "iat"))) (iat_alone c) ∙ ap (λ r. ok_or (result_ok r) (missing (codes "iat"))) iat_back

  pub needed_back : needed_of reading (seen (entries c)) ≡ Ok (record { issuer = c.issuer; expiration = c.expiration; issue_time = c.issue_time })
  unfolding needed_of
  needed_back = three_steps (required iss (seen (entries c))) (required (exp reading) (seen (entries c))) (required (iat reading) (seen (entries c))) c.issuer c.expiration c.issue_time iss_there exp_there iat_there

  aud_there : unwrap_or (value_in aud (seen (entries c))) [] ≡ c.audiences
  aud_there =
      ap (λ ms. unwrap_or (first_value text_or_texts_kind ms) []) (aud_alone c)
      ∙ ap (λ o. unwrap_or (result_ok (ok_or o (of_member WrongType (read_at (codes "aud") (texts_data c.audiences))))) []) (texts_back c.audiences)

  text_there : (f : Field (Option (List ℕ))) (name : List ℕ) (o : Option (List ℕ)) → own f (seen (entries c)) ≡ map as_read (out_at name (option_map string o)) → f.kind ≡ or_null text_kind
      → optional f (seen (entries c)) ≡ o
  text_there f name o alone kind =
      ap (λ ms. option_flatten (first_value f.kind ms)) alone ∙ ap (λ k. option_flatten (first_value k (map as_read (out_at name (option_map string o))))) kind ∙ optional_text name o

  auth_time_there : optional (auth_time reading) (seen (entries c)) ≡ c.auth_time
  auth_time_there = ap (λ ms. option_flatten (first_value (or_null (moment_kind reading)) ms)) (auth_time_alone c) ∙ optional_moment reading (codes "auth_time") c.auth_time authenticated

  amr_there : optional amr (seen (entries c)) ≡ c.auth_method_refs
  amr_there = ap (λ ms. option_flatten (first_value (or_null texts_kind) ms)) (amr_alone c) ∙ optional_texts (codes "amr") c.auth_method_refs

  pub own_back : own_of reading (seen (entries c)) ≡ Ok c
  unfolding own_of
  own_back =
      ap (λ n. n >>= λ there. Ok (record {
        issuer = there.issuer;
        audiences = unwrap_or (value_in aud (seen (entries c))) [];
        expiration = there.expiration;
        issue_time = there.issue_time;
        auth_time = optional (auth_time reading) (seen (entries c));
        nonce = optional nonce (seen (entries c));
        auth_context_ref = optional acr (seen (entries c));
        auth_method_refs = optional amr (seen (entries c));
        authorized_party = optional azp (seen (entries c));
        access_token_hash = optional at_hash (seen (entries c));
        code_hash = optional c_hash (seen (entries c));
      })) needed_back
      ∙ (λ i. Ok (record {
        issuer = c.issuer;
        audiences = aud_there i;
        expiration = c.expiration;
        issue_time = c.issue_time;
        auth_time = auth_time_there i;
        nonce = text_there nonce (codes "nonce") c.nonce (nonce_alone c) refl i;
        auth_context_ref = text_there acr (codes "acr") c.auth_context_ref (acr_alone c) refl i;
        auth_method_refs = amr_there i;
        authorized_party = text_there azp (codes "azp") c.authorized_party (azp_alone c) refl i;
        access_token_hash = text_there at_hash (codes "at_hash") c.access_token_hash (at_hash_alone c) refl i;
        code_hash = text_there c_hash (codes "c_hash") c.code_hash (c_hash_alone c) refl i;
      }))

  -- ---- none of them is faulty

  good_text : (name : List ℕ) → ((text : List ℕ) → Good reading name (Some (string text))) → (o : Option (List ℕ)) → Good reading name (option_map string o)
  good_text name good None = tt
  good_text name good (Some text) = good text

  good_iss : Good reading (codes "iss") (Some (string c.issuer.text))
  unfolding judged
  good_iss = rw url_back refl

  good_aud : Good reading (codes "aud") (Some (texts_data c.audiences))
  unfolding judged
  good_aud = rw (texts_back c.audiences) refl

  good_exp : Good reading (codes "exp") (Some (seconds_data c.expiration))
  unfolding judged
  good_exp = rw exp_back refl

  good_iat : Good reading (codes "iat") (Some (seconds_data c.issue_time))
  unfolding judged
  good_iat = rw iat_back refl

  good_auth_time : (o : Option ℤ) → IsWholeSecond o → Good reading (codes "auth_time") (option_map seconds_data o)
  unfolding judged
  good_auth_time None h = tt
  good_auth_time (Some moment) h = rw (moment_back reading (read_at (codes "auth_time") (seconds_data moment)) moment refl h) refl

  good_amr : (o : Option (List (List ℕ))) → Good reading (codes "amr") (option_map texts_data o)
  unfolding judged
  good_amr None = tt
  good_amr (Some texts) = rw (texts_back texts) refl

  good_nonce : (text : List ℕ) → Good reading (codes "nonce") (Some (string text))
  unfolding judged
  good_nonce text = refl

  good_acr : (text : List ℕ) → Good reading (codes "acr") (Some (string text))
  unfolding judged
  good_acr text = refl

  good_azp : (text : List ℕ) → Good reading (codes "azp") (Some (string text))
  unfolding judged
  good_azp text = refl

  good_at_hash : (text : List ℕ) → Good reading (codes "at_hash") (Some (string text))
  unfolding judged
  good_at_hash text = refl

  good_c_hash : (text : List ℕ) → Good reading (codes "c_hash") (Some (string text))
  unfolding judged
  good_c_hash text = refl

  all_good : AllGood reading (entries c)
  all_good = (
    good_iss,
    (
      good_aud,
      (
        good_exp,
        (
          good_iat,
          (
            good_auth_time c.auth_time authenticated,
            (
              good_text (codes "nonce") good_nonce c.nonce,
              (
                good_text (codes "acr") good_acr c.auth_context_ref,
                (
                  good_amr c.auth_method_refs,
                  (good_text (codes "azp") good_azp c.authorized_party, (good_text (codes "at_hash") good_at_hash c.access_token_hash, (good_text (codes "c_hash") good_c_hash c.code_hash, tt))),
                ),
              ),
            ),
          ),
        ),
      ),
    ),
  )

  pub own_clean : first_by (own_rule reading) [] (seen (entries c)) ≡ None
  own_clean = clean reading (entries c) [] refl refl all_good
