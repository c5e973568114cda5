-- Each member has one home, and each part of accepted claims is what the members of its own home say.
use Rattle.std.proofs.Common.{◌≡◌, ℕ, List, [], ◌∷◌, Bool, true, false, not, Result, Ok, Err, refl, sym, ap, subst, ◌∙◌, filter, ⊎_elim}
use Rattle.std.specs.Prelude.{count_by, slice_index_or, codes}
use Rattle.std.specs.List.{list_any, list_all}
use Rattle.std.specs.Str.{bytes_eq}
use Rattle.std.proofs.lemmas.Bool.{and_parts, or_cases, false≢true, true≢false}
use Rattle.std.proofs.lemmas.Slice.Eq.{bytes_eq-Decides}
use Rattle.oidc_members.specs.Seen.{SeenMember}
use Rattle.oidc_members.specs.declared.reading.Reading.{Reading}
use Rattle.oidc_members.specs.declared.refusal.Refusal.{Refusal}
use Rattle.oidc_readers.specs.Records.{◌>>=◌, faultless}
use Rattle.oidc_claims.specs.Seen.{SeenClaims}
use Rattle.oidc_claims.specs.Home.{id_token_fields, home_by, is_additional_home}
use Rattle.oidc_claims.specs.Standard.{faultless_claims}
use Rattle.oidc_claims.proofs.Theorems.{standard_name, is_claim, narrowed, standard_same}
use Rattle.oidc_id_token_claims.specs.TokenFields.{SeenOwnClaims, own_of, needed_of}
use Rattle.oidc_id_token_claims.specs.IdTokenClaims.{SeenIdTokenClaims, additional_members, id_token_rule, parts_in, id_token_claims_of}
use Rattle.oidc_id_token_claims.specs.Homes.{is_field, is_standard, HasOneHome, AcceptedHaveOneHome}

-- ---- one home

not_true : (b : Bool) → not b ≡ true → b ≡ false
not_true true h = absurd (false≢true h)
not_true false h = refl

-- no field has the name of a claim
pub no_claim : (fields : List (List ℕ)) (name : List ℕ) → list_all (λ field. not (standard_name field)) fields ≡ true → list_any (λ field. bytes_eq field name) fields ≡ true → standard_name name ≡ false
no_claim [] name all h = absurd (false≢true h)
no_claim (field ∷ fields) name all h =
    let parts = and_parts (not (standard_name field)) (list_all (λ field. not (standard_name field)) fields) all in
    ⊎_elim
    (λ here. ap standard_name (sym ((bytes_eq-Decides field name).0 here)) ∙ not_true (standard_name field) parts.0)
    (λ there. no_claim fields name parts.1 there)
    (or_cases (bytes_eq field name) (list_any (λ field. bytes_eq field name) fields) h)

homes_by : (field standard : Bool) → (field ≡ true → standard ≡ false)
    → count_by (λ b. b) (field ∷ standard ∷ is_additional_home (home_by field standard) ∷ []) ≡ 1
homes_by true true apart = absurd (true≢false (apart refl))
homes_by true false apart = refl
homes_by false true apart = refl
homes_by false false apart = refl

-- where no field has the name of a claim, as none of an ID token or of user info has
pub one_home : (fields : List (List ℕ)) → list_all (λ field. not (standard_name field)) fields ≡ true → (m : SeenMember) → HasOneHome fields m
one_home fields apart m =
    subst (λ standard. count_by (λ b. b) (is_field fields m ∷ is_standard m ∷ is_additional_home (home_by (is_field fields m) standard) ∷ []) ≡ 1) (sym (is_claim m))
    (homes_by (is_field fields m) (is_standard m) (λ h. no_claim fields m.name apart h))

-- ---- the fields

abbrev pub is_field_name : List (List ℕ) → List ℕ → Bool
is_field_name fields name = list_any (λ field. bytes_eq field name) fields

within_fields : (fields : List (List ℕ)) (name : List ℕ) → is_field_name fields name ≡ true → (m : SeenMember) → bytes_eq m.name name ≡ true → is_field fields m ≡ true
within_fields fields name known m h = ap (is_field_name fields) ((bytes_eq-Decides m.name name).0 h) ∙ known

-- of the members of one field none is left out
pub field_same : (fields : List (List ℕ)) (ms : List SeenMember) (name : List ℕ) → is_field_name fields name ≡ true → filter (λ m. bytes_eq m.name name) (filter (is_field fields) ms) ≡ filter (λ m. bytes_eq m.name name) ms
field_same fields ms name known = narrowed (λ m. bytes_eq m.name name) (is_field fields) (within_fields fields name known) ms

module _ (reading : Reading) (ms : List SeenMember) where
  own_field_same : (name : List ℕ) → is_field_name id_token_fields name ≡ true → filter (λ m. bytes_eq m.name name) (filter (is_field id_token_fields) ms) ≡ filter (λ m. bytes_eq m.name name) ms
  own_field_same = field_same id_token_fields ms

  pub own_same : own_of reading (filter (is_field id_token_fields) ms) ≡ own_of reading ms
  unfolding own_of needed_of
  own_same = rw (
    own_field_same (codes "iss") refl,
    own_field_same (codes "aud") refl,
    own_field_same (codes "exp") refl,
    own_field_same (codes "iat") refl,
    own_field_same (codes "auth_time") refl,
    own_field_same (codes "nonce") refl,
    own_field_same (codes "acr") refl,
    own_field_same (codes "amr") refl,
    own_field_same (codes "azp") refl,
    own_field_same (codes "at_hash") refl,
    own_field_same (codes "c_hash") refl,
  ) refl

-- ---- accepted claims

same_ok : {A : Type 0} (x y : A) → ◌≡◌ {A = Result A Refusal} (Ok x) (Ok y) → x ≡ y
same_ok x y h = cc

module _ {AC GC : Type 0} (additional_read : List SeenMember → Result AC Refusal) (gender_read : SeenMember → Result GC Refusal) (reading : Reading) where
  additional_of : (own : SeenOwnClaims) (standard : SeenClaims GC) (answer : Result AC Refusal) (claims : SeenIdTokenClaims AC GC)
      → (answer >>= λ additional. Ok (record { own = own; standard_claims = standard; additional_claims = additional })) ≡ Ok claims
      → (own ≡ claims.own) × (standard ≡ claims.standard_claims) × (answer ≡ Ok claims.additional_claims)
  additional_of own standard (Ok additional) claims h =
      let whole : SeenIdTokenClaims AC GC = record { own = own; standard_claims = standard; additional_claims = additional } in
      let same : whole ≡ claims = same_ok whole claims h in
      (ap (λ c. c.own) same, ap (λ c. c.standard_claims) same, ap (λ (c : SeenIdTokenClaims AC GC). Ok c.additional_claims) same)
  additional_of own standard (Err refusal) claims h = absurd cc

  abbrev Parts : List SeenMember → SeenIdTokenClaims AC GC → Type 0
  Parts members claims =
      (own_of reading members ≡ Ok claims.own) × (faultless_claims gender_read reading members ≡ Ok claims.standard_claims) × (additional_read (additional_members members) ≡ Ok claims.additional_claims)

  standard_of : (members : List SeenMember) (own : SeenOwnClaims) → own_of reading members ≡ Ok own → (answer : Result (SeenClaims GC) Refusal) → faultless_claims gender_read reading members ≡ answer → (claims : SeenIdTokenClaims AC GC)
      → (answer >>= λ standard. additional_read (additional_members members) >>= λ additional. Ok (record { own = own; standard_claims = standard; additional_claims = additional })) ≡ Ok claims
      → Parts members claims
  standard_of members own is (Ok standard) there claims h =
      let rest = additional_of own standard (additional_read (additional_members members)) claims h in
      (is ∙ ap Ok rest.0, there ∙ ap Ok rest.1, rest.2)
  standard_of members own is (Err refusal) there claims h = absurd cc

  own_there : (members : List SeenMember) (answer : Result SeenOwnClaims Refusal) → own_of reading members ≡ answer → (claims : SeenIdTokenClaims AC GC)
      → (answer >>= λ own. faultless_claims gender_read reading members >>= λ standard. additional_read (additional_members members) >>= λ additional. Ok (record { own = own; standard_claims = standard; additional_claims = additional })) ≡ Ok claims
      → Parts members claims
  own_there members (Ok own) is claims h = standard_of members own is (faultless_claims gender_read reading members) refl claims h
  own_there members (Err refusal) is claims h = absurd cc

  passed : (members : List SeenMember) (answer : Result (Unit {0}) Refusal) (claims : SeenIdTokenClaims AC GC) → (answer >>= λ u. parts_in additional_read gender_read reading members) ≡ Ok claims → Parts members claims
  unfolding parts_in
  passed members (Ok u) claims h = own_there members (own_of reading members) refl claims h
  passed members (Err refusal) claims h = absurd cc

  pub accepted_parts : (members : List SeenMember) (claims : SeenIdTokenClaims AC GC) → id_token_claims_of additional_read gender_read reading members ≡ Ok claims → Parts members claims
  unfolding id_token_claims_of
  accepted_parts members claims h = passed members (faultless (id_token_rule gender_read reading) members) claims h

pub accepted_homes : {AC GC : Type 0} (additional_read : List SeenMember → Result AC Refusal) (gender_read : SeenMember → Result GC Refusal) → AcceptedHaveOneHome additional_read gender_read
accepted_homes additional_read gender_read reading members claims h =
    let parts = accepted_parts additional_read gender_read reading members claims h in
    record {
      homes = λ k d within. one_home id_token_fields refl (slice_index_or members k d);
      own = own_same reading members ∙ parts.0;
      standard = standard_same gender_read reading members ∙ parts.1;
      additional = parts.2;
    }
