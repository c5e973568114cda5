-- Members of claims that were written in three parts: fields of a token, standard claims, additional ones. Each home
-- keeps its own part, and the standard claims are read back.
use Rattle.std.proofs.Common.{◌≡◌, ℕ, suc, List, [], ◌∷◌, ◌++◌, map, Bool, true, false, ◌&&◌, not, cond, None, Some, option_map, Result, Ok, refl, sym, ap, append_assoc, ◌∙◌, filter, All, append-nil, arith}
use Rattle.std.specs.List.{list_all}
use Rattle.std.proofs.lemmas.Bool.{and_parts, and_from, false≢true}
use Rattle.std.proofs.lemmas.List.{map-append}
use Rattle.std.proofs.lemmas.List.Elements.{All-nil, All-cons, filter-append}
use Rattle.serde_json.specs.Data.{Data, string}
use Rattle.oidc_members.specs.Seen.{SeenMember, OutSeen}
use Rattle.oidc_members.specs.Objects.{members_of}
use Rattle.oidc_members.specs.Write.{object_text}
use Rattle.oidc_members.specs.declared.reading.Reading.{Reading}
use Rattle.oidc_members.specs.declared.refusal.Refusal.{Refusal}
use Rattle.oidc_readers.specs.Passes.{first_by}
use Rattle.oidc_readers.specs.WrittenBack.{MayStand, IsUtf8Member, as_read}
use Rattle.oidc_readers.proofs.Theorems.{written_split_back}
use Rattle.oidc_claims.specs.Additional.{out_of}
use Rattle.oidc_claims.specs.Claims.{fault_at, first_fault}
use Rattle.oidc_claims.specs.Gender.{GenderReadsBack, GenderIsValue}
use Rattle.oidc_claims.specs.Home.{home_of, home_by, is_additional_home}
use Rattle.oidc_claims.specs.Seen.{SeenClaims}
use Rattle.oidc_claims.specs.Standard.{claims_of, faultless_claims}
use Rattle.oidc_claims.specs.Write.{written, IsInRange}
use Rattle.oidc_claims.proofs.Theorems.{EachStands, written_stands, split_reads_back, standard_name, is_claim, standard_same, fault_outside, fault_narrowed, claims_by, standard_named}
use Rattle.oidc_jwt.proofs.Theorems.{may_be_written}
use Rattle.oidc_id_token_claims.specs.IdTokenClaims.{additional_among}
use Rattle.oidc_id_token_claims.specs.Homes.{is_field, is_standard}
use Rattle.oidc_id_token_claims.proofs.OneHome.{no_claim, is_field_name}
use Rattle.oidc_id_token_claims.proofs.Passing.{passes_apart}

not_true : (b : Bool) → not b ≡ true → b ≡ false
not_true true h = absurd (false≢true h)
not_true false h = refl

last_false : (a b : Bool) → b ≡ false → (a && b) ≡ false
last_false true b h = h
last_false false b h = refl

-- ---- a test of names

-- the test of a name is passed by the member that is read
pub all_kept : (test : List ℕ → Bool) (ms : List OutSeen) → list_all (λ m. test m.name) ms ≡ true → filter (λ m. test m.name) (map as_read ms) ≡ map as_read ms
all_kept test [] h = refl
all_kept test (m ∷ ms) h =
    let parts = and_parts (test m.name) (list_all (λ m. test m.name) ms) h in
    λ i. cond (parts.0 i) (as_read m ∷ all_kept test ms parts.1 i) (filter (λ m. test m.name) (map as_read ms))

pub none_kept : (test : List ℕ → Bool) (ms : List OutSeen) → list_all (λ m. not (test m.name)) ms ≡ true → filter (λ m. test m.name) (map as_read ms) ≡ []
none_kept test [] h = refl
none_kept test (m ∷ ms) h =
    let parts = and_parts (not (test m.name)) (list_all (λ m. not (test m.name)) ms) h in
    (λ i. cond (not_true (test m.name) parts.0 i) (as_read m ∷ filter (λ m. test m.name) (map as_read ms)) (filter (λ m. test m.name) (map as_read ms)))
    ∙ none_kept test ms parts.1

-- members all of which pass one test of names pass a weaker one
pub passing : (p q : List ℕ → Bool) → ((name : List ℕ) → p name ≡ true → q name ≡ true) → (ms : List OutSeen) → list_all (λ m. p m.name) ms ≡ true → list_all (λ m. q m.name) ms ≡ true
passing p q all [] h = refl
passing p q all (m ∷ ms) h =
    let parts = and_parts (p m.name) (list_all (λ m. p m.name) ms) h in and_from (q m.name) (list_all (λ m. q m.name) ms) (all m.name parts.0) (passing p q all ms parts.1)

pub weaker : (p q : OutSeen → Bool) → ((m : OutSeen) → p m ≡ true → q m ≡ true) → (ms : List OutSeen) → list_all p ms ≡ true → list_all q ms ≡ true
weaker p q all [] h = refl
weaker p q all (m ∷ ms) h =
    let parts = and_parts (p m) (list_all p ms) h in and_from (q m) (list_all q ms) (all m parts.0) (weaker p q all ms parts.1)

-- ---- members that were written

module _ (P : OutSeen → Type 0) where
  pub behind : (xs ys : List OutSeen) → All P (xs ++ ys) → All P ys
  behind [] ys h = h
  behind (x ∷ xs) ys h = behind xs ys (λ k d within. h (suc k) d (omega arith))

  pub before : (xs ys : List OutSeen) → All P (xs ++ ys) → All P xs
  before [] ys h = All-nil P
  before (x ∷ xs) ys h = All-cons P x xs (h 0 x (omega arith)) (before xs ys (λ k d within. h (suc k) d (omega arith)))

pub each_stands : (ms : List OutSeen) → EachStands ms → All (λ (m : OutSeen). MayStand m.value) ms
each_stands [] h = All-nil (λ (m : OutSeen). MayStand m.value)
each_stands (m ∷ ms) h = All-cons (λ (m : OutSeen). MayStand m.value) m ms h.0 (each_stands ms h.1)

pub outs_back : (ms : List OutSeen) → map out_of (map as_read ms) ≡ ms
outs_back [] = refl
outs_back (m ∷ ms) = λ i. m ∷ outs_back ms i

pub same_some : {A : Type 0} (x y : A) → Some x ≡ Some y → x ≡ y
same_some x y h = cc

-- ---- a name of one home is of no other

additional_of : (field standard : Bool) → is_additional_home (home_by field standard) ≡ (not field && not standard)
additional_of true true = refl
additional_of true false = refl
additional_of false true = refl
additional_of false false = refl

-- No field has the name of a claim.
module _ (fields : List (List ℕ)) (apart : list_all (λ field. not (standard_name field)) fields ≡ true) where
  abbrev is_additional_name : List ℕ → Bool
  is_additional_name name = is_additional_home (home_of name fields)

  field_not_standard : (name : List ℕ) → is_field_name fields name ≡ true → not (standard_name name) ≡ true
  field_not_standard name h = ap not (no_claim fields name apart h)

  standard_not_field : (name : List ℕ) (b : Bool) → is_field_name fields name ≡ b → standard_name name ≡ true → not b ≡ true
  standard_not_field name true is h = absurd (false≢true (sym (no_claim fields name apart is) ∙ h))
  standard_not_field name false is h = refl

  -- whether a name is additional, by the other two tests
  pub additional_by : (name : List ℕ) → is_additional_name name ≡ (not (is_field_name fields name) && not (standard_name name))
  additional_by name =
      ap (λ standard. is_additional_home (home_by (is_field_name fields name) standard)) (is_claim (record { name = name; value = string []; text = [] }))
      ∙ additional_of (is_field_name fields name) (standard_name name)

  field_not_additional : (name : List ℕ) → is_field_name fields name ≡ true → not (is_additional_name name) ≡ true
  field_not_additional name h = ap not (additional_by name ∙ ap (λ b. not b && not (standard_name name)) h)

  standard_not_additional : (name : List ℕ) → standard_name name ≡ true → not (is_additional_name name) ≡ true
  standard_not_additional name h = ap not (additional_by name ∙ last_false (not (is_field_name fields name)) (not (standard_name name)) (ap not h))

  additional_not_field : (name : List ℕ) → is_additional_name name ≡ true → not (is_field_name fields name) ≡ true
  additional_not_field name h = (and_parts (not (is_field_name fields name)) (not (standard_name name)) (sym (additional_by name) ∙ h)).0

  additional_not_standard : (name : List ℕ) → is_additional_name name ≡ true → not (standard_name name) ≡ true
  additional_not_standard name h = (and_parts (not (is_field_name fields name)) (not (standard_name name)) (sym (additional_by name) ∙ h)).1

  -- ---- three parts

  module _
      (first second third : List OutSeen)
      (firsts : list_all (λ m. is_field_name fields m.name) first ≡ true)
      (seconds : list_all (λ m. standard_name m.name) second ≡ true)
      (thirds : list_all (λ m. is_additional_name m.name) third ≡ true) where
    abbrev all : List SeenMember
    all = map as_read (first ++ second ++ third)

    cut : all ≡ map as_read first ++ (map as_read second ++ map as_read third)
    cut = map-append as_read (first ++ second) third ∙ ap (λ l. l ++ map as_read third) (map-append as_read first second) ∙ append_assoc (map as_read first) (map as_read second) (map as_read third)

    kept_in : (test : List ℕ → Bool) → filter (λ m. test m.name) all
        ≡ filter (λ m. test m.name) (map as_read first) ++ (filter (λ m. test m.name) (map as_read second) ++ filter (λ m. test m.name) (map as_read third))
    kept_in test =
        ap (filter (λ m. test m.name)) cut
        ∙ filter-append (λ m. test m.name) (map as_read first) (map as_read second ++ map as_read third)
        ∙ ap (λ l. filter (λ m. test m.name) (map as_read first) ++ l) (filter-append (λ m. test m.name) (map as_read second) (map as_read third))

    pub fields_kept : filter (is_field fields) all ≡ map as_read first
    fields_kept =
        kept_in (is_field_name fields)
        ∙ (λ i. all_kept (is_field_name fields) first firsts i ++ (
        none_kept (is_field_name fields) second (passing standard_name (λ name. not (is_field_name fields name)) (λ name h. standard_not_field name (is_field_name fields name) refl h) second seconds) i
        ++ none_kept (is_field_name fields) third (passing is_additional_name (λ name. not (is_field_name fields name)) additional_not_field third thirds) i
        ))
        ∙ append-nil (map as_read first)

    pub standard_kept : filter is_standard all ≡ map as_read second
    standard_kept =
        kept_in standard_name
        ∙ (λ i. none_kept standard_name first (passing (is_field_name fields) (λ name. not (standard_name name)) field_not_standard first firsts) i ++ (
        all_kept standard_name second seconds i
        ++ none_kept standard_name third (passing is_additional_name (λ name. not (standard_name name)) additional_not_standard third thirds) i
        ))
        ∙ append-nil (map as_read second)

    pub additional_kept : additional_among fields all ≡ map as_read third
    additional_kept =
        kept_in is_additional_name
        ∙ (λ i. none_kept is_additional_name first (passing (is_field_name fields) (λ name. not (is_additional_name name)) field_not_additional first firsts) i ++ (
        none_kept is_additional_name second (passing standard_name (λ name. not (is_additional_name name)) standard_not_additional second seconds) i
        ++ all_kept is_additional_name third thirds i
        ))

-- ---- the standard claims of such members

module _
    {GC : Type 0}
    (gender_read : SeenMember → Result GC Refusal)
    (reading : Reading)
    (gender_data : GC → Data)
    (gender_back : GenderReadsBack gender_read gender_data)
    (gender_there : GenderIsValue gender_data)
    (claims : SeenClaims GC)
    (range : IsInRange claims)
    (texts : All IsUtf8Member (written gender_data claims))
    (all : List SeenMember)
    (kept : filter is_standard all ≡ map as_read (written gender_data claims)) where
  abbrev out : List OutSeen
  out = written gender_data claims

  split : members_of (object_text out) ≡ Some (map as_read out)
  split = written_split_back out (may_be_written out (each_stands out (written_stands gender_data gender_there claims range)) texts)

  read : claims_of gender_read reading (map as_read out) ≡ Ok claims
  read = same_some _ _ (sym (ap (option_map (claims_of gender_read reading)) split) ∙ split_reads_back gender_read gender_data gender_back gender_there claims range texts reading)

  parts : (first_fault gender_read reading (map as_read out) ≡ None) × (faultless_claims gender_read reading (map as_read out) ≡ Ok claims)
  parts = claims_by gender_read reading (first_fault gender_read reading (map as_read out)) (map as_read out) claims read

  pub standard_clean : first_by (fault_at gender_read reading) [] all ≡ None
  standard_clean = passes_apart (fault_at gender_read reading) is_standard (fault_outside gender_read reading) (fault_narrowed gender_read reading) all [] (ap (first_by (fault_at gender_read reading) []) kept ∙ parts.0)

  pub standard_there : faultless_claims gender_read reading all ≡ Ok claims
  standard_there = sym (standard_same gender_read reading all) ∙ ap (faultless_claims gender_read reading) kept ∙ parts.1
