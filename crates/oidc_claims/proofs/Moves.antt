-- how the readers go on from one member to the next
use Rattle.std.proofs.Common.{◌≡◌, ℕ, List, [], ◌∷◌, ◌++◌, Option, None, Some, Result, Ok, Err, refl, sym, ap, ◌∙◌, cond, Bool, true, false}
use Rattle.std.specs.Option.{option_map_or}
use Rattle.std.specs.Str.{bytes_eq}
use Rattle.std.proofs.lemmas.List.Elements.{filter-append}
use Rattle.oidc_members.specs.Seen.{SeenMember}
use Rattle.oidc_members.specs.declared.reading.Reading.{Reading}
use Rattle.oidc_members.specs.declared.refusal.Refusal.{Refusal}
use Rattle.oidc_members.specs.declared.refusal.ParseError.{ParseError}
use Rattle.oidc_members.specs.declared.refusal.ParseError.TheVariants.{Refused, Memory}
use Rattle.oidc_members.specs.Answers.{Answers, Refuses}
use Rattle.oidc_readers.specs.Passes.{Took}
use Rattle.oidc_readers.specs.Kinds.{Kind}
use Rattle.oidc_claims.specs.declared.claim.Claim.{Claim}
use Rattle.oidc_claims.specs.declared.claim.Claim.TheVariants.{Subject, Name, GivenName, FamilyName, MiddleName, Nickname, PreferredUsername, Profile, Picture, Website, Email, EmailVerified, Gender, Birthday, Birthdate, Zoneinfo, Locale, PhoneNumber, PhoneNumberVerified, Address, UpdatedAt}
use Rattle.oidc_claims.specs.declared.claims.reader.ClaimsReader.{ClaimsReader}
use Rattle.oidc_claims.specs.Table.{name_of, all_claims, claim_of, base_of, kind_of}
use Rattle.oidc_claims.specs.Claims.{own, is_of, fault_of_kind, fault_by, fault_at}
use Rattle.oidc_claims.specs.Standard.{with_subject, complete, missing_subject}
use Rattle.oidc_claims.specs.Reader.{claim_slots, reader_of, finished_claims}
use Rattle.oidc_claims.proofs.Names.{by_name}

append_none : {A : Type 0} (xs : List A) → xs ++ [] ≡ xs
append_none [] = refl
append_none (x ∷ xs) = ap (λ r. x ∷ r) (append_none xs)

by_test : (b : Bool) (xs : List SeenMember) (m : SeenMember) → xs ++ cond b (m ∷ []) [] ≡ cond b (xs ++ m ∷ []) xs
by_test true xs m = refl
by_test false xs m = append_none xs

-- what a slot answers of a member of its name is the answer of the whole reader
answered : (fault fault' : Option Refusal) (r : Result (Unit {0}) ParseError) {P Q : Type 0} → fault' ≡ fault → (P → Q) → Took fault r P → Took fault' r Q
answered fault fault' (Ok u) is f t = (is ∙ t.0, f t.1)
answered fault fault' (Err (Refused refusal)) is f t = is ∙ t
answered fault fault' (Err Memory) is f t = tt

-- ---- the claims

claim_each : (d : Claim) → claim_of (name_of d) ≡ Some d
claim_each Subject = refl
claim_each Name = refl
claim_each GivenName = refl
claim_each FamilyName = refl
claim_each MiddleName = refl
claim_each Nickname = refl
claim_each PreferredUsername = refl
claim_each Profile = refl
claim_each Picture = refl
claim_each Website = refl
claim_each Email = refl
claim_each EmailVerified = refl
claim_each Gender = refl
claim_each Birthday = refl
claim_each Birthdate = refl
claim_each Zoneinfo = refl
claim_each Locale = refl
claim_each PhoneNumber = refl
claim_each PhoneNumberVerified = refl
claim_each Address = refl
claim_each UpdatedAt = refl

-- a member is of a claim where its name's base names the claim
pub is_of_named : (d : Claim) (m : SeenMember) → is_of d m ≡ option_map_or (λ e. bytes_eq (name_of d) (name_of e)) (claim_of (base_of m.name)) false
is_of_named d m = by_name name_of all_claims claim_each (base_of m.name) d

push_own : (d : Claim) (before : List SeenMember) (m : SeenMember) → own d (before ++ m ∷ []) ≡ cond (is_of d m) (own d before ++ m ∷ []) (own d before)
push_own d before m = filter-append (is_of d) before (m ∷ []) ∙ by_test (is_of d m) (own d before) m

module _ {GC : Type 0} (gender_read : Kind GC) (reading : Reading) where
  -- a member of a claim changes the slot of that claim alone
  pub moved : (c : Claim) (before : List SeenMember) (m : SeenMember) → claim_of (base_of m.name) ≡ Some c
      → claim_slots gender_read reading (λ d. cond (bytes_eq (name_of d) (name_of c)) (own d before ++ m ∷ []) (own d before)) ≡ reader_of gender_read reading (before ++ m ∷ [])
  unfolding reader_of
  moved c before m is =
      let each : (d : Claim) → cond (bytes_eq (name_of d) (name_of c)) (own d before ++ m ∷ []) (own d before) ≡ own d (before ++ m ∷ []) =
      λ d. sym (push_own d before m ∙ ap (λ b. cond b (own d before ++ m ∷ []) (own d before)) (is_of_named d m ∙ ap (λ o. option_map_or (λ e. bytes_eq (name_of d) (name_of e)) o false) is))
      in λ i. claim_slots gender_read reading (λ d. each d i)

  -- one of no claim changes none
  pub stayed : (before : List SeenMember) (m : SeenMember) → claim_of (base_of m.name) ≡ None → reader_of gender_read reading before ≡ reader_of gender_read reading (before ++ m ∷ [])
  unfolding reader_of
  stayed before m is =
      let each : (d : Claim) → own d before ≡ own d (before ++ m ∷ []) =
      λ d. sym (push_own d before m ∙ ap (λ b. cond b (own d before ++ m ∷ []) (own d before)) (is_of_named d m ∙ ap (λ o. option_map_or (λ e. bytes_eq (name_of d) (name_of e)) o false) is))
      in λ i. claim_slots gender_read reading (λ d. each d i)

  pub taken : (c : Claim) (before : List SeenMember) (m : SeenMember) (r : Result (Unit {0}) ParseError) {P Q : Type 0}
      → claim_of (base_of m.name) ≡ Some c → (P → Q) → Took (fault_of_kind gender_read reading (kind_of c) (own c before) m) r P → Took (fault_at gender_read reading before m) r Q
  taken c before m r is f t =
      answered (fault_of_kind gender_read reading (kind_of c) (own c before) m) (fault_at gender_read reading before m) r (ap (λ o. fault_by gender_read reading o before m) is) f t

  pub untaken : (before : List SeenMember) (m : SeenMember) → claim_of (base_of m.name) ≡ None → fault_at gender_read reading before m ≡ None
  untaken before m is = ap (λ o. fault_by gender_read reading o before m) is

  -- the claims that the reader of the members gives in the end
  pub ended : (members : List SeenMember) (reader : ClaimsReader GC) (subject : List ℕ) → reader ≡ reader_of gender_read reading members
      → finished_claims reader subject ≡ with_subject gender_read reading subject members
  unfolding reader_of finished_claims with_subject
  ended members reader subject is = ap (λ r. finished_claims r subject) is

  -- the refusal where `sub` is missing
  pub lacking : (members : List SeenMember) (subject : Option (List ℕ)) (error : ParseError) → subject ≡ None → Refuses missing_subject error
      → Answers (complete gender_read reading subject members) (Err error)
  lacking members subject (Refused refusal) none is = ap (λ o. complete gender_read reading o members) none ∙ ap Err is
  lacking members subject Memory none is = tt
