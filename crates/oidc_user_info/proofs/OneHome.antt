-- Each member of user info has one home, and each part of accepted claims is what the members of its own home say.
use Rattle.std.proofs.Common.{◌≡◌, List, Result, Ok, Err, refl, sym, ap, ◌∙◌}
use Rattle.std.specs.Prelude.{slice_index_or}
use Rattle.oidc_members.specs.Seen.{SeenMember}
use Rattle.oidc_members.specs.declared.reading.Reading.{Reading}
use Rattle.oidc_members.specs.declared.refusal.Refusal.{Refusal}
use Rattle.oidc_readers.specs.Records.{◌>>=◌, faultless, optional}
use Rattle.oidc_claims.specs.Seen.{SeenClaims}
use Rattle.oidc_claims.specs.Home.{user_info_fields}
use Rattle.oidc_claims.specs.Standard.{faultless_claims}
use Rattle.oidc_claims.proofs.Theorems.{standard_same}
use Rattle.oidc_id_token_claims.specs.IdTokenClaims.{additional_among}
use Rattle.oidc_id_token_claims.proofs.Theorems.{one_home}
use Rattle.oidc_user_info.specs.UserInfoClaims.{SeenUserInfoClaims, iss, aud, user_info_rule, parts_in, user_info_claims_of}
use Rattle.oidc_user_info.specs.Homes.{AcceptedHaveOneHome}
use Rattle.oidc_user_info.proofs.IssuerAndAudienceBack.{issuer_same, audiences_same}

-- ---- accepted claims

same_ok : {A : Type 0} (x y : A) → ◌≡◌ {A = Result A Refusal} (Ok x) (Ok y) → x ≡ y
same_ok x y h = cc

module _ {AC GC : Type 0} (additional_read : List SeenMember → Result AC Refusal) (gender_read : SeenMember → Result GC Refusal) (reading : Reading) (members : List SeenMember) (claims : SeenUserInfoClaims AC GC) where
  abbrev whole : SeenClaims GC → AC → SeenUserInfoClaims AC GC
  whole standard additional = record { issuer = optional iss members; audiences = optional aud members; standard_claims = standard; additional_claims = additional }

  pub record Said : Type 0 where
    pub issuer : optional iss members ≡ claims.issuer
    pub audiences : optional aud members ≡ claims.audiences
    pub standard : faultless_claims gender_read reading members ≡ Ok claims.standard_claims
    pub additional : additional_read (additional_among user_info_fields members) ≡ Ok claims.additional_claims

  additional_said : (standard : SeenClaims GC) → faultless_claims gender_read reading members ≡ Ok standard
      → (answer : Result AC Refusal) → additional_read (additional_among user_info_fields members) ≡ answer → (answer >>= λ additional. Ok (whole standard additional)) ≡ Ok claims → Said
  additional_said standard is (Ok additional) there h =
      let same : whole standard additional ≡ claims = same_ok (whole standard additional) claims h in
      record {
        issuer = ap (λ c. c.issuer) same;
        audiences = ap (λ c. c.audiences) same;
        standard = is ∙ ap (λ (c : SeenUserInfoClaims AC GC). Ok c.standard_claims) same;
        additional = there ∙ ap (λ (c : SeenUserInfoClaims AC GC). Ok c.additional_claims) same;
      }
  additional_said standard is (Err refusal) there h = absurd cc

  standard_said : (answer : Result (SeenClaims GC) Refusal) → faultless_claims gender_read reading members ≡ answer
      → (answer >>= λ standard. additional_read (additional_among user_info_fields members) >>= λ additional. Ok (whole standard additional)) ≡ Ok claims → Said
  standard_said (Ok standard) is h = additional_said standard is (additional_read (additional_among user_info_fields members)) refl h
  standard_said (Err refusal) is h = absurd cc

  passed : (answer : Result (Unit {0}) Refusal) → (answer >>= λ u. parts_in additional_read gender_read reading members) ≡ Ok claims → Said
  unfolding parts_in
  passed (Ok u) h = standard_said (faultless_claims gender_read reading members) refl h
  passed (Err refusal) h = absurd cc

  accepted : user_info_claims_of additional_read gender_read reading members ≡ Ok claims → Said
  unfolding user_info_claims_of
  accepted h = passed (faultless (user_info_rule gender_read reading) members) h

module _ {AC GC : Type 0} (additional_read : List SeenMember → Result AC Refusal) (gender_read : SeenMember → Result GC Refusal) where
  pub accepted_homes : AcceptedHaveOneHome additional_read gender_read
  accepted_homes reading members claims h =
      let said = accepted additional_read gender_read reading members claims h in
      record {
        homes = λ k d within. one_home user_info_fields refl (slice_index_or members k d);
        issuer = sym (issuer_same members) ∙ said.issuer;
        audiences = sym (audiences_same members) ∙ said.audiences;
        standard = standard_same gender_read reading members ∙ said.standard;
        additional = said.additional;
      }
