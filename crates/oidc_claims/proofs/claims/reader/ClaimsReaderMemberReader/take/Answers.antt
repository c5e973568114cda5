use Rattle.std.proofs.Common.{◌≡◌, ◌∙◌, sym, ap, Some}
use Rattle.oidc_claims.specs.declared.claim.Claim.TheVariants.{Subject, Name, GivenName, FamilyName, MiddleName, Nickname, PreferredUsername, Profile, Picture, Website, Email, EmailVerified, Gender, Birthday, Birthdate, Zoneinfo, Locale, PhoneNumber, PhoneNumberVerified, Address, UpdatedAt}
use Rattle.oidc_claims.specs.Table.{claim_of, base_of}
use Rattle.oidc_claims.specs.Claims.{own}
use Rattle.oidc_claims.specs.Reader.{reader_of}
use Rattle.oidc_claims.proofs.Moves.{taken, moved, untaken, stayed}
use Rattle.oidc_claims.proofs.claims.reader.ClaimsReaderMemberReader.take.Goals as goal

pub returns-in-Some-Subject : goal.returns-in-Some-Subject
unfolding reader_of
returns-in-Some-Subject g c = λ before start.
    let is : claim_of (base_of c.args.member.now.name) ≡ Some Subject = sym c.in-Some-Subject.ensures ∙ ap Some c.in-Some-Subject.field-0-is in
    taken g.GC.GenderClaim.read_of c.args.reading Subject before c.args.member.now _ is
    (λ new. (λ i. record (start i) { subject = new i }) ∙ moved g.GC.GenderClaim.read_of c.args.reading Subject before c.args.member.now is)
    (c.take_once.ensures (own Subject before) (ap (λ r. r.subject) start))

pub returns-in-Some-Name : goal.returns-in-Some-Name
unfolding reader_of
returns-in-Some-Name g c = λ before start.
    let is : claim_of (base_of c.args.member.now.name) ≡ Some Name = sym c.in-Some-Name.ensures ∙ ap Some c.in-Some-Name.field-0-is in
    taken g.GC.GenderClaim.read_of c.args.reading Name before c.args.member.now _ is
    (λ new. (λ i. record (start i) { name = new i }) ∙ moved g.GC.GenderClaim.read_of c.args.reading Name before c.args.member.now is)
    (c.take.ensures (own Name before) (ap (λ r. r.name) start))

pub returns-in-Some-GivenName : goal.returns-in-Some-GivenName
unfolding reader_of
returns-in-Some-GivenName g c = λ before start.
    let is : claim_of (base_of c.args.member.now.name) ≡ Some GivenName = sym c.in-Some-GivenName.ensures ∙ ap Some c.in-Some-GivenName.field-0-is in
    taken g.GC.GenderClaim.read_of c.args.reading GivenName before c.args.member.now _ is
    (λ new. (λ i. record (start i) { given_name = new i }) ∙ moved g.GC.GenderClaim.read_of c.args.reading GivenName before c.args.member.now is)
    (c.take-in-Some-GivenName.ensures (own GivenName before) (ap (λ r. r.given_name) start))

pub returns-in-Some-FamilyName : goal.returns-in-Some-FamilyName
unfolding reader_of
returns-in-Some-FamilyName g c = λ before start.
    let is : claim_of (base_of c.args.member.now.name) ≡ Some FamilyName = sym c.in-Some-FamilyName.ensures ∙ ap Some c.in-Some-FamilyName.field-0-is in
    taken g.GC.GenderClaim.read_of c.args.reading FamilyName before c.args.member.now _ is
    (λ new. (λ i. record (start i) { family_name = new i }) ∙ moved g.GC.GenderClaim.read_of c.args.reading FamilyName before c.args.member.now is)
    (c.take-in-Some-FamilyName.ensures (own FamilyName before) (ap (λ r. r.family_name) start))

pub returns-in-Some-MiddleName : goal.returns-in-Some-MiddleName
unfolding reader_of
returns-in-Some-MiddleName g c = λ before start.
    let is : claim_of (base_of c.args.member.now.name) ≡ Some MiddleName = sym c.in-Some-MiddleName.ensures ∙ ap Some c.in-Some-MiddleName.field-0-is in
    taken g.GC.GenderClaim.read_of c.args.reading MiddleName before c.args.member.now _ is
    (λ new. (λ i. record (start i) { middle_name = new i }) ∙ moved g.GC.GenderClaim.read_of c.args.reading MiddleName before c.args.member.now is)
    (c.take-in-Some-MiddleName.ensures (own MiddleName before) (ap (λ r. r.middle_name) start))

pub returns-in-Some-Nickname : goal.returns-in-Some-Nickname
unfolding reader_of
returns-in-Some-Nickname g c = λ before start.
    let is : claim_of (base_of c.args.member.now.name) ≡ Some Nickname = sym c.in-Some-Nickname.ensures ∙ ap Some c.in-Some-Nickname.field-0-is in
    taken g.GC.GenderClaim.read_of c.args.reading Nickname before c.args.member.now _ is
    (λ new. (λ i. record (start i) { nickname = new i }) ∙ moved g.GC.GenderClaim.read_of c.args.reading Nickname before c.args.member.now is)
    (c.take-in-Some-Nickname.ensures (own Nickname before) (ap (λ r. r.nickname) start))

pub returns-in-Some-PreferredUsername : goal.returns-in-Some-PreferredUsername
unfolding reader_of
returns-in-Some-PreferredUsername g c = λ before start.
    let is : claim_of (base_of c.args.member.now.name) ≡ Some PreferredUsername = sym c.in-Some-PreferredUsername.ensures ∙ ap Some c.in-Some-PreferredUsername.field-0-is in
    taken g.GC.GenderClaim.read_of c.args.reading PreferredUsername before c.args.member.now _ is
    (λ new. (λ i. record (start i) { preferred_username = new i }) ∙ moved g.GC.GenderClaim.read_of c.args.reading PreferredUsername before c.args.member.now is)
    (c.take_once-in-Some-PreferredUsername.ensures (own PreferredUsername before) (ap (λ r. r.preferred_username) start))

pub returns-in-Some-Profile : goal.returns-in-Some-Profile
unfolding reader_of
returns-in-Some-Profile g c = λ before start.
    let is : claim_of (base_of c.args.member.now.name) ≡ Some Profile = sym c.in-Some-Profile.ensures ∙ ap Some c.in-Some-Profile.field-0-is in
    taken g.GC.GenderClaim.read_of c.args.reading Profile before c.args.member.now _ is
    (λ new. (λ i. record (start i) { profile = new i }) ∙ moved g.GC.GenderClaim.read_of c.args.reading Profile before c.args.member.now is)
    (c.take-in-Some-Profile.ensures (own Profile before) (ap (λ r. r.profile) start))

pub returns-in-Some-Picture : goal.returns-in-Some-Picture
unfolding reader_of
returns-in-Some-Picture g c = λ before start.
    let is : claim_of (base_of c.args.member.now.name) ≡ Some Picture = sym c.in-Some-Picture.ensures ∙ ap Some c.in-Some-Picture.field-0-is in
    taken g.GC.GenderClaim.read_of c.args.reading Picture before c.args.member.now _ is
    (λ new. (λ i. record (start i) { picture = new i }) ∙ moved g.GC.GenderClaim.read_of c.args.reading Picture before c.args.member.now is)
    (c.take-in-Some-Picture.ensures (own Picture before) (ap (λ r. r.picture) start))

pub returns-in-Some-Website : goal.returns-in-Some-Website
unfolding reader_of
returns-in-Some-Website g c = λ before start.
    let is : claim_of (base_of c.args.member.now.name) ≡ Some Website = sym c.in-Some-Website.ensures ∙ ap Some c.in-Some-Website.field-0-is in
    taken g.GC.GenderClaim.read_of c.args.reading Website before c.args.member.now _ is
    (λ new. (λ i. record (start i) { website = new i }) ∙ moved g.GC.GenderClaim.read_of c.args.reading Website before c.args.member.now is)
    (c.take-in-Some-Website.ensures (own Website before) (ap (λ r. r.website) start))

pub returns-in-Some-Email : goal.returns-in-Some-Email
unfolding reader_of
returns-in-Some-Email g c = λ before start.
    let is : claim_of (base_of c.args.member.now.name) ≡ Some Email = sym c.in-Some-Email.ensures ∙ ap Some c.in-Some-Email.field-0-is in
    taken g.GC.GenderClaim.read_of c.args.reading Email before c.args.member.now _ is
    (λ new. (λ i. record (start i) { email = new i }) ∙ moved g.GC.GenderClaim.read_of c.args.reading Email before c.args.member.now is)
    (c.take_once-in-Some-Email.ensures (own Email before) (ap (λ r. r.email) start))

pub returns-in-Some-EmailVerified : goal.returns-in-Some-EmailVerified
unfolding reader_of
returns-in-Some-EmailVerified g c = λ before start.
    let is : claim_of (base_of c.args.member.now.name) ≡ Some EmailVerified = sym c.in-Some-EmailVerified.ensures ∙ ap Some c.in-Some-EmailVerified.field-0-is in
    taken g.GC.GenderClaim.read_of c.args.reading EmailVerified before c.args.member.now _ is
    (λ new. (λ i. record (start i) { email_verified = new i }) ∙ moved g.GC.GenderClaim.read_of c.args.reading EmailVerified before c.args.member.now is)
    (c.take_once-in-Some-EmailVerified.ensures (own EmailVerified before) (ap (λ r. r.email_verified) start))

pub returns-in-Some-Gender : goal.returns-in-Some-Gender
unfolding reader_of
returns-in-Some-Gender g c = λ before start.
    let is : claim_of (base_of c.args.member.now.name) ≡ Some Gender = sym c.in-Some-Gender.ensures ∙ ap Some c.in-Some-Gender.field-0-is in
    taken g.GC.GenderClaim.read_of c.args.reading Gender before c.args.member.now _ is
    (λ new. (λ i. record (start i) { gender = new i }) ∙ moved g.GC.GenderClaim.read_of c.args.reading Gender before c.args.member.now is)
    (c.take_once-in-Some-Gender.ensures (own Gender before) (ap (λ r. r.gender) start))

pub returns-in-Some-Birthday : goal.returns-in-Some-Birthday
unfolding reader_of
returns-in-Some-Birthday g c = λ before start.
    let is : claim_of (base_of c.args.member.now.name) ≡ Some Birthday = sym c.in-Some-Birthday.ensures ∙ ap Some c.in-Some-Birthday.field-0-is in
    taken g.GC.GenderClaim.read_of c.args.reading Birthday before c.args.member.now _ is
    (λ new. (λ i. record (start i) { birthday = new i }) ∙ moved g.GC.GenderClaim.read_of c.args.reading Birthday before c.args.member.now is)
    (c.take_once-in-Some-Birthday.ensures (own Birthday before) (ap (λ r. r.birthday) start))

pub returns-in-Some-Birthdate : goal.returns-in-Some-Birthdate
unfolding reader_of
returns-in-Some-Birthdate g c = λ before start.
    let is : claim_of (base_of c.args.member.now.name) ≡ Some Birthdate = sym c.in-Some-Birthdate.ensures ∙ ap Some c.in-Some-Birthdate.field-0-is in
    taken g.GC.GenderClaim.read_of c.args.reading Birthdate before c.args.member.now _ is
    (λ new. (λ i. record (start i) { birthdate = new i }) ∙ moved g.GC.GenderClaim.read_of c.args.reading Birthdate before c.args.member.now is)
    (c.take_once-in-Some-Birthdate.ensures (own Birthdate before) (ap (λ r. r.birthdate) start))

pub returns-in-Some-Zoneinfo : goal.returns-in-Some-Zoneinfo
unfolding reader_of
returns-in-Some-Zoneinfo g c = λ before start.
    let is : claim_of (base_of c.args.member.now.name) ≡ Some Zoneinfo = sym c.in-Some-Zoneinfo.ensures ∙ ap Some c.in-Some-Zoneinfo.field-0-is in
    taken g.GC.GenderClaim.read_of c.args.reading Zoneinfo before c.args.member.now _ is
    (λ new. (λ i. record (start i) { zoneinfo = new i }) ∙ moved g.GC.GenderClaim.read_of c.args.reading Zoneinfo before c.args.member.now is)
    (c.take_once-in-Some-Zoneinfo.ensures (own Zoneinfo before) (ap (λ r. r.zoneinfo) start))

pub returns-in-Some-Locale : goal.returns-in-Some-Locale
unfolding reader_of
returns-in-Some-Locale g c = λ before start.
    let is : claim_of (base_of c.args.member.now.name) ≡ Some Locale = sym c.in-Some-Locale.ensures ∙ ap Some c.in-Some-Locale.field-0-is in
    taken g.GC.GenderClaim.read_of c.args.reading Locale before c.args.member.now _ is
    (λ new. (λ i. record (start i) { locale = new i }) ∙ moved g.GC.GenderClaim.read_of c.args.reading Locale before c.args.member.now is)
    (c.take_once-in-Some-Locale.ensures (own Locale before) (ap (λ r. r.locale) start))

pub returns-in-Some-PhoneNumber : goal.returns-in-Some-PhoneNumber
unfolding reader_of
returns-in-Some-PhoneNumber g c = λ before start.
    let is : claim_of (base_of c.args.member.now.name) ≡ Some PhoneNumber = sym c.in-Some-PhoneNumber.ensures ∙ ap Some c.in-Some-PhoneNumber.field-0-is in
    taken g.GC.GenderClaim.read_of c.args.reading PhoneNumber before c.args.member.now _ is
    (λ new. (λ i. record (start i) { phone_number = new i }) ∙ moved g.GC.GenderClaim.read_of c.args.reading PhoneNumber before c.args.member.now is)
    (c.take_once-in-Some-PhoneNumber.ensures (own PhoneNumber before) (ap (λ r. r.phone_number) start))

pub returns-in-Some-PhoneNumberVerified : goal.returns-in-Some-PhoneNumberVerified
unfolding reader_of
returns-in-Some-PhoneNumberVerified g c = λ before start.
    let is : claim_of (base_of c.args.member.now.name) ≡ Some PhoneNumberVerified = sym c.in-Some-PhoneNumberVerified.ensures ∙ ap Some c.in-Some-PhoneNumberVerified.field-0-is in
    taken g.GC.GenderClaim.read_of c.args.reading PhoneNumberVerified before c.args.member.now _ is
    (λ new. (λ i. record (start i) { phone_number_verified = new i }) ∙ moved g.GC.GenderClaim.read_of c.args.reading PhoneNumberVerified before c.args.member.now is)
    (c.take_once-in-Some-PhoneNumberVerified.ensures (own PhoneNumberVerified before) (ap (λ r. r.phone_number_verified) start))

pub returns-in-Some-Address : goal.returns-in-Some-Address
unfolding reader_of
returns-in-Some-Address g c = λ before start.
    let is : claim_of (base_of c.args.member.now.name) ≡ Some Address = sym c.in-Some-Address.ensures ∙ ap Some c.in-Some-Address.field-0-is in
    taken g.GC.GenderClaim.read_of c.args.reading Address before c.args.member.now _ is
    (λ new. (λ i. record (start i) { address = new i }) ∙ moved g.GC.GenderClaim.read_of c.args.reading Address before c.args.member.now is)
    (c.take_once-in-Some-Address.ensures (own Address before) (ap (λ r. r.address) start))

pub returns-in-Some-UpdatedAt : goal.returns-in-Some-UpdatedAt
unfolding reader_of
returns-in-Some-UpdatedAt g c = λ before start.
    let is : claim_of (base_of c.args.member.now.name) ≡ Some UpdatedAt = sym c.in-Some-UpdatedAt.ensures ∙ ap Some c.in-Some-UpdatedAt.field-0-is in
    taken g.GC.GenderClaim.read_of c.args.reading UpdatedAt before c.args.member.now _ is
    (λ new. (λ i. record (start i) { updated_at = new i }) ∙ moved g.GC.GenderClaim.read_of c.args.reading UpdatedAt before c.args.member.now is)
    (c.take_once-in-Some-UpdatedAt.ensures (own UpdatedAt before) (ap (λ r. r.updated_at) start))

pub returns-in-None : goal.returns-in-None
returns-in-None g c = λ before start. (
  untaken g.GC.GenderClaim.read_of c.args.reading before c.args.member.now (sym c.in-None.ensures),
  start ∙ stayed g.GC.GenderClaim.read_of c.args.reading before c.args.member.now (sym c.in-None.ensures),
)
