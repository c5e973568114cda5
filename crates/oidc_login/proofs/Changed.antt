-- what two clients that differ in nothing have, and what the first difference says
use Rattle.std.proofs.Common.{◌≡◌, ◌≢◌, ℕ, List, Bool, true, false, Option, None, Some, Result, Ok, Err, refl, sym, ap, subst, ◌∙◌}
use Rattle.std.specs.Prelude.{not, option_map, is_some, IsTrue}
use Rattle.std.specs.Str.{bytes_eq}
use Rattle.std.specs.Cmp.Lexicographic.{bytes_decides}
use Rattle.oidc_types.specs.{TextAndUrl}
use Rattle.oidc_oauth2.specs.Replies.{◌>>◌, ◌when◌}
use Rattle.oidc_login.specs.Types.{SeenLoginClient}
use Rattle.oidc_login.specs.Logins.{Pending, HasEndpoints}
use Rattle.oidc_login.specs.Changes.{text_of, has_same_text, difference_of, IsSameClient, Differs}
use Rattle.oidc_login.specs.declared.errors.ChangeError.{ChangeError}
use Rattle.oidc_login.specs.declared.errors.ChangeError.TheVariants as change

-- ---- texts of endpoints

pub same_texts : (a b : Option TextAndUrl) → has_same_text a b ≡ true → text_of a ≡ text_of b
same_texts None None e = refl
same_texts None (Some b) e = cc
same_texts (Some a) None e = cc
same_texts (Some a) (Some b) e = ap Some ((bytes_decides a.text b.text).0 e)

pub texts_same : (a b : Option TextAndUrl) → text_of a ≡ text_of b → has_same_text a b ≡ true
texts_same None None e = refl
texts_same None (Some b) e = cc
texts_same (Some a) None e = cc
texts_same (Some a) (Some b) e = let text : a.text ≡ b.text = cc in (bytes_decides a.text b.text).1 text

not_both : (b : Bool) → b ≡ true → b ≡ false → (A : Type 0) → A
not_both b is isn't A = cc

other_text : (a b : List ℕ) → bytes_eq a b ≡ false → a ≢ b
other_text a b isn't e = not_both _ ((bytes_decides a b).1 e) isn't _

other_texts : (a b : Option TextAndUrl) → has_same_text a b ≡ false → text_of a ≢ text_of b
other_texts a b isn't e = not_both _ (texts_same a b e) isn't _

-- ---- the store

some_same : (a b : Option TextAndUrl) → has_same_text a b ≡ true → is_some a ≡ true → is_some b ≡ true
some_same None b e h = cc
some_same (Some a) None e h = cc
some_same (Some a) (Some b) e h = refl

pub endpoints_kept : (a b : Option TextAndUrl) (m : Pending) → has_same_text a b ≡ true → HasEndpoints a m → HasEndpoints b m
endpoints_kept a b m e has state login found demanded = some_same a b e (has state login found demanded)

-- ---- the rows, over five tests

abbrev rows : Bool → Bool → Bool → Bool → Bool → Result (Unit {0}) ChangeError
rows a b c d e = do
  change.ClientId when not a
  change.Issuer when not b
  change.AuthorizationEndpoint when not c
  change.TokenEndpoint when not d
  change.UserInfoEndpoint when not e
  Ok tt

all_true : (a b c d e : Bool) → rows a b c d e ≡ Ok tt → (a ≡ true) × (b ≡ true) × (c ≡ true) × (d ≡ true) × (e ≡ true)
all_true true true true true true h = (refl, refl, refl, refl, refl)
all_true true true true true false h = cc
all_true true true true false e h = cc
all_true true true false d e h = cc
all_true true false c d e h = cc
all_true false b c d e h = cc

all_passed : (a b c d e : Bool) → a ≡ true → b ≡ true → c ≡ true → d ≡ true → e ≡ true → rows a b c d e ≡ Ok tt
all_passed true true true true true p q r s t = refl
all_passed true true true true false p q r s t = cc
all_passed true true true false e p q r s t = cc
all_passed true true false d e p q r s t = cc
all_passed true false c d e p q r s t = cc
all_passed false b c d e p q r s t = cc

abbrev Fails : Bool → Bool → Bool → Bool → Bool → ChangeError → Type 0
Fails a b c d e change.ClientId = a ≡ false
Fails a b c d e change.Issuer = b ≡ false
Fails a b c d e change.AuthorizationEndpoint = c ≡ false
Fails a b c d e change.TokenEndpoint = d ≡ false
Fails a b c d e change.UserInfoEndpoint = e ≡ false

first_false : (a b c d e : Bool) (x : ChangeError) → rows a b c d e ≡ Err x → Fails a b c d e x
first_false true true true true true x h = cc
first_false true true true true false x h = let is : change.UserInfoEndpoint ≡ x = cc in subst (Fails true true true true false) is refl
first_false true true true false e x h = let is : change.TokenEndpoint ≡ x = cc in subst (Fails true true true false e) is refl
first_false true true false d e x h = let is : change.AuthorizationEndpoint ≡ x = cc in subst (Fails true true false d e) is refl
first_false true false c d e x h = let is : change.Issuer ≡ x = cc in subst (Fails true false c d e) is refl
first_false false b c d e x h = let is : change.ClientId ≡ x = cc in subst (Fails false b c d e) is refl

-- ---- two clients

module _ {Key : Type 0} (old new : SeenLoginClient Key) where
  abbrev client_ids : Bool
  client_ids = bytes_eq old.client_id new.client_id

  abbrev issuers : Bool
  issuers = bytes_eq old.issuer.text new.issuer.text

  abbrev authorizations : Bool
  authorizations = has_same_text old.auth_uri new.auth_uri

  abbrev tokens : Bool
  tokens = has_same_text old.token_uri new.token_uri

  abbrev infos : Bool
  infos = has_same_text old.user_info_url new.user_info_url

  passed : difference_of old new ≡ Ok tt
      → (client_ids ≡ true) × (issuers ≡ true) × (authorizations ≡ true) × (tokens ≡ true) × (infos ≡ true)
  unfolding difference_of
  passed h = all_true client_ids issuers authorizations tokens infos h

  pub same_client : difference_of old new ≡ Ok tt → IsSameClient old new
  same_client h = let p = passed h in record {
    client_id = (bytes_decides old.client_id new.client_id).0 p.0;
    issuer = (bytes_decides old.issuer.text new.issuer.text).0 p.1;
    auth_uri = same_texts old.auth_uri new.auth_uri p.2;
    token_uri = same_texts old.token_uri new.token_uri p.3;
    user_info_url = same_texts old.user_info_url new.user_info_url p.4;
  }

  pub has_info : difference_of old new ≡ Ok tt → has_same_text old.user_info_url new.user_info_url ≡ true
  has_info h = (passed h).4

  pub no_difference : IsSameClient old new → difference_of old new ≡ Ok tt
  unfolding difference_of
  no_difference s = all_passed client_ids issuers authorizations tokens infos
      ((bytes_decides old.client_id new.client_id).1 s.client_id)
      ((bytes_decides old.issuer.text new.issuer.text).1 s.issuer)
      (texts_same old.auth_uri new.auth_uri s.auth_uri)
      (texts_same old.token_uri new.token_uri s.token_uri)
      (texts_same old.user_info_url new.user_info_url s.user_info_url)

  failed : (x : ChangeError) → difference_of old new ≡ Err x → Fails client_ids issuers authorizations tokens infos x
  unfolding difference_of
  failed x h = first_false client_ids issuers authorizations tokens infos x h

  pub differs : (x : ChangeError) → difference_of old new ≡ Err x → Differs old new x
  differs change.ClientId h = other_text _ _ (failed change.ClientId h)
  differs change.Issuer h = other_text _ _ (failed change.Issuer h)
  differs change.AuthorizationEndpoint h = other_texts _ _ (failed change.AuthorizationEndpoint h)
  differs change.TokenEndpoint h = other_texts _ _ (failed change.TokenEndpoint h)
  differs change.UserInfoEndpoint h = other_texts _ _ (failed change.UserInfoEndpoint h)

  -- a client that is refused isn't the same
  pub refused_is_other : (x : ChangeError) → difference_of old new ≡ Err x → IsSameClient old new → (A : Type 0) → A
  refused_is_other x h s A = let passes : difference_of old new ≡ Ok tt = no_difference s in let clash : Ok tt ≡ Err x = sym passes ∙ h in cc
