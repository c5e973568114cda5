-- The first login meets all that the theorem on logins over a provider double rests on.
use Rattle.std.proofs.Common.{◌≡◌, inr, ℕ, List, [], ◌∷◌, Bool, true, cond, Option, None, Some, Result, Ok, refl, sym, ap, ◌∙◌, arith}
use Rattle.std.specs.Prelude.{codes, pos, ◌<ℤ◌, is_some}
use Rattle.std.specs.FinMap as finite
use Rattle.std.specs.Ordering.{nat_cmp}
use Rattle.std.specs.Cmp.Lexicographic.{slice_cmp, bytes_decides}
use Rattle.std.proofs.lemmas.Int.{ints}
use Rattle.std.proofs.lemmas.Cmp.{nat_list_cmp_total}
use Rattle.std.proofs.lemmas.Map.Text.{is_eq-slice_cmp}
use Rattle.std.proofs.lemmas.List.Elements.{All-nil}
use Rattle.url.specs.Parts.{serialize}
use Rattle.url.specs.Parser.{parse_url}
use Rattle.url.proofs.OnLiterals.{url_on_literals}
use Rattle.oidc_members.specs.Seen.{SeenMember, OutSeen}
use Rattle.oidc_members.specs.declared.refusal.Refusal.{Refusal}
use Rattle.oidc_claims.specs.Seen.{only_subject}
use Rattle.oidc_claims.specs.Write.{IsInRange}
use Rattle.oidc_claims.specs.declared.additional.EmptyAdditionalClaims.{EmptyAdditionalClaims}
use Rattle.oidc_id_token_claims.specs.RoundTrip.{IsTokenInRange}
use Rattle.oidc_user_info.specs.RoundTrip.{IsInfoInRange}
use Rattle.oidc_oauth2.specs.Requests.{is_address}
use Rattle.oidc_oauth2.specs.Pkce.{s256}
use Rattle.oidc_client.specs.Authorization.{query_values}
use Rattle.oidc_login.specs.Logins.{SeenLogin}
use Rattle.oidc_provider.specs.Grants.{SeenGrant}
use Rattle.oidc_provider.specs.Issuing.{claims_for}
use Rattle.oidc_provider.specs.SignIn.{login_of_begin, allowed_for, IsPending, IsUrlOf, IsProviderOf, MayBeDemanded, IsLoginOver, IsHonestLogin, IsGrantable}
use Rattle.tests_of_provider.specs.Literals.{address, own_metadata, own_client, own_settings, own_registration, own_provider, own_request, own_verifier, own_demand, own_begin, own_url, own_logins, own_claims, own_info, own_grant, own_moment}
use Rattle.tests_of_provider.proofs.FirstBegin.{ascii, challenge_is, values_are, stand_once, has_challenge}

-- ---- its addresses

issuer_read : parse_url None (codes "https://example") ≡ Ok (address (codes "https://example")).url
unfolding url_on_literals
issuer_read = refl

token_is_address : is_address (serialize (address (codes "https://example/token")).url) ≡ true
unfolding url_on_literals
token_is_address = refl

-- ---- the begin is pending

found : (state : List ℕ) (login : SeenLogin) → finite.get {R = slice_cmp nat_cmp} (finite.insert finite.empty state login) state ≡ Some login
found state login =
    finite.get-insert nat_list_cmp_total finite.empty state login state
    ∙ ap (λ (same : Bool). cond same (Some login) (finite.get {R = slice_cmp nat_cmp} finite.empty state))
    (is_eq-slice_cmp state state ∙ (bytes_decides state state).1 refl)

pending : IsPending own_logins own_begin
unfolding own_logins own_begin own_request own_client own_metadata
pending = record {
  pending = found (codes "CSRF123") (login_of_begin own_begin);
  own_client = refl;
  verifier_text = ascii own_verifier refl;
}

pub url_of_begin : IsUrlOf own_begin own_url
unfolding own_begin
url_of_begin = record { once = stand_once; challenge = has_challenge }

-- ---- the claims are in range

only_in_range : (subject : List ℕ) → IsInRange {GC = List ℕ} (only_subject subject)
only_in_range subject = record {
  name = tt;
  given_name = tt;
  family_name = tt;
  middle_name = tt;
  nickname = tt;
  profile = tt;
  picture = tt;
  website = tt;
  updated_at = tt;
}

abbrev pub nothing : EmptyAdditionalClaims → List OutSeen
nothing claims = []

token_in_range : IsTokenInRange nothing (claims_for own_settings (allowed_for own_registration own_begin) own_claims)
unfolding own_settings own_registration own_begin own_claims
token_in_range = record {
  issuer = issuer_read;
  expiration = (pos 2000, refl);
  issue_time = (pos 900, refl);
  auth_time = tt;
  standard_claims = only_in_range (codes "u1");
  values = All-nil _;
  names = All-nil _;
}

info_in_range : IsInfoInRange nothing own_info
unfolding own_info
info_in_range = record { issuer = λ issuer is. absurd cc; standard_claims = only_in_range (codes "u1"); values = All-nil _ }

later : pos 1_000_000_000_000 <ℤ pos 2_000_000_000_000
later = omega (arith, ints)

-- ---- its provider

module _ (additional : List SeenMember → Result EmptyAdditionalClaims Refusal) (gender : SeenMember → Result (List ℕ) Refusal) where
  own : IsProviderOf additional gender nothing own_provider own_client own_registration
  unfolding own_provider own_settings own_registration own_client own_metadata
  own = record {
    issuer = refl;
    own_id = refl;
    own_secret = refl;
    token = record {
      endpoint = address (codes "https://example/token");
      own_endpoint = refl;
      same_address = refl;
      address = token_is_address;
    };
    allows_hs256 = refl;
  }

  demanded : MayBeDemanded additional gender nothing own_settings own_client own_info own_demand
  unfolding own_settings own_client own_metadata
  demanded = record {
    unsigned_allowed = refl;
    endpoint = record {
      endpoint = address (codes "https://example/info");
      own_endpoint = refl;
      same_address = refl;
      address = refl;
    };
    in_range = info_in_range;
  }

  pub over : IsLoginOver additional gender nothing own_provider own_logins own_grant own_moment own_begin own_registration
  unfolding own_provider own_logins own_grant own_claims own_begin
  over = record {
    pending = pending;
    provider = own;
    info = inr (own_demand, refl, demanded);
    in_range = token_in_range;
    unexpired = later;
  }

  unfoldable pub honest : IsHonestLogin additional gender nothing own_provider own_logins own_url own_grant own_moment
  honest = record { begin = own_begin; registration = own_registration; login = over; own_url = url_of_begin }

-- ---- and it may be granted

challenge_stands : query_values own_url (codes "code_challenge") ≡ s256 own_verifier ∷ []
challenge_stands = values_are (codes "code_challenge") ∙ ap (λ challenge. challenge ∷ []) (sym challenge_is)

pub grantable : IsGrantable own_provider own_registration own_begin own_url own_grant
unfolding own_provider own_registration own_begin own_request own_client own_metadata own_grant own_claims own_info
grantable = record {
  response_type = values_are (codes "response_type");
  challenge = challenge_stands;
  method = values_are (codes "code_challenge_method");
  redirect = address (codes "https://site/back");
  own_redirect = refl;
  same_redirect = refl;
  one_subject = refl;
  new_code = ap (λ (o : Option SeenGrant). is_some o) (finite.get-empty (slice_cmp nat_cmp) (codes "c1"));
  new_token = ap (λ (o : Option (List ℕ)). is_some o) (finite.get-empty (slice_cmp nat_cmp) (codes "abc"));
  token_text = refl;
}
