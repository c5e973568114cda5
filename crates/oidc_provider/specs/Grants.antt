-- What a provider double has granted (RFC 6749 sections 1.3.1 and 4.1.2, RFC 7636 section 4.4).
use Rattle.std.specs.Prelude.{ℕ, List, Bool, true, Option, None, Some, option_and_then, refl}
use Rattle.std.specs.Coded.{Coded, code_by, coded_ℕ, coded_bool, coded_list, coded×}
use Rattle.std.specs.FinMap as finite
use Rattle.std.specs.Ordering.{nat_cmp}
use Rattle.std.specs.Cmp.Lexicographic.{slice_cmp}

-- a grant: whose it is, the redirect and the challenge of its authorization request, its code and its access token, the
-- bodies that answer the two requests, and whether its code was redeemed
pub record SeenGrant : Type 0 where
  pub client : List ℕ
  pub redirect : List ℕ
  pub challenge : List ℕ
  pub code : List ℕ
  pub token : List ℕ
  pub token_body : List ℕ
  pub info_body : List ℕ
  pub redeemed : Bool

-- the grants by their codes, and the codes by their access tokens
pub record SeenGrants : Type 0 where
  pub by_code : finite.FinMap (slice_cmp nat_cmp) SeenGrant
  pub codes : finite.FinMap (slice_cmp nat_cmp) (List ℕ)

abbrev pub no_grants : SeenGrants
no_grants = record { by_code = finite.empty; codes = finite.empty }

-- the grant of a code, and that of an access token
abbrev pub grant_of_code : SeenGrants → List ℕ → Option SeenGrant
grant_of_code grants code = finite.get grants.by_code code

abbrev pub grant_of_token : SeenGrants → List ℕ → Option SeenGrant
grant_of_token grants token = option_and_then (grant_of_code grants) (finite.get grants.codes token)

-- a grant has this code, or this access token
abbrev pub has_code : SeenGrants → List ℕ → Bool
has_code grants code = finite.contains_key grants.by_code code

abbrev pub has_token : SeenGrants → List ℕ → Bool
has_token grants token = finite.contains_key grants.codes token

-- the grants with one more
abbrev pub with_grant : SeenGrants → SeenGrant → SeenGrants
with_grant grants grant = record {
  by_code = finite.insert grants.by_code grant.code grant;
  codes = finite.insert grants.codes grant.token grant.code;
}

-- the grants by their codes, where this one under a code, if any, is redeemed
abbrev pub marked : finite.FinMap (slice_cmp nat_cmp) SeenGrant → List ℕ → Option SeenGrant
    → finite.FinMap (slice_cmp nat_cmp) SeenGrant
marked by_code code None = by_code
marked by_code code (Some grant) = finite.insert by_code code (record grant { redeemed = true })

-- the same grants, where that of this code, if any, is redeemed
abbrev pub redeemed_by : SeenGrants → Option (List ℕ) → SeenGrants
redeemed_by grants None = grants
redeemed_by grants (Some code) =
    record grants { by_code = marked grants.by_code code (grant_of_code grants code) }

-- ---- how the logic stores them

abbrev text_code : Coded (List ℕ)
text_code = coded_list coded_ℕ

abbrev pub grant_code : Coded SeenGrant
grant_code =
    code_by (List ℕ × (List ℕ × (List ℕ × (List ℕ × (List ℕ × (List ℕ × (List ℕ × Bool)))))))
    (coded× text_code (coded× text_code (coded× text_code (coded× text_code (coded× text_code (coded× text_code (coded× text_code coded_bool)))))))
    (λ g. (g.client, (g.redirect, (g.challenge, (g.code, (g.token, (g.token_body, (g.info_body, g.redeemed))))))))
    (λ p. record {
      client = p.0;
      redirect = p.1.0;
      challenge = p.1.1.0;
      code = p.1.1.1.0;
      token = p.1.1.1.1.0;
      token_body = p.1.1.1.1.1.0;
      info_body = p.1.1.1.1.1.1.0;
      redeemed = p.1.1.1.1.1.1.1;
    })
    (λ _. refl)

abbrev pub grants_code : Coded SeenGrants
grants_code =
    code_by (finite.FinMap (slice_cmp nat_cmp) SeenGrant × finite.FinMap (slice_cmp nat_cmp) (List ℕ))
    (coded× (finite.code text_code grant_code) (finite.code text_code text_code))
    (λ g. (g.by_code, g.codes)) (λ p. record { by_code = p.0; codes = p.1 }) (λ _. refl)
