-- How the logic stores the claims of a token: as the tuples of their fields. No clause speaks of it.
use Rattle.std.specs.Prelude.{ℕ, ℤ, List, Option, refl}
use Rattle.std.specs.Coded.{Coded, code_by, coded×, coded_option, coded_list, coded_ℕ, coded_ℤ}
use Rattle.oidc_types.specs.UrlText.{TextAndUrl, text_and_url_code}
use Rattle.oidc_claims.specs.Seen.{SeenClaims}
use Rattle.oidc_claims.specs.SeenCode.{seen_claims_code}
use Rattle.oidc_id_token_claims.specs.TokenFields.{SeenOwnClaims, Needed}
use Rattle.oidc_id_token_claims.specs.IdTokenClaims.{SeenIdTokenClaims}

abbrev text_code : Coded (List ℕ)
text_code = coded_list coded_ℕ

-- an optional text
abbrev Part : Type 0
Part = Option (List ℕ)

abbrev part_code : Coded Part
part_code = coded_option text_code

-- who, for whom and when
abbrev Head : Type 0
Head = TextAndUrl × (List (List ℕ) × (ℤ × (ℤ × (Option ℤ))))

abbrev head_code : Coded Head
head_code = coded× text_and_url_code (coded× (coded_list text_code) (coded× coded_ℤ (coded× coded_ℤ (coded_option coded_ℤ))))

abbrev Tail : Type 0
Tail = Part × (Part × (Option (List (List ℕ)) × (Part × (Part × Part))))

abbrev tail_code : Coded Tail
tail_code = coded× part_code (coded× part_code (coded× (coded_option (coded_list text_code)) (coded× part_code (coded× part_code part_code))))

abbrev pub own_code : Coded SeenOwnClaims
own_code =
    code_by (Head × Tail) (coded× head_code tail_code)
    (λ c. (
      (c.issuer, (c.audiences, (c.expiration, (c.issue_time, c.auth_time)))),
      (c.nonce, (c.auth_context_ref, (c.auth_method_refs, (c.authorized_party, (c.access_token_hash, c.code_hash))))),
    ))
    (λ p. record {
      issuer = p.0.0;
      audiences = p.0.1.0;
      expiration = p.0.1.1.0;
      issue_time = p.0.1.1.1.0;
      auth_time = p.0.1.1.1.1;
      nonce = p.1.0;
      auth_context_ref = p.1.1.0;
      auth_method_refs = p.1.1.1.0;
      authorized_party = p.1.1.1.1.0;
      access_token_hash = p.1.1.1.1.1.0;
      code_hash = p.1.1.1.1.1.1;
    })
    (λ _. refl)

abbrev pub needed_code : Coded Needed
needed_code =
    code_by (TextAndUrl × (ℤ × ℤ)) (coded× text_and_url_code (coded× coded_ℤ coded_ℤ))
    (λ n. (n.issuer, (n.expiration, n.issue_time))) (λ p. record { issuer = p.0; expiration = p.1.0; issue_time = p.1.1 }) (λ _. refl)

abbrev pub id_token_claims_code : {AC GC : Type 0} → Coded AC → Coded GC → Coded (SeenIdTokenClaims AC GC)
id_token_claims_code {AC} {GC} additional gender =
    code_by (SeenOwnClaims × (SeenClaims GC × AC))
    (coded× own_code (coded× (seen_claims_code gender) additional))
    (λ c. (c.own, (c.standard_claims, c.additional_claims)))
    (λ p. record { own = p.0; standard_claims = p.1.0; additional_claims = p.1.1 })
    (λ _. refl)
