-- How the logic stores metadata: as the tuples of their fields. No clause speaks of it.
use Rattle.std.specs.Prelude.{ℕ, List, Bool, Option, refl}
use Rattle.std.specs.Coded.{Coded, code_by, coded×, coded_option, coded_list, coded_ℕ, coded_bool}
use Rattle.oidc_types.specs.UrlText.{TextAndUrl, text_and_url_code}
use Rattle.oidc_discovery.specs.Metadata.{SeenNeeded, SeenMetadata}

abbrev texts_code : Coded (List (List ℕ))
texts_code = coded_list (coded_list coded_ℕ)

-- a URL that may be absent
abbrev Part : Type 0
Part = Option TextAndUrl

abbrev part_code : Coded Part
part_code = coded_option text_and_url_code

abbrev pub needed_fields_code : Coded SeenNeeded
needed_fields_code =
    code_by (TextAndUrl × (TextAndUrl × (TextAndUrl × List (List ℕ))))
    (coded× text_and_url_code (coded× text_and_url_code (coded× text_and_url_code texts_code)))
    (λ n. (n.issuer, (n.authorization_endpoint, (n.jwks_uri, n.signing_algorithms))))
    (λ p. record { issuer = p.0; authorization_endpoint = p.1.0; jwks_uri = p.1.1.0; signing_algorithms = p.1.1.1 })
    (λ _. refl)

abbrev pub metadata_code : Coded SeenMetadata
metadata_code =
    code_by (SeenNeeded × (Part × (Part × (Part × (Option (List (List ℕ)) × Option Bool)))))
    (coded× needed_fields_code
    (coded× part_code (coded× part_code (coded× part_code (coded× (coded_option texts_code) (coded_option coded_bool))))))
    (λ m. (m.needed, (m.token_endpoint, (m.userinfo_endpoint, (m.end_session_endpoint, (m.challenge_methods, m.iss_parameter))))))
    (λ p. record {
      needed = p.0;
      token_endpoint = p.1.0;
      userinfo_endpoint = p.1.1.0;
      end_session_endpoint = p.1.1.1.0;
      challenge_methods = p.1.1.1.1.0;
      iss_parameter = p.1.1.1.1.1;
    })
    (λ _. refl)
