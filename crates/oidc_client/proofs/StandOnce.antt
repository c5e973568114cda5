-- A challenge stands in an authorization URL; client ID, state, nonce and redirect stand in it once each.
use Rattle.std.proofs.Common.{◌≡◌, ℕ, List, [], ◌∷◌, ◌++◌, All, Option, Some, refl, ap, ◌∙◌, append-nil, lit<}
use Rattle.std.specs.Prelude.{codes, unwrap_or, option_map}
use Rattle.oidc_pairs.specs.Pairs.{pairs, values, values_in, IsTextPair}
use Rattle.oidc_pairs.specs.Form.{form}
use Rattle.oidc_oauth2.specs.ClientAuth.{pair_if}
use Rattle.oidc_user_info.specs.QueryPairs.{given_pairs, joined, spaced}
use Rattle.oidc_client.specs.Authorization.{SeenAuthorization, text_if, managed_names, given_before_extra, given_after_extra, pairs_before_extra, pairs_after_extra, auth_list, auth_url, query_values, at_most_one, HasPair, HasChallenge, IsUnmanagedBeside, StandOnce}
use Rattle.oidc_client.proofs.QueryValues.{pairs_joined, values_in_append, pass_by, one_here, none_among}

-- what holds of each managed name holds of these four
second : (P : List ℕ → Type 0) → All P managed_names → P (codes "client_id")
second P all = all 1 [] (lit< tt)

third : (P : List ℕ → Type 0) → All P managed_names → P (codes "state")
third P all = all 2 [] (lit< tt)

sixth : (P : List ℕ → Type 0) → All P managed_names → P (codes "redirect_uri")
sixth P all = all 5 [] (lit< tt)

eighth : (P : List ℕ → Type 0) → All P managed_names → P (codes "nonce")
eighth P all = all 7 [] (lit< tt)

module _ {Display Prompt ResponseType : Type 0} (display_text : Display → List ℕ) (prompt_text : Prompt → List ℕ)
    (type_text : ResponseType → List ℕ) (r : SeenAuthorization Display Prompt ResponseType) where
  abbrev before : List (List ℕ × List ℕ)
  before = pairs_before_extra display_text prompt_text type_text r

  abbrev after : List (List ℕ × List ℕ)
  after = pairs_after_extra display_text prompt_text type_text r

  abbrev list : List (List ℕ × List ℕ)
  list = auth_list display_text prompt_text type_text r

  abbrev query : List ℕ
  query = unwrap_or r.endpoint.url.query []

  list_is : list ≡ (before ++ r.extra) ++ after
  unfolding auth_list
  list_is = refl

  query_is : (auth_url display_text prompt_text type_text r).query ≡ Some (joined query (form list))
  unfolding auth_list
  query_is = refl

  -- the values of a name are those of the endpoint's query, and of the three lists
  values_of : All IsTextPair list → (name : List ℕ)
      → query_values (auth_url display_text prompt_text type_text r) name
      ≡ query_values r.endpoint.url name ++ ((values_in before name ++ values_in r.extra name) ++ values_in after name)
  values_of texts name =
      ap (λ q. values (unwrap_or q []) name) query_is
      ∙ ap (λ found. values_in found name) (pairs_joined query list texts)
      ∙ values_in_append (pairs query) list name
      ∙ ap (λ l. values_in (pairs query) name ++ values_in l name) list_is
      ∙ ap (λ later. values_in (pairs query) name ++ later)
      (values_in_append (before ++ r.extra) after name
      ∙ ap (λ front. front ++ values_in after name) (values_in_append before r.extra name))

  -- a name that neither the query nor the added pairs have
  own_values : All IsTextPair list → (name : List ℕ) → query_values r.endpoint.url name ≡ [] → values_in r.extra name ≡ []
      → query_values (auth_url display_text prompt_text type_text r) name ≡ values_in before name ++ values_in after name
  own_values texts name in_query in_extra =
      values_of texts name
      ∙ ap (λ front. front ++ ((values_in before name ++ values_in r.extra name) ++ values_in after name)) in_query
      ∙ ap (λ middle. (values_in before name ++ middle) ++ values_in after name) in_extra
      ∙ ap (λ front. front ++ values_in after name) (append-nil (values_in before name))

  -- ---- the four names

  abbrev redirect : Option (List ℕ)
  redirect = option_map (λ u. u.text) r.redirect_uri

  abbrev given_before : List (List ℕ × Option (List ℕ))
  given_before = given_before_extra display_text prompt_text type_text r

  abbrev given_after : List (List ℕ × Option (List ℕ))
  given_after = given_after_extra display_text prompt_text type_text r

  id_before : values_in before (codes "client_id") ≡ r.client_id ∷ []
  id_before =
      ap (λ later. r.client_id ∷ later) (none_among (codes "client_id") given_before (refl, (refl, (refl, (refl, tt)))))

  state_before : values_in before (codes "state") ≡ r.state ∷ []
  state_before =
      ap (λ later. r.state ∷ later) (none_among (codes "state") given_before (refl, (refl, (refl, (refl, tt)))))

  nonce_before : values_in before (codes "nonce") ≡ []
  nonce_before = none_among (codes "nonce") given_before (refl, (refl, (refl, (refl, tt))))

  redirect_before : values_in before (codes "redirect_uri") ≡ at_most_one redirect
  redirect_before =
      let name = codes "redirect_uri" in
      let method = option_map (λ challenge. codes "S256") r.challenge in
      let scope : List (List ℕ × Option (List ℕ)) = (codes "scope", text_if (spaced r.scopes)) ∷ [] in
      let from_redirect = pair_if name redirect ++ given_pairs scope in
      pass_by name (codes "code_challenge") r.challenge (pair_if (codes "code_challenge_method") method ++ from_redirect) refl
      ∙ pass_by name (codes "code_challenge_method") method from_redirect refl
      ∙ one_here name name redirect (given_pairs scope) refl (none_among name scope (refl, tt))

  id_after : values_in after (codes "client_id") ≡ []
  id_after =
      none_among (codes "client_id") given_after (refl, (refl, (refl, (refl, (refl, (refl, (refl, (refl, tt))))))))

  state_after : values_in after (codes "state") ≡ []
  state_after =
      none_among (codes "state") given_after (refl, (refl, (refl, (refl, (refl, (refl, (refl, (refl, tt))))))))

  nonce_after : values_in after (codes "nonce") ≡ r.nonce ∷ []
  nonce_after =
      ap (λ later. r.nonce ∷ later)
      (none_among (codes "nonce") given_after (refl, (refl, (refl, (refl, (refl, (refl, (refl, (refl, tt)))))))))

  redirect_after : values_in after (codes "redirect_uri") ≡ []
  redirect_after =
      none_among (codes "redirect_uri") given_after (refl, (refl, (refl, (refl, (refl, (refl, (refl, (refl, tt))))))))

  -- ---- the challenge

  challenge_before : values_in before (codes "code_challenge") ≡ at_most_one r.challenge
  challenge_before =
      let name = codes "code_challenge" in
      let method = option_map (λ challenge. codes "S256") r.challenge in
      let later : List (List ℕ × Option (List ℕ)) =
      (codes "code_challenge_method", method) ∷ (codes "redirect_uri", redirect) ∷ (codes "scope", text_if (spaced r.scopes)) ∷ [] in
      one_here name name r.challenge (given_pairs later) refl (none_among name later (refl, (refl, (refl, tt))))

  method_before : values_in before (codes "code_challenge_method") ≡ at_most_one (option_map (λ challenge. codes "S256") r.challenge)
  method_before =
      let name = codes "code_challenge_method" in
      let method = option_map (λ challenge. codes "S256") r.challenge in
      let later : List (List ℕ × Option (List ℕ)) = (codes "redirect_uri", redirect) ∷ (codes "scope", text_if (spaced r.scopes)) ∷ [] in
      pass_by name (codes "code_challenge") r.challenge (pair_if name method ++ given_pairs later) refl
      ∙ one_here name name method (given_pairs later) refl (none_among name later (refl, (refl, tt)))

  -- a value that the pairs before the added ones have
  has_pair : All IsTextPair list → (name value : List ℕ) → values_in before name ≡ value ∷ [] → HasPair (auth_url display_text prompt_text type_text r) name value
  has_pair texts name value own = (
    query_values r.endpoint.url name,
    values_in r.extra name ++ values_in after name,
    values_of texts name ∙ ap (λ front. query_values r.endpoint.url name ++ ((front ++ values_in r.extra name) ++ values_in after name)) own,
  )

  pub has_challenge : All IsTextPair list → (challenge : List ℕ) → r.challenge ≡ Some challenge
      → HasChallenge challenge (auth_url display_text prompt_text type_text r)
  has_challenge texts challenge is = record {
    code_challenge = has_pair texts (codes "code_challenge") challenge (challenge_before ∙ ap at_most_one is);
    code_challenge_method = has_pair texts (codes "code_challenge_method") (codes "S256")
        (method_before ∙ ap (λ (o : Option (List ℕ)). at_most_one (option_map (λ challenge. codes "S256") o)) is);
  }

  -- ---- the law

  abbrev InQuery : List ℕ → Type 0
  InQuery name = query_values r.endpoint.url name ≡ []

  abbrev InExtra : List ℕ → Type 0
  InExtra name = values_in r.extra name ≡ []

  module _ (texts : All IsTextPair list) (unmanaged : IsUnmanagedBeside r) where
    one_of : (name : List ℕ) (values : List (List ℕ)) → InQuery name → InExtra name → values_in before name ++ values_in after name ≡ values
        → query_values (auth_url display_text prompt_text type_text r) name ≡ values
    one_of name values in_query in_extra own = own_values texts name in_query in_extra ∙ own

    pub stand_once : StandOnce r (auth_url display_text prompt_text type_text r)
    stand_once = record {
      client_id = one_of (codes "client_id") (r.client_id ∷ []) (second InQuery unmanaged.query) (second InExtra unmanaged.extra)
          (ap (λ front. front ++ values_in after (codes "client_id")) id_before ∙ ap (λ later. r.client_id ∷ later) id_after);
      state = one_of (codes "state") (r.state ∷ []) (third InQuery unmanaged.query) (third InExtra unmanaged.extra) (ap (λ front. front ++ values_in after (codes "state")) state_before ∙ ap (λ later. r.state ∷ later) state_after);
      nonce = one_of (codes "nonce") (r.nonce ∷ []) (eighth InQuery unmanaged.query) (eighth InExtra unmanaged.extra) (ap (λ front. front ++ values_in after (codes "nonce")) nonce_before ∙ nonce_after);
      redirect_uri = one_of (codes "redirect_uri") (at_most_one redirect) (sixth InQuery unmanaged.query) (sixth InExtra unmanaged.extra)
          (ap (λ front. front ++ values_in after (codes "redirect_uri")) redirect_before ∙ ap (λ later. at_most_one redirect ++ later) redirect_after ∙ append-nil (at_most_one redirect));
    }
