-- The row that a request falls under.
use Rattle.std.proofs.Common.{◌≡◌, ℕ, List, true, false, Option, Result, Ok, Err, sym, ap, subst, ◌∙◌}
use Rattle.std.specs.Prelude.{IfOk}
use Rattle.oidc_pairs.specs.Pairs.{pairs}
use Rattle.oidc_oauth2.specs.Messages.{SeenRequest}
use Rattle.oidc_provider.specs.Provider.{SeenProvider}
use Rattle.oidc_provider.specs.Answers.{Answer, credentials_in, asks_for_tokens, asks_for_info, empty, provider_answer}
use Rattle.oidc_provider.specs.Rows as rows
use Rattle.oidc_provider.proofs.Table.{tokens_answered, info_answered, nothing_answered, answer_of_parts}

module _ (p : SeenProvider) (r : SeenRequest) where
  -- by what was found of a request
  pub posted : {R E : Type 0} (answer_of : R → Answer) (credentials : Option (List ℕ)) (result : Result R E) → credentials ≡ credentials_in r → asks_for_tokens p r ≡ true
      → IfOk result (λ row. answer_of row ≡ rows.token_row_answer credentials (pairs r.body) p.registrations p.grants)
      → IfOk result (λ row. answer_of row ≡ provider_answer p r)
  posted answer_of credentials (Ok row) own asks is =
      is ∙ ap (λ o. rows.token_row_answer o (pairs r.body) p.registrations p.grants) own ∙ sym (tokens_answered p r asks)
  posted answer_of credentials (Err e) own asks is = tt

  pub got : (answer : Answer) (credentials : Option (List ℕ)) → credentials ≡ credentials_in r → asks_for_tokens p r ≡ false → asks_for_info p r ≡ true
      → answer ≡ rows.info_row_answer (rows.borne_by p.grants credentials) → answer ≡ provider_answer p r
  got answer credentials own others asks is =
      is ∙ ap (λ o. rows.info_row_answer (rows.borne_by p.grants o)) own ∙ sym (info_answered p r others asks)

  pub neither : asks_for_tokens p r ≡ false → asks_for_info p r ≡ false → empty 404 ≡ provider_answer p r
  neither others none = sym (nothing_answered p r others none)

  -- what holds of the answer of the row holds of the provider's
  pub by_row : (answer : Answer) (P : Answer → Type 0) → answer ≡ provider_answer (rows.provider_of p.settings p.registrations p.grants) r → P answer → P (provider_answer p r)
  by_row answer P is known = subst P (is ∙ answer_of_parts p r) known
