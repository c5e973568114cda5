-- The table of answers, by what its rows look at.
use Rattle.std.proofs.Common.{◌≡◌, Bool, true, false, ◌&&◌, not, cond, Option, None, Some, Ok, refl, ap, ◌∙◌}
use Rattle.std.specs.Prelude.{is_none, codes}
use Rattle.oidc_pairs.specs.Pairs.{pairs}
use Rattle.oidc_oauth2.specs.Messages.{SeenRequest}
use Rattle.oidc_oauth2.specs.Replies.{◌>>◌, ◌when◌, ◌for◌}
use Rattle.oidc_provider.specs.Grants.{SeenGrant}
use Rattle.oidc_provider.specs.Provider.{SeenProvider}
use Rattle.oidc_provider.specs.Values.{says}
use Rattle.oidc_provider.specs.Answers.{Answer, credentials_in, asks_for_tokens, asks_for_info, is_authenticated, asked_grant, borne_grant, refused, empty, tokens_of, user_info_of, first_row, ◌where_it◌, provider_answer}
use Rattle.oidc_provider.specs.Rows as rows

-- the rows, by what they look at
abbrev pub by_rows : Bool → Bool → Bool → Option SeenGrant → Bool → Option SeenGrant → Answer
by_rows tokens authenticated by_code asked info borne = first_row (do
  refused 401 (codes "invalid_client") when (tokens && not authenticated)
  refused 400 (codes "unsupported_grant_type") when (tokens && not by_code)
  refused 400 (codes "invalid_grant") when (tokens && is_none asked)
  tokens_of for (asked where_it tokens)
  user_info_of for (borne where_it info)
  empty 401 when info
  Ok (empty 404))

pub answer_by_rows : (p : SeenProvider) (r : SeenRequest)
    → provider_answer p r
    ≡ by_rows (asks_for_tokens p r) (is_authenticated p.registrations r) (says (pairs r.body) (codes "grant_type") (codes "authorization_code"))
    (asked_grant p r) (asks_for_info p r) (borne_grant p r)
unfolding provider_answer
answer_by_rows p r = refl

-- ---- a POST to the token endpoint, a GET of user info, and anything else

abbrev for_tokens : Bool → Bool → Option SeenGrant → Answer
for_tokens authenticated by_code asked =
    cond authenticated (cond by_code (rows.redeeming asked) (refused 400 (codes "unsupported_grant_type"))) (refused 401 (codes "invalid_client"))

pub tokens_row : (authenticated by_code : Bool) (asked : Option SeenGrant) (info : Bool) (borne : Option SeenGrant)
    → by_rows true authenticated by_code asked info borne ≡ for_tokens authenticated by_code asked
tokens_row false by_code asked info borne = refl
tokens_row true false asked info borne = refl
tokens_row true true None info borne = refl
tokens_row true true (Some grant) info borne = refl

pub info_row : (authenticated by_code : Bool) (asked borne : Option SeenGrant)
    → by_rows false authenticated by_code asked true borne ≡ rows.info_row_answer borne
info_row authenticated by_code asked None = refl
info_row authenticated by_code asked (Some grant) = refl

pub other_row : (authenticated by_code : Bool) (asked borne : Option SeenGrant)
    → by_rows false authenticated by_code asked false borne ≡ empty 404
other_row authenticated by_code asked borne = refl

-- ---- by the parts of a provider that the rows look at

module _ (p : SeenProvider) (r : SeenRequest) where
  pub tokens_answered : asks_for_tokens p r ≡ true
      → provider_answer p r ≡ rows.token_row_answer (credentials_in r) (pairs r.body) p.registrations p.grants
  tokens_answered asks =
      answer_by_rows p r
      ∙ ap (λ b. by_rows b (is_authenticated p.registrations r) (says (pairs r.body) (codes "grant_type") (codes "authorization_code")) (asked_grant p r) (asks_for_info p r) (borne_grant p r)) asks
      ∙ tokens_row (is_authenticated p.registrations r) (says (pairs r.body) (codes "grant_type") (codes "authorization_code")) (asked_grant p r) (asks_for_info p r) (borne_grant p r)

  pub info_answered : asks_for_tokens p r ≡ false → asks_for_info p r ≡ true
      → provider_answer p r ≡ rows.info_row_answer (borne_grant p r)
  info_answered others asks =
      answer_by_rows p r
      ∙ ap (λ b. by_rows b (is_authenticated p.registrations r) (says (pairs r.body) (codes "grant_type") (codes "authorization_code")) (asked_grant p r) (asks_for_info p r) (borne_grant p r)) others
      ∙ ap (λ b. by_rows false (is_authenticated p.registrations r) (says (pairs r.body) (codes "grant_type") (codes "authorization_code")) (asked_grant p r) b (borne_grant p r)) asks
      ∙ info_row (is_authenticated p.registrations r) (says (pairs r.body) (codes "grant_type") (codes "authorization_code")) (asked_grant p r) (borne_grant p r)

  pub nothing_answered : asks_for_tokens p r ≡ false → asks_for_info p r ≡ false → provider_answer p r ≡ empty 404
  nothing_answered others none =
      answer_by_rows p r
      ∙ ap (λ b. by_rows b (is_authenticated p.registrations r) (says (pairs r.body) (codes "grant_type") (codes "authorization_code")) (asked_grant p r) (asks_for_info p r) (borne_grant p r)) others
      ∙ ap (λ b. by_rows false (is_authenticated p.registrations r) (says (pairs r.body) (codes "grant_type") (codes "authorization_code")) (asked_grant p r) b (borne_grant p r)) none
      ∙ other_row (is_authenticated p.registrations r) (says (pairs r.body) (codes "grant_type") (codes "authorization_code")) (asked_grant p r) (borne_grant p r)

  -- the rows look at settings, registrations and grants alone
  pub answer_of_parts : provider_answer (rows.provider_of p.settings p.registrations p.grants) r ≡ provider_answer p r
  unfolding provider_answer
  answer_of_parts = refl
