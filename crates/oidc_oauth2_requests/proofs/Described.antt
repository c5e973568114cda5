-- The request that exchanges a code is one of the description of all.
use Rattle.std.proofs.Common.{◌≡◌, [], ◌∷◌, ◌++◌, Bool, true, ap, sym, ◌∙◌, arith, append-nil}
use Rattle.std.specs.Prelude.{Option, codes, if◌then◌else◌}
use Rattle.oidc_oauth2.specs.Messages.{SeenRequest}
use Rattle.oidc_oauth2.specs.ClientAuth.{client_pairs, pair_if}
use Rattle.oidc_oauth2.specs.TokenAnswers.{is_empty}
use Rattle.oidc_oauth2.specs.Requests.{SeenCodeRequest, code_request, grant_pairs, posted}
use Rattle.oidc_oauth2_requests.specs.FormRequests.{Pairs, form_request, of_code, scope_pairs}

-- no scopes are no pair
empty_is_empty : is_empty [] ≡ true
empty_is_empty = grind arith

abbrev scopes_by : Bool → Pairs
scopes_by empty = if empty then [] else (codes "scope", []) ∷ []

scopeless : scope_pairs [] ≡ []
scopeless = ap scopes_by empty_is_empty

module _ (r : SeenCodeRequest) where
  abbrev with_own : Pairs → Option SeenRequest
  with_own own = posted r.address r.client (own ++ client_pairs r.client ++ pair_if (codes "redirect_uri") r.redirect_uri ++ r.extra)

  abbrev with_scopes : Pairs → Option SeenRequest
  with_scopes scopes = with_own (grant_pairs r ++ scopes)

  pub code_described : code_request r ≡ form_request (of_code r)
  unfolding code_request form_request
  code_described = ap with_own (sym (append-nil (grant_pairs r))) ∙ ap with_scopes (sym scopeless)
