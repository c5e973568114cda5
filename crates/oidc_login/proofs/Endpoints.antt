-- User info is demanded only where the client has an endpoint for it, after each begin and each callback.
use Rattle.std.proofs.Common.{◌≡◌, ℕ, List, Bool, true, false, Option, None, Some, Ok, Err, sym, subst, ◌∙◌}
use Rattle.std.specs.Prelude.{is_some, IsTrue, OnOk, OnErr, if◌then◌else◌}
use Rattle.std.specs.FinMap as finite
use Rattle.std.specs.Ordering.{nat_cmp}
use Rattle.std.specs.Cmp.Lexicographic.{slice_cmp}
use Rattle.std.proofs.lemmas.Cmp.{nat_list_cmp_total}
use Rattle.url.specs.Parts.{Parts}
use Rattle.oidc_types.specs.{TextAndUrl}
use Rattle.oidc_login.specs.Logins.{SeenLogin, Pending, HasEndpoints}
use Rattle.oidc_login.specs.Begin.{Begin, Meant, Begins, reply_by, with_login}
use Rattle.oidc_login.specs.BeforeRequest.{state_in}
use Rattle.oidc_login.specs.Callback.{without_named}
use Rattle.oidc_login.proofs.Begun.{endpoint_there}
use Rattle.oidc_login.proofs.Entries.{ties, chosen, unchosen}

module _ (endpoint : Option TextAndUrl) where
  abbrev Demands : SeenLogin → Type 0
  Demands login = IsTrue (is_some login.user_info) → IsTrue (is_some endpoint)

  pub none_pending : HasEndpoints endpoint finite.empty
  none_pending state login found demanded = let none : None ≡ Some login = sym (finite.get-empty (slice_cmp nat_cmp) state) ∙ found in cc

  inserted : (m : Pending) (k : List ℕ) (v : SeenLogin) → HasEndpoints endpoint m → Demands v → HasEndpoints endpoint (finite.insert m k v)
  inserted m k v has own q l e = chosen Demands (ties q k) v (finite.get m q) l own (has q l) (sym (finite.get-insert nat_list_cmp_total m k v q) ∙ e)

  removed : (m : Pending) (k : List ℕ) → HasEndpoints endpoint m → HasEndpoints endpoint (finite.remove m k)
  removed m k has q l e = unchosen Demands (ties q k) (finite.get m q) l (has q l) (sym (finite.get-remove nat_list_cmp_total m k q) ∙ e)

  pub begun : (client_id : List ℕ) (old new : Pending) (b : Begin) (result : Meant Parts) → Begins result (reply_by client_id (is_some endpoint) old b)
      → OnOk result (new ≡ with_login old b) → OnErr result (new ≡ old) → HasEndpoints endpoint old → HasEndpoints endpoint new
  begun client_id old new b (Ok url) gives ok err has =
      subst (HasEndpoints endpoint) (sym ok) (inserted old b.request.state _ has (endpoint_there client_id (is_some endpoint) old b url gives))
  begun client_id old new b (Err e) gives ok err has = subst (HasEndpoints endpoint) (sym err) has

  taken : (m : Pending) (state : Option (List ℕ)) → HasEndpoints endpoint m → HasEndpoints endpoint (elim state [ None ↦ m | Some s ↦ finite.remove m s ])
  taken m None has = has
  taken m (Some s) has = removed m s has

  left : (spent : Bool) (m : Pending) (query : List (List ℕ × List ℕ)) → HasEndpoints endpoint m → HasEndpoints endpoint (if spent then without_named m query else m)
  left true m query has = taken m (state_in query) has
  left false m query has = has

  pub called : (spent : Bool) (old new : Pending) (query : List (List ℕ × List ℕ)) → new ≡ (if spent then without_named old query else old)
      → HasEndpoints endpoint old → HasEndpoints endpoint new
  called spent old new query is has = subst (HasEndpoints endpoint) (sym is) (left spent old query has)
