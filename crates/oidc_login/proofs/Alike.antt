-- Two stores that are alike at some states: an event of such a state, or of none, is answered alike by both, and an event
-- of another state leaves them alike.
use Rattle.std.proofs.Common.{◌≡◌, ℕ, List, [], Bool, true, false, Option, None, Some, Ok, Err, cond, refl, sym, ap, subst, ◌∙◌}
use Rattle.std.specs.Prelude.{is_some, option_and_then}
use Rattle.std.specs.FinMap as finite
use Rattle.std.proofs.lemmas.Cmp.{nat_list_cmp_total}
use Rattle.url.specs.Parts.{Parts}
use Rattle.oidc_pairs.specs.Pairs.{pairs}
use Rattle.oidc_oauth2.specs.TokenAnswers.{is_over_long}
use Rattle.oidc_oauth2.specs.Replies.{◌>>=◌}
use Rattle.oidc_login.specs.Types.{SeenLoginClient, SiteTypes}
use Rattle.oidc_login.specs.Logins.{SeenLogin, Pending}
use Rattle.oidc_login.specs.Begin.{Begin, Meant as BeginMeant, challenge_or_refusal, url_or_refusal, begin_reply, begin_store}
use Rattle.oidc_login.specs.BeforeRequest.{state_in, login_named_by}
use Rattle.oidc_login.specs.Callback.{taken_login, outcome, callback_store}
use Rattle.oidc_login.specs.Steps.{taken_run}
use Rattle.oidc_login.specs.Events.{Call, Event, begins, calls, begun, called, called_with, begin_step, callback_step, step}
use Rattle.oidc_login.specs.Isolation.{turn_of, state_of, is_pending_in}
use Rattle.oidc_login.proofs.Entries.{ties, same}

-- ---- what an answer takes of the store

challenge_alike : (id : List ℕ) (has_endpoint : Bool) (m n : Pending) (b : Begin) → finite.contains_key m b.request.state ≡ finite.contains_key n b.request.state
    → challenge_or_refusal id has_endpoint m b ≡ challenge_or_refusal id has_endpoint n b
unfolding challenge_or_refusal
challenge_alike id has_endpoint m n b is = rw is refl

taken_alike : {Key : Type 0} (client : SeenLoginClient Key) (m n : Pending) (query : List ℕ) → login_named_by m (pairs query) ≡ login_named_by n (pairs query)
    → taken_login client m query ≡ taken_login client n query
unfolding taken_login
taken_alike client m n query is = rw is refl

-- ---- stores that are alike

module _ (P : List ℕ → Type 0) where
  -- at these states both have the same login, or neither has one
  abbrev pub Alike : Pending → Pending → Type 0
  Alike m n = (state : List ℕ) → P state → finite.get m state ≡ finite.get n state

  -- the state of an event, where it has one, is such a state
  abbrev pub IsAt : Option (List ℕ) → Type 0
  IsAt found = (state : List ℕ) → found ≡ Some state → P state

  abbrev pub IsElsewhere : Option (List ℕ) → Type 0
  IsElsewhere found = (state : List ℕ) → found ≡ Some state → P state → ⊥

  -- ---- the same done to both

  begun_both : (reply : BeginMeant Parts) (m n : Pending) (b : Begin) → Alike m n → Alike (begin_store reply m b) (begin_store reply n b)
  begun_both (Err e) m n b alike = alike
  begun_both (Ok url) m n b alike = λ s at.
      finite.get-insert nat_list_cmp_total m b.request.state _ s
      ∙ ap (cond (ties s b.request.state) (Some _)) (alike s at)
      ∙ sym (finite.get-insert nat_list_cmp_total n b.request.state _ s)

  abbrev taken : Pending → Option (List ℕ) → Pending
  taken m found = elim found [ None ↦ m | Some state ↦ finite.remove m state ]

  called_both : (long : Bool) (found : Option (List ℕ)) (m n : Pending) → Alike m n → Alike (cond long m (taken m found)) (cond long n (taken n found))
  called_both true found m n alike = alike
  called_both false None m n alike = alike
  called_both false (Some q) m n alike = λ s at.
      finite.get-remove nat_list_cmp_total m q s
      ∙ ap (cond (ties s q) None) (alike s at)
      ∙ sym (finite.get-remove nat_list_cmp_total n q s)

  -- ---- what is done to the first alone, elsewhere

  unmoved : (t : Bool) (x y : Option SeenLogin) → (t ≡ true → ⊥) → cond t x y ≡ y
  unmoved true x y apart = absurd (apart refl)
  unmoved false x y apart = refl

  apart : (s q : List ℕ) → P s → (P q → ⊥) → ties s q ≡ true → ⊥
  apart s q at elsewhere tied = elsewhere (subst P (same s q tied) at)

  pub begun_elsewhere : (reply : BeginMeant Parts) (m n : Pending) (b : Begin) → (P b.request.state → ⊥) → Alike m n → Alike (begin_store reply m b) n
  begun_elsewhere (Err e) m n b elsewhere alike = alike
  begun_elsewhere (Ok url) m n b elsewhere alike = λ s at.
      finite.get-insert nat_list_cmp_total m b.request.state _ s
      ∙ unmoved (ties s b.request.state) _ _ (apart s b.request.state at elsewhere)
      ∙ alike s at

  left_elsewhere : (long : Bool) (found : Option (List ℕ)) (m n : Pending) → IsElsewhere found → Alike m n → Alike (cond long m (taken m found)) n
  left_elsewhere true found m n elsewhere alike = alike
  left_elsewhere false None m n elsewhere alike = alike
  left_elsewhere false (Some q) m n elsewhere alike = λ s at.
      finite.get-remove nat_list_cmp_total m q s
      ∙ unmoved (ties s q) _ _ (apart s q at (elsewhere q refl))
      ∙ alike s at

  pub called_elsewhere : (m n : Pending) (c : Call) → IsElsewhere (state_in (pairs c.query)) → Alike m n → Alike (callback_store m c.query) n
  called_elsewhere m n c elsewhere alike = left_elsewhere (is_over_long c.query) (state_in (pairs c.query)) m n elsewhere alike

  -- ---- an event of such a state, or of none

  named_alike : (m n : Pending) (found : Option (List ℕ)) → IsAt found → Alike m n → option_and_then (finite.get m) found ≡ option_and_then (finite.get n) found
  named_alike m n None at alike = refl
  named_alike m n (Some q) at alike = alike q (at q refl)

  held_alike : (m n : Pending) (found : Option (List ℕ)) → IsAt found → Alike m n → is_pending_in m found ≡ is_pending_in n found
  held_alike m n None at alike = refl
  held_alike m n (Some q) at alike = ap is_some (alike q (at q refl))

  module _ {AC GC Key Use : Type 0} (types : SiteTypes AC GC Key Use) (client : SeenLoginClient Key) (m n : Pending) (alike : Alike m n) where
    reply_alike : (b : Begin) → P b.request.state → begin_reply client m b ≡ begin_reply client n b
    reply_alike b at = ap (λ r. r >>= url_or_refusal b.request) (challenge_alike client.client_id (is_some client.user_info_url) m n b (ap is_some (alike b.request.state at)))

    pub begun_alike : (b : Begin) → P b.request.state → Alike (begin_step types client m b).pending (begin_step types client n b).pending
    begun_alike b at =
        subst (λ reply. Alike (begin_step types client m b).pending (begin_store reply n b)) (reply_alike b at)
        (begun_both (begin_reply client m b) m n b alike)

    pub begun_turn : (b : Begin) → P b.request.state → turn_of {AC = AC} {GC = GC} (begins b, begin_step types client m b) ≡ turn_of (begins b, begin_step types client n b)
    begun_turn b at =
        let replies = reply_alike b at in
        let held = ap is_some (begun_alike b at b.request.state at) in
        λ i. record { event = begins b; reply = begun (replies i); sent = []; is_pending = held i }

    pub called_alike : (c : Call) → Alike (callback_step types client m c).pending (callback_step types client n c).pending
    called_alike c = called_both (is_over_long c.query) (state_in (pairs c.query)) m n alike

    pub called_turn : (c : Call) → IsAt (state_in (pairs c.query)) → turn_of (calls c, callback_step types client m c) ≡ turn_of (calls c, callback_step types client n c)
    called_turn c at =
        let runs : outcome types (called_with client m c) c.answers ≡ outcome types (called_with client n c) c.answers =
        ap (taken_run types client c.now c.answers) (taken_alike client m n c.query (named_alike m n (state_in (pairs c.query)) at alike)) in
        let held = held_alike (callback_store m c.query) (callback_store n c.query) (state_in (pairs c.query)) at (called_alike c) in
        λ i. record { event = calls c; reply = called (runs i).reply; sent = (runs i).sent; is_pending = held i }

    -- ---- an event of any kind

    pub step_alike : (event : Event) → IsAt (state_of event) → Alike (step types client m event).pending (step types client n event).pending
    step_alike (begins b) at = begun_alike b (at b.request.state refl)
    step_alike (calls c) at = called_alike c

    pub turn_alike : (event : Event) → IsAt (state_of event) → turn_of (event, step types client m event) ≡ turn_of (event, step types client n event)
    turn_alike (begins b) at = begun_turn b (at b.request.state refl)
    turn_alike (calls c) at = called_turn c at

    pub step_elsewhere : (event : Event) → IsElsewhere (state_of event) → Alike (step types client m event).pending n
    step_elsewhere (begins b) elsewhere = begun_elsewhere (begin_reply client m b) m n b (elsewhere b.request.state refl) alike
    step_elsewhere (calls c) elsewhere = called_elsewhere m n c elsewhere alike
