-- A callback, return by return: what was handed over, and which reply and requests are meant.
use Rattle.std.proofs.Common.{◌≡◌, ℕ, ℤ, zero, suc, List, [], ◌∷◌, ◌++◌, length, take, drop, Option, None, Some, Result, Ok, Err, refl, sym, ap, subst, ◌∙◌, ◌≤◌, lit≤, arith, append_assoc, inl, inr, ⊎_elim}
use Rattle.std.specs.Prelude.{◌⊎◌, IfOk, IfErr, IsOk, OnOk}
use Rattle.oidc_oauth2.specs.Replies.{Unless, OrMemory, Gives}
use Rattle.oidc_oauth2.specs.Messages.{SeenRequest, SeenAnswer}
use Rattle.oidc_oauth2.specs.Transport.{Log, Script, log_after, first_answer, Plays}
use Rattle.oidc_oauth2.specs.Exchanges.{Known, Exchanged, Follows}
use Rattle.oidc_oauth2.proofs.Runs.{unless_map, or_map, or_known, settled}
use Rattle.oidc_user_info.specs.InfoRequests.{SeenInfoRequest}
use Rattle.oidc_login.specs.Types.{SeenLoginClient, SiteTypes}
use Rattle.oidc_login.specs.Logins.{SeenLogin}
use Rattle.oidc_login.specs.SignedIn.{SeenSignedIn, signed_by}
use Rattle.oidc_login.specs.Errors.{Error, seen, wants_memory, login_errors}
use Rattle.oidc_login.specs.Callback.{Attempt, Meant, SeenTaken, SeenPreparedInfo, LoginRun, replied, taken_login, user_of_answer, prepared_info, user_with_info, demand_run, outcome}
use Rattle.oidc_login.specs.Steps.{prepared_run, taken_run}
use Rattle.oidc_login.specs.Causes.{Asks, AsksNothing, Held, Cause, IsSignedIn}
use Rattle.oidc_login.specs.Runs.{IsItsRequest, AreBothRequests, AreItsRequests, handed_over, Ran}
use Rattle.oidc_login.specs.declared.types.UserInfoDemand.{UserInfoDemand}
use Rattle.oidc_login.specs.declared.errors.LoginError.{LoginError}
use Rattle.oidc_login.proofs.Walks.{Walk}
use Rattle.oidc_login.proofs.NoMemory.{NeverWants}
use Rattle.oidc_login.proofs.Rows as rows
use Rattle.oidc_login.proofs.Causes as causes
use Rattle.oidc_login.proofs.Valid.{signed_of_valid}
use Rattle.oidc_login.proofs.TokenRuns.{preceded_by, token_run}

-- ---- what is meant, or want of memory

pub either : {A E P : Type 0} (result : Result A (LoginError E)) → P → OrMemory login_errors result P
either result p = or_known login_errors result p

-- what a meant result has, a result has
walked_err : {A E : Type 0} (P : A → Type 0) (Q : Error → Type 0) (result : Result A (LoginError E)) (meant : Meant A)
    → Walk P Q meant → Gives login_errors result meant → IfErr result (λ e. Unless (wants_memory e) (Q (seen e)))
walked_err P Q (Ok x) meant walk gives = tt
walked_err P Q (Err e) meant walk gives = unless_map (wants_memory e) (λ is. subst (Walk P Q) is walk) gives

walked_ok : {A E : Type 0} (P : A → Type 0) (Q : Error → Type 0) (result : Result A (LoginError E)) (meant : Meant A)
    → Walk P Q meant → Gives login_errors result meant → IfOk result P
walked_ok P Q (Ok x) meant walk gives = subst (Walk P Q) gives walk
walked_ok P Q (Err e) meant walk gives = tt

meant_ok : {A E : Type 0} (result : Result A (LoginError E)) (x : A) → Gives login_errors result (Ok x) → OrMemory login_errors result (IsOk result)
meant_ok (Ok y) x gives = refl
meant_ok (Err e) x gives = unless_map (wants_memory e) (λ is. cc) gives

-- ---- what was handed over

log_twice : (log : Option Log) (p q : List SeenRequest) (x y : List SeenAnswer) → log_after (log_after log p x) q y ≡ log_after log (p ++ q) (x ++ y)
log_twice None p q x y = refl
log_twice (Some log) p q x y = ap Some (λ i. record { requests = append_assoc log.requests p q i; answers = append_assoc log.answers x y i })

plays_twice : (script mid left : Option Script) (request : SeenRequest) (sent : List SeenRequest) (x : SeenAnswer) (later : List SeenAnswer)
    → Plays script (request ∷ []) (x ∷ []) mid → Plays mid sent later left → Plays script (request ∷ sent) (x ∷ later) left
plays_twice None mid left request sent x later first second = subst (λ (m : Option Script). Plays m sent later left) first second
plays_twice (Some script) None left request sent x later first second = absurd first
plays_twice (Some script) (Some mid) None request sent x later first second = absurd second
plays_twice (Some script) (Some mid) (Some left) request sent x later first second = record {
  gives = λ more. first.gives (sent ++ more) ∙ ap (λ answers. x ∷ answers) (second.gives more);
}

-- ---- the steps with a transport

module _ {A E : Type 0} where
  -- a step before any request refused
  pub refused : {B : Type 0} (run : List SeenAnswer → Meant B → LoginRun A) (old : Known) (e : LoginError E) (m : Meant B) → ((x : Error) → run [] (Err x) ≡ replied (Err x) [])
      → Gives login_errors {A = B} (Err e) m → Follows login_errors (λ answers. run answers m) old old (Err e)
  refused run old e m alone gives =
      settled login_errors (λ answers. run answers m) old (Err e)
      (unless_map (wants_memory e) (λ is. ap (λ r. (run [] r).sent) is ∙ ap (λ (r : LoginRun A). r.sent) (alone (seen e))) gives)
      (unless_map (wants_memory e) (λ is. ap (λ r. (run [] r).reply) is ∙ ap (λ (r : LoginRun A). r.reply) (alone (seen e))) gives)

  -- one request, and what follows it
  pub continued : (whole : SeenAnswer → List SeenAnswer → LoginRun A) (request : SeenRequest) (old mid new : Known) (x : SeenAnswer) (result : Result A (LoginError E))
      → Exchanged old mid request x → Follows login_errors (whole x) mid new result → Follows login_errors (λ answers. preceded_by request (whole (first_answer answers) (drop 1 answers))) old new result
  continued whole request old mid new x result sent later = record {
    answers = x ∷ later.answers;
    logged = later.logged
        ∙ ap (λ l. log_after l (take (length later.answers) (whole x later.answers).sent) later.answers) sent.0
        ∙ log_twice old.log (request ∷ []) (take (length later.answers) (whole x later.answers).sent) (x ∷ []) later.answers;
    plays = plays_twice old.script mid.script new.script request (take (length later.answers) (whole x later.answers).sent) x later.answers sent.1 later.plays;
    answered = omega (arith, later.answered);
    all_sent = or_map login_errors result (λ is. ap suc is) later.all_sent;
    reply = later.reply;
  }

-- ---- user info

module _ {AC GC Key Use E : Type 0} (types : SiteTypes AC GC Key Use) (user : SeenSignedIn AC GC) (old new : Known) (result : Result (SeenSignedIn AC GC) (LoginError E)) where
  one_answered : (asked : SeenPreparedInfo Key) (x : SeenAnswer) → Exchanged old new asked.request x → Gives login_errors result (user_with_info types asked.ask.demand user x)
      → Follows login_errors (λ answers. prepared_run types user answers (Ok asked)) old new result
  one_answered asked x sent gives = record {
    answers = x ∷ [];
    logged = sent.0;
    plays = sent.1;
    answered = lit≤ tt;
    all_sent = or_known login_errors result refl;
    reply = gives;
  }

  -- the answer to the request was judged
  pub info_answered : (asked : SeenPreparedInfo Key) (ask : SeenInfoRequest Key) (request : SeenRequest) → record { ask = ask; request = request } ≡ asked → (x : SeenAnswer)
      → Exchanged old new request x → Gives login_errors result (user_with_info types ask.demand user x) → Follows login_errors (λ answers. prepared_run types user answers (Ok asked)) old new result
  info_answered asked ask request same x sent gives =
      subst (λ (o : SeenPreparedInfo Key). Follows login_errors (λ answers. prepared_run types user answers (Ok o)) old new result) same (one_answered (record { ask = ask; request = request }) x sent gives)

  -- the request was made
  pub info_asked : (client : SeenLoginClient Key) (demand : UserInfoDemand) (asked : SeenPreparedInfo Key) → prepared_info client demand user ≡ Ok asked
      → Follows login_errors (λ answers. prepared_run types user answers (Ok asked)) old new result → Follows login_errors (demand_run types client (Some demand) user) old new result
  info_asked client demand asked is x = subst (λ (m : Meant (SeenPreparedInfo Key)). Follows login_errors (λ answers. prepared_run types user answers m) old new result) (sym is) x

module _ {AC GC Key Use E : Type 0} (types : SiteTypes AC GC Key Use) (client : SeenLoginClient Key) (user : SeenSignedIn AC GC) (old : Known) where
  -- the request wasn't made
  pub info_refused : (demand : UserInfoDemand) (e : LoginError E) → Gives login_errors {A = SeenPreparedInfo Key} (Err e) (prepared_info client demand user)
      → Follows login_errors (demand_run types client (Some demand) user) old old (Err e)
  info_refused demand e gives = refused (λ answers m. prepared_run types user answers m) old e (prepared_info client demand user) (λ x. refl) gives

  -- no user info is demanded
  pub info_undemanded : Follows (login_errors {E = E}) (demand_run types client None user) old old (Ok user)
  info_undemanded = settled login_errors (demand_run types client None user) old (Ok user) refl refl

-- ---- behind the token request

module _ {AC GC Key Use E : Type 0} (types : SiteTypes AC GC Key Use) (client : SeenLoginClient Key) (login : SeenLogin) (old new : Known) where
  -- the ID token was accepted
  pub token_followed : (m : Meant (SeenSignedIn AC GC)) (user : SeenSignedIn AC GC) (demand : Option UserInfoDemand) (result : Result (SeenSignedIn AC GC) (LoginError E))
      → m ≡ Ok user → demand ≡ login.user_info → Follows login_errors (demand_run types client demand user) old new result → Follows login_errors (λ later. token_run types client login later m) old new result
  token_followed m user demand result is own x =
      subst (λ (n : Meant (SeenSignedIn AC GC)). Follows login_errors (λ later. token_run types client login later n) old new result) (sym is)
      (subst (λ (d : Option UserInfoDemand). Follows login_errors (demand_run types client d user) old new result) own x)

module _ {AC GC Key Use E : Type 0} (types : SiteTypes AC GC Key Use) (client : SeenLoginClient Key) (login : SeenLogin) (old : Known) where
  -- the token answer was refused
  pub token_refused : (m : Meant (SeenSignedIn AC GC)) (e : LoginError E) → Gives login_errors {A = SeenSignedIn AC GC} (Err e) m
      → Follows login_errors (λ later. token_run types client login later m) old old (Err e)
  token_refused m e gives = refused (λ later n. token_run types client login later n) old e m (λ x. refl) gives

module _ {AC GC Key Use E : Type 0} (types : SiteTypes AC GC Key Use) (client : SeenLoginClient Key) (now : ℤ) (old mid new : Known) (result : Result (SeenSignedIn AC GC) (LoginError E)) where
  -- the token request was sent
  pub opened_followed : (o : SeenTaken) (login : SeenLogin) (request : SeenRequest) → record { login = login; request = request } ≡ o → (x : SeenAnswer) → Exchanged old mid request x
      → Follows login_errors (λ later. token_run types client login later (user_of_answer types client now login x)) mid new result → Follows login_errors (λ answers. taken_run types client now answers (Ok o)) old new result
  opened_followed o login request same x sent later =
      subst (λ (p : SeenTaken). Follows login_errors (λ answers. taken_run types client now answers (Ok p)) old new result) same
      (continued (λ y more. token_run types client login more (user_of_answer types client now login y)) request old mid new x result sent later)

-- ---- the whole

module _ {AC GC Key Use : Type 0} (types : SiteTypes AC GC Key Use) (a : Attempt Key) where
  abbrev opens : Meant SeenTaken
  opens = taken_login a.client a.pending a.query

  -- the query asks for the token request of what was opened
  asks : (o : SeenTaken) → opens ≡ Ok o → AsksNothing a → ⊥
  asks o is nothing = nothing o.login o.request (subst (Walk (λ x. Asks a x.login x.request) (Cause types a [])) is (rows.taken_login-walk types a []))

  module _ (answers : List SeenAnswer) where
    -- none, the token request, or both
    abbrev pub Sendable : List SeenRequest → Type 0
    Sendable sent = (sent ≡ []) ⊎ AreItsRequests types a answers sent

    both_sent : (h : Held AC GC) (first : SeenRequest) → Asks a h.login first → (m : Meant (SeenPreparedInfo Key)) → Walk (rows.IsAskedOf types a answers h) (Cause types a answers) m
        → AreItsRequests types a answers (first ∷ (prepared_run types (signed_by h.token h.tokens) (drop 1 answers) m).sent)
    both_sent h first asked (Err e) walk = inl (record { login = h.login; request = first; asked = asked; alone = refl })
    both_sent h first asked (Ok x) walk =
        inr (record { held = h; first = first; asked = asked; ask = x.ask; second = x.request; asked_info = walk; both = refl })

    info_sent : (l : SeenLogin) (first : SeenRequest) → Asks a l first → (user : SeenSignedIn AC GC) → rows.IsHeld types a answers l user → (demand : Option UserInfoDemand) → l.user_info ≡ demand
        → AreItsRequests types a answers (first ∷ (demand_run types a.client demand user (drop 1 answers)).sent)
    info_sent l first asked user x None none = inl (record { login = l; request = first; asked = asked; alone = refl })
    info_sent l first asked user x (Some demand) is =
        let h = rows.held types a answers l x.tokens x.token in
        subst (λ u. AreItsRequests types a answers (first ∷ (prepared_run types u (drop 1 answers) (prepared_info a.client demand u)).sent)) x.own
        (both_sent h first asked (prepared_info a.client demand (signed_by x.token x.tokens)) (rows.prepared_info-walk types a answers h x.fits demand is))

    token_sent : (l : SeenLogin) (first : SeenRequest) → Asks a l first → (m : Meant (SeenSignedIn AC GC)) → Walk (rows.IsHeld types a answers l) (Cause types a answers) m
        → AreItsRequests types a answers (first ∷ (token_run types a.client l (drop 1 answers) m).sent)
    token_sent l first asked (Err e) walk = inl (record { login = l; request = first; asked = asked; alone = refl })
    token_sent l first asked (Ok user) walk = info_sent l first asked user walk l.user_info refl

    opened_sent : (m : Meant SeenTaken) → Walk (λ o. Asks a o.login o.request) (Cause types a answers) m → Sendable (taken_run types a.client a.now answers m).sent
    opened_sent (Err e) walk = inl refl
    opened_sent (Ok o) walk = inr (token_sent o.login o.request walk _ (rows.user_of_answer-walk types a answers o.login o.request walk))

    pub sendable : Sendable (outcome types a answers).sent
    sendable = opened_sent opens (rows.taken_login-walk types a answers)

    -- ---- the first of them

    one_taken : (n : ℕ) (sent : List SeenRequest) → IsItsRequest a sent → (take n sent ≡ []) ⊎ AreItsRequests types a answers (take n sent)
    one_taken zero sent its = inl refl
    one_taken (suc zero) sent its = subst (λ s. (take 1 s ≡ []) ⊎ AreItsRequests types a answers (take 1 s)) (sym its.alone)
        (inr (inl (record { login = its.login; request = its.request; asked = its.asked; alone = refl })))
    one_taken (suc (suc n)) sent its = subst (λ s. (take (suc (suc n)) s ≡ []) ⊎ AreItsRequests types a answers (take (suc (suc n)) s)) (sym its.alone)
        (inr (inl (record { login = its.login; request = its.request; asked = its.asked; alone = refl })))

    first_alone : (sent : List SeenRequest) (b : AreBothRequests types a answers sent) → IsItsRequest a (b.first ∷ [])
    first_alone sent b = record { login = b.held.login; request = b.first; asked = b.asked; alone = refl }

    again : (sent : List SeenRequest) (b : AreBothRequests types a answers sent) → AreBothRequests types a answers (b.first ∷ b.second ∷ [])
    again sent b = record { held = b.held; first = b.first; asked = b.asked; ask = b.ask; second = b.second; asked_info = b.asked_info; both = refl }

    both_taken : (n : ℕ) (sent : List SeenRequest) → AreBothRequests types a answers sent → (take n sent ≡ []) ⊎ AreItsRequests types a answers (take n sent)
    both_taken zero sent b = inl refl
    both_taken (suc zero) sent b = subst (λ s. (take 1 s ≡ []) ⊎ AreItsRequests types a answers (take 1 s)) (sym b.both) (inr (inl (first_alone sent b)))
    both_taken (suc (suc zero)) sent b = subst (λ s. (take 2 s ≡ []) ⊎ AreItsRequests types a answers (take 2 s)) (sym b.both) (inr (inr (again sent b)))
    both_taken (suc (suc (suc n))) sent b =
        subst (λ s. (take (suc (suc (suc n))) s ≡ []) ⊎ AreItsRequests types a answers (take (suc (suc (suc n))) s)) (sym b.both) (inr (inr (again sent b)))

    none_taken : (n : ℕ) (sent : List SeenRequest) → sent ≡ [] → take n sent ≡ []
    none_taken zero sent none = refl
    none_taken (suc n) sent none = ap (take (suc n)) none

    some_taken : (n : ℕ) (sent : List SeenRequest) → AreItsRequests types a answers sent → (take n sent ≡ []) ⊎ AreItsRequests types a answers (take n sent)
    some_taken n sent its = ⊎_elim (one_taken n sent) (both_taken n sent) its

    only_its : (n : ℕ) (sent : List SeenRequest) → Sendable sent → (take n sent ≡ []) ⊎ AreItsRequests types a answers (take n sent)
    only_its n sent may = ⊎_elim (λ none. inl (none_taken n sent none)) (some_taken n sent) may

    none_counted : (sent : List SeenRequest) → sent ≡ [] → length sent ≤ 2
    none_counted sent none = subst (λ (s : List SeenRequest). length s ≤ 2) (sym none) (lit≤ tt)

    one_counted : (sent : List SeenRequest) → IsItsRequest a sent → length sent ≤ 2
    one_counted sent i = subst (λ (s : List SeenRequest). length s ≤ 2) (sym i.alone) (lit≤ tt)

    both_counted : (sent : List SeenRequest) → AreBothRequests types a answers sent → length sent ≤ 2
    both_counted sent b = subst (λ (s : List SeenRequest). length s ≤ 2) (sym b.both) (lit≤ tt)

    pub at_most_two : (sent : List SeenRequest) → (sent ≡ []) ⊎ AreItsRequests types a answers sent → length sent ≤ 2
    at_most_two sent may = ⊎_elim (none_counted sent) (λ its. ⊎_elim (one_counted sent) (both_counted sent) its) may

    take_all : (sent : List SeenRequest) → take (length sent) sent ≡ sent
    take_all [] = refl
    take_all (r ∷ later) = ap (λ s. r ∷ s) (take_all later)

    -- behind an Ok they were all sent
    own_sent : {E : Type 0} (m : Meant SeenTaken) (result : Result (SeenSignedIn AC GC) (LoginError E)) → Walk (λ o. Asks a o.login o.request) (Cause types a answers) m
        → Gives login_errors result (taken_run types a.client a.now answers m).reply → OrMemory login_errors result (length answers ≡ length (taken_run types a.client a.now answers m).sent)
        → OnOk result (AreItsRequests types a answers (take (length answers) (taken_run types a.client a.now answers m).sent))
    own_sent (Err e) (Ok signed) walk gives all = absurd cc
    own_sent (Ok o) (Ok signed) walk gives all =
        let sent = (taken_run types a.client a.now answers (Ok o)).sent in
        subst (AreItsRequests types a answers) (sym (ap (λ n. take n sent) all ∙ take_all sent))
        (token_sent o.login o.request walk _ (rows.user_of_answer-walk types a answers o.login o.request walk))
    own_sent m (Err e) walk gives all = tt

  -- ---- what was handed over and is meant makes the whole

  pub ran : {E : Type 0} → NeverWants types → (old new : Known) (result : Result (SeenSignedIn AC GC) (LoginError E)) → Follows login_errors (outcome types a) old new result → Ran types a old new result
  ran never old new result x =
      let answers = x.answers in
      let walk = rows.outcome-walk types a answers never in
      let only = only_its answers (length answers) (outcome types a answers).sent (sendable answers) in record {
        exchanged = x;
        at_most_two_requests = at_most_two answers (handed_over types a answers) only;
        only_its_requests = only;
        own_requests = own_sent answers opens result (rows.taken_login-walk types a answers) x.reply x.all_sent;
        cause = walked_err (IsSignedIn types a answers) (Cause types a answers) result (outcome types a answers).reply walk x.reply;
        refused = λ e cause. subst (Gives login_errors result) (causes.refused types a answers e cause) x.reply;
        signed_in = walked_ok (IsSignedIn types a answers) (Cause types a answers) result (outcome types a answers).reply walk x.reply;
        signs_in = λ signed is. subst (Gives login_errors result) (causes.signs_in types a answers signed is) x.reply;
        valid = λ is.
            let v = signed_of_valid types a answers is in
            meant_ok result v.0 (subst (Gives login_errors result) (causes.signs_in types a answers v.0 v.1) x.reply);
      }

  -- nothing was sent
  pub unopened : {E : Type 0} → NeverWants types → (old : Known) (e : LoginError E) → Gives login_errors {A = SeenTaken} (Err e) opens → Ran types a old old (Err e)
  unopened never old e gives = ran never old old (Err e) (refused (λ answers m. taken_run types a.client a.now answers m) old e opens (λ x. refl) gives)

  -- what was opened was followed
  pub signed : {E : Type 0} → NeverWants types → (o : SeenTaken) → opens ≡ Ok o → (old new : Known) (result : Result (SeenSignedIn AC GC) (LoginError E))
      → Follows login_errors (λ answers. taken_run types a.client a.now answers (Ok o)) old new result → Ran types a old new result
  signed never o is old new result x = ran never old new result (subst (λ m. Follows login_errors (λ answers. taken_run types a.client a.now answers m) old new result) (sym is) x)

  -- and a query that asks for nothing opens nothing
  pub asks_of : {E : Type 0} (o : SeenTaken) → opens ≡ Ok o → (old new : Known) (result : Result (SeenSignedIn AC GC) (LoginError E))
      → Follows login_errors (λ answers. taken_run types a.client a.now answers (Ok o)) old new result → AsksNothing a → ⊥
  asks_of o is old new result x nothing = asks o is nothing
