-- A run whose reply is made of another's.
use Rattle.std.proofs.Common.{◌≡◌, ◌≤◌, Bool, true, false, List, length, Option, None, Some, Result, Ok, Err, refl, sym, ap, subst}
use Rattle.std.specs.Prelude.{take, option_map, IfOk, IfErr, IsSomeAnd}
use Rattle.oidc_oauth2.specs.Messages.{SeenRequest, SeenAnswer}
use Rattle.oidc_oauth2.specs.Transport.{log_after, Plays}
use Rattle.oidc_oauth2.specs.Replies.{ErrorMeaning, Unless, OrMemory, Gives}
use Rattle.oidc_oauth2.specs.Exchanges.{Known, Run, Follows}
use Rattle.oidc_oauth2.proofs.Runs.{unless_map, or_known}
use Rattle.oidc_device.specs.Logins.{answered_by}
use Rattle.oidc_device.proofs.Walks.{Walk}

by_test : (b : Bool) (P X : Type 0) → (b ≡ true → X) → (P → X) → Unless b P → X
by_test true P X wants known given = wants refl
by_test false P X wants known given = known given

module _ {A B E D F G : Type 0} (errors : ErrorMeaning E F) (others : ErrorMeaning D G) where
  pub all_known : (polled : Result A E) (result : Result B D) (P : Type 0) → IfErr polled (λ e. errors.wants_memory e ≡ true → OrMemory others result P)
      → OrMemory errors polled P → OrMemory others result P
  all_known (Ok x) result P memory known = or_known others result known
  all_known (Err e) result P memory known = by_test (errors.wants_memory e) P (OrMemory others result P) memory (or_known others result) known

  module _ (run : List SeenAnswer → Run A F) (reply : Result A F → Result B G) (other : List SeenAnswer → Run B G) (same : (answers : List SeenAnswer) → other answers ≡ answered_by reply (run answers)) where
    pub same_sent : (answers : List SeenAnswer) → (run answers).sent ≡ (other answers).sent
    same_sent answers = ap (λ (r : Run B G). r.sent) (sym (same answers))

    pub same_reply : (answers : List SeenAnswer) → reply (run answers).reply ≡ (other answers).reply
    same_reply answers = ap (λ (r : Run B G). r.reply) (sym (same answers))

    -- the result of the other is that of the first
    abbrev pub follows_by : (old new : Known) (polled : Result A E) (result : Result B D)
        → ((r : Result A F) → Gives errors polled r → Gives others result (reply r))
        → ((P : Type 0) → IfErr polled (λ e. errors.wants_memory e ≡ true → OrMemory others result P))
        → Follows errors run old new polled → Follows others other old new result
    follows_by old new polled result gives memory followed = record {
      answers = followed.answers;
      logged =
          subst (λ sent. new.log ≡ log_after old.log (take (length followed.answers) sent) followed.answers) (same_sent followed.answers) followed.logged;
      plays =
          subst (λ sent. Plays old.script (take (length followed.answers) sent) followed.answers new.script) (same_sent followed.answers) followed.plays;
      answered = subst (λ (sent : List SeenRequest). length followed.answers ≤ length sent) (same_sent followed.answers) followed.answered;
      all_sent =
          all_known polled result _ (memory _)
          (subst (λ (sent : List SeenRequest). OrMemory errors polled (length followed.answers ≡ length sent)) (same_sent followed.answers) followed.all_sent);
      reply = subst (Gives others result) (same_reply followed.answers) (gives _ followed.reply);
    }

-- ---- a reply that rests on something, and a result that is it

module _ {B D G : Type 0} (errors : ErrorMeaning D G) (P : B → Type 0) (Q : G → Type 0) where
  same_ok : (x y : B) → ◌≡◌ {A = Result B G} (Ok x) (Ok y) → x ≡ y
  same_ok x y is = cc

  same_err : (x y : G) → ◌≡◌ {A = Result B G} (Err x) (Err y) → x ≡ y
  same_err x y is = cc

  never_same : (x : B) (y : G) → ◌≡◌ {A = Result B G} (Ok x) (Err y) → ⊥
  never_same x y is = cc

  -- what each result rests on
  pub record Rests (result : Result B D) : Type 0 where
    pub held : IfOk result P
    pub cause : IfErr result (λ e. Unless (errors.wants_memory e) (Q (errors.seen e)))

  pub rests : (meant : Result B G) (result : Result B D) → Walk P Q meant → Gives errors result meant → Rests result
  rests (Ok x) (Ok y) walk gives = record { held = subst P (same_ok x y gives) walk; cause = tt }
  rests (Ok x) (Err e) walk gives = record {
    held = tt;
    cause = unless_map (errors.wants_memory e) (λ is. absurd (never_same x (errors.seen e) is)) gives;
  }
  rests (Err f) (Ok y) walk gives = absurd (never_same y f (sym gives))
  rests (Err f) (Err e) walk gives = record {
    held = tt;
    cause = unless_map (errors.wants_memory e) (λ is. subst Q (same_err f (errors.seen e) is) walk) gives;
  }

  -- want of memory rests on nothing
  pub rests_wanting : (e : D) → errors.wants_memory e ≡ true → Rests (Err e)
  rests_wanting e wants = record { held = tt; cause = subst (λ b. Unless b (Q (errors.seen e))) (sym wants) tt }

-- ---- an endpoint that is there

pub endpoint_of : {A : Type 0} (o : Option A) (P : A → Type 0) → IsSomeAnd o P → (x : A) × (o ≡ Some x) × P x
endpoint_of None P h = absurd h
endpoint_of (Some x) P h = (x, refl, h)

pub asked_at : {A B : Type 0} (o : Option A) (x : A) (f : A → B) → o ≡ Some x → option_map f o ≡ Some (f x)
asked_at o x f is = ap (option_map f) is
