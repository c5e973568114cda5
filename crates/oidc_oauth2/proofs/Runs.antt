-- What a run of requests leaves of a transport, step by step.
use Rattle.std.proofs.Common.{◌≡◌, Bool, true, false, List, [], ◌∷◌, length, Option, None, Some, refl, sym, ap, subst, ◌∙◌, arith, append-nil}
use Rattle.std.specs.Prelude.{Result, Ok, Err, IfErr}
use Rattle.oidc_oauth2.specs.Replies.{ErrorMeaning, Unless, OrMemory, Gives}
use Rattle.oidc_oauth2.specs.Messages.{SeenRequest, SeenAnswer}
use Rattle.oidc_oauth2.specs.Transport.{Log, Script, log_after, Plays}
use Rattle.oidc_oauth2.specs.Exchanges.{Known, Exchanged, Untouched, Run, one_request, Follows}

log_kept : (log : Option Log) → log_after log [] [] ≡ log
log_kept None = refl
log_kept (Some log) = ap Some (λ i. record { requests = append-nil log.requests i; answers = append-nil log.answers i })

plays_none : (script : Option Script) → Plays script [] [] script
plays_none None = refl
plays_none (Some script) = record { gives = λ later. refl }

pub unless_map : {A B : Type 0} (test : Bool) → (A → B) → Unless test A → Unless test B
unless_map true f known = tt
unless_map false f known = f known

pub unless : {A : Type 0} (test : Bool) → A → Unless test A
unless true known = tt
unless false known = known

-- where the test holds, any fact is excused
excused : {test : Bool} (P : Type 0) → test ≡ true → Unless test P
excused P holds = subst (λ test. Unless test P) (sym holds) tt

-- nothing went over a transport that is as it was
pub left_alone : (known : Known) → Untouched known known
left_alone known = (refl, plays_none known.script)

-- a fault is blamed on what the answer is blamed on
pub blamed_by : {A E P Q : Type 0} (is_fault : E → Bool) (result : Result A E) → (P → Q) → IfErr result (λ e. is_fault e ≡ true → P) → IfErr result (λ e. is_fault e ≡ true → Q)
blamed_by is_fault (Ok x) f known = tt
blamed_by is_fault (Err e) f known = λ fault. f (known fault)

-- a result that is no fault is blamed on nothing
pub no_fault : {A E : Type 0} (P : Type 0) (is_fault : E → Bool) (result : Result A E) → IfErr result (λ e. is_fault e ≡ false) → IfErr result (λ e. is_fault e ≡ true → P)
no_fault P is_fault (Ok x) known = tt
no_fault P is_fault (Err e) known = λ fault. absurd (cc)

module _ {A E F : Type 0} (errors : ErrorMeaning E F) where
  pub or_map : {P Q : Type 0} (result : Result A E) → (P → Q) → OrMemory errors result P → OrMemory errors result Q
  or_map (Ok x) f known = f known
  or_map (Err e) f known = unless_map (errors.wants_memory e) f known

  pub or_known : {P : Type 0} (result : Result A E) → P → OrMemory errors result P
  or_known (Ok x) known = known
  or_known (Err e) known = unless (errors.wants_memory e) known

  -- there was no memory, before anything was handed over
  pub memory_first : (run : List SeenAnswer → Run A F) (old new : Known) (e : E) → errors.wants_memory e ≡ true → Untouched old new → Follows errors run old new (Err e)
  memory_first run old new e wants kept = record {
    answers = [];
    logged = kept.0 ∙ sym (log_kept old.log);
    plays = kept.1;
    answered = omega arith;
    all_sent = excused _ wants;
    reply = excused _ wants;
  }

  -- nothing is sent
  pub settled : (run : List SeenAnswer → Run A F) (known : Known) (result : Result A E) → OrMemory errors result ((run []).sent ≡ []) → Gives errors result (run []).reply → Follows errors run known known result
  settled run known result none gives = record {
    answers = [];
    logged = sym (log_kept known.log);
    plays = plays_none known.script;
    answered = omega arith;
    all_sent = or_map result (λ is. sym (ap length is)) none;
    reply = gives;
  }

  module _ (reply : SeenAnswer → Result A F) where
    -- the one request isn't made
    pub unmade : (made : Result SeenRequest F) (refusal : F) → made ≡ Err refusal → (known : Known) (result : Result A E) → Gives errors result (Err refusal) → Follows errors (one_request reply made) known known result
    unmade made refusal is known result gives =
        subst (λ made. Follows errors (one_request reply made) known known result) (sym is)
        (settled (one_request reply (Err refusal)) known result (or_known result refl) gives)

    -- the one request took this answer
    pub answered : (made : Result SeenRequest F) (request : SeenRequest) → made ≡ Ok request → (old new : Known) (answer : SeenAnswer) (result : Result A E)
        → Exchanged old new request answer → Gives errors result (reply answer) → Follows errors (one_request reply made) old new result
    answered made request is old new answer result sent gives =
        subst (λ made. Follows errors (one_request reply made) old new result) (sym is) (record {
          answers = answer ∷ [];
          logged = sent.0;
          plays = sent.1;
          answered = omega arith;
          all_sent = or_known result refl;
          reply = gives;
        })
