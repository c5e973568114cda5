-- Replies: a value, or the refusal of the first line that holds. And what a result says of the reply that is meant.
use Rattle.std.specs.Prelude.{◌≡◌, Bool, true, false, Option, None, Some, Result, Ok, Err}
pub use Rattle.oidc_readers.specs.Records.{◌>>=◌}

-- ---- words for lines

infixl 10 ◌>>◌
abbrev pub ◌>>◌ : {B F : Type 0} → Result (Unit {0}) F → Result B F → Result B F
(Ok x) >> next = next
(Err e) >> next = Err e

-- this refusal, where the test holds
infixl 12 ◌when◌
abbrev pub ◌when◌ : {F : Type 0} → F → Bool → Result (Unit {0}) F
e when true = Err e
e when false = Ok tt

-- the refusal for what was found, where something was
infixl 12 ◌for◌
abbrev pub ◌for◌ : {A F : Type 0} → (A → F) → Option A → Result (Unit {0}) F
line for None = Ok tt
line for (Some x) = Err (line x)

-- the value, or this refusal
infixl 12 ◌or◌
abbrev pub ◌or◌ : {A F : Type 0} → Option A → F → Result A F
(Some x) or e = Ok x
None or e = Err e

-- the value, or the refusal that says why there is none
infixl 12 ◌or_as◌
abbrev pub ◌or_as◌ : {A E F : Type 0} → Result A E → (E → F) → Result A F
(Ok x) or_as line = Ok x
(Err e) or_as line = Err (line e)

-- ---- results

-- What an error means: what is seen of it, whatever the transport's own error was; whether it is want of memory;
-- and whether the transport failed.
pub record ErrorMeaning (E F : Type 0) : Type 0 where
  pub seen : E → F
  pub wants_memory : E → Bool
  pub is_fault : E → Bool

-- the fact, unless the test holds
abbrev pub Unless : Bool → Type 0 → Type 0
Unless true Fact = Unit {0}
Unless false Fact = Fact

module _ {E F : Type 0} (errors : ErrorMeaning E F) where
  abbrev pub seen_result : {A : Type 0} → Result A E → Result A F
  seen_result (Ok x) = Ok x
  seen_result (Err e) = Err (errors.seen e)

  -- the fact holds, or the result is want of memory
  abbrev pub OrMemory : {A : Type 0} → Result A E → Type 0 → Type 0
  OrMemory (Ok x) Fact = Fact
  OrMemory (Err e) Fact = Unless (errors.wants_memory e) Fact

  -- the result is the reply that is meant, or want of memory
  abbrev pub Gives : {A : Type 0} → Result A E → Result A F → Type 0
  Gives result reply = OrMemory result (reply ≡ seen_result result)
