-- A walk down a table: one rule for each word of a row.
use Rattle.std.proofs.Common.{◌≡◌, Bool, true, false, Option, None, Some, Result, Ok, Err, refl}
use Rattle.oidc_oauth2.specs.Replies.{◌>>=◌, ◌>>◌, ◌when◌, ◌for◌, ◌or◌, ◌or_as◌}

-- a value has P, or the refusal has Q
abbrev pub Walk : {A F : Type 0} → (A → Type 0) → (F → Type 0) → Result A F → Type 0
Walk P Q (Ok x) = P x
Walk P Q (Err e) = Q e

module _ {B F : Type 0} (P : B → Type 0) (Q : F → Type 0) where
  pub at_or : {A : Type 0} (o : Option A) (e : F) (f : A → Result B F)
      → (o ≡ None → Q e) → ((x : A) → o ≡ Some x → Walk P Q (f x)) → Walk P Q ((o or e) >>= f)
  at_or None e f row_holds goes_on = row_holds refl
  at_or (Some x) e f row_holds goes_on = goes_on x refl

  pub at_or_as : {A E : Type 0} (r : Result A E) (row : E → F) (f : A → Result B F)
      → ((e : E) → r ≡ Err e → Q (row e)) → ((x : A) → r ≡ Ok x → Walk P Q (f x)) → Walk P Q ((r or_as row) >>= f)
  at_or_as (Err e) row f row_holds goes_on = row_holds e refl
  at_or_as (Ok x) row f row_holds goes_on = goes_on x refl

  pub at_when : (b : Bool) (e : F) (next : Result B F)
      → (b ≡ true → Q e) → (b ≡ false → Walk P Q next) → Walk P Q ((e when b) >> next)
  at_when true e next row_holds goes_on = row_holds refl
  at_when false e next row_holds goes_on = goes_on refl

  pub at_for : {E : Type 0} (o : Option E) (row : E → F) (next : Result B F)
      → ((x : E) → o ≡ Some x → Q (row x)) → (o ≡ None → Walk P Q next) → Walk P Q ((row for o) >> next)
  at_for (Some x) row next row_holds goes_on = row_holds x refl
  at_for None row next row_holds goes_on = goes_on refl

-- what is made of a value
module _ {A B F : Type 0} (P : A → Type 0) (R : B → Type 0) (Q : F → Type 0) where
  pub at_value : (r : Result A F) (f : A → Result B F) → Walk P Q r → ((x : A) → P x → Walk R Q (f x)) → Walk R Q (r >>= f)
  at_value (Ok x) f known goes_on = goes_on x known
  at_value (Err e) f known goes_on = known
