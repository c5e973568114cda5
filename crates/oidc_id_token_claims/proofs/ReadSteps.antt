-- One step of reading after another.
use Rattle.std.proofs.Common.{◌≡◌, Result, Ok, Err, sym, ap, subst}
use Rattle.oidc_members.specs.Answers.{Answers}
use Rattle.oidc_members.specs.declared.refusal.Refusal.{Refusal}
use Rattle.oidc_members.specs.declared.refusal.ParseError.{ParseError}
use Rattle.oidc_members.specs.declared.refusal.ParseError.TheVariants.{Refused, Memory}
use Rattle.oidc_readers.specs.Records.{◌>>=◌}

-- a step that refuses
pub stops : {A B : Type 0} (o : Result A Refusal) (f : A → Result B Refusal) (e : ParseError) → Answers {A = A} o (Err e) → Answers {A = B} (o >>= f) (Err e)
stops o f (Refused refusal) h = ap (λ x. x >>= f) h
stops o f Memory h = tt

-- a step that gives a value
pub gives : {A B : Type 0} (o : Result A Refusal) (f : A → Result B Refusal) (x : A) (answer : Result B ParseError) → o ≡ Ok x → Answers (f x) answer → Answers (o >>= f) answer
gives {A} o f x answer is h = subst (λ (o : Result A Refusal). Answers (o >>= f) answer) (sym is) h
