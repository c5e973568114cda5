-- Lemmas that other crates may cite: slots that look at a member one after another, members that are
-- split back, values that hold no float, and that what a program holds is UTF-8.
pub use Rattle.oidc_readers.proofs.NoFloat.{whole_value, whole_members, free_append, standing_free}
pub use Rattle.oidc_readers.proofs.Utf8.{value_has_texts, utf8_pushed}
pub use Rattle.oidc_readers.proofs.WrittenBack.{written_split_back}
use Rattle.std.proofs.Common.{◌≡◌, ℕ, List, [], ◌∷◌, ◌++◌, Option, Result, Ok, Err, sym, ap, subst, ◌∙◌}
use Rattle.std.specs.Option.{option_or}
use Rattle.std.specs.Result.{result_and}
use Rattle.oidc_members.specs.declared.refusal.Refusal.{Refusal}
use Rattle.oidc_members.specs.declared.refusal.ParseError.{ParseError}
use Rattle.oidc_members.specs.declared.refusal.ParseError.TheVariants.{Refused, Memory}
use Rattle.oidc_members.specs.Seen.{SeenMember}
use Rattle.oidc_readers.specs.declared.slots.Once.{Once}
use Rattle.oidc_readers.specs.Passes.{Took}
use Rattle.oidc_readers.specs.Kinds.{Kind}
use Rattle.oidc_readers.specs.Fields.{field, judged}
use Rattle.oidc_readers.specs.Slots.{slot}

and_took : (f g : Option Refusal) (r s : Result (Unit {0}) ParseError) (P Q : Type 0) → Took f r P → Took g s Q → Took (option_or f g) (result_and r s) (P × Q)
and_took f g (Ok u) (Ok v) P Q a b = (ap (λ o. option_or o g) a.0 ∙ b.0, (a.1, b.1))
and_took f g (Ok u) (Err (Refused refusal)) P Q a b = ap (λ o. option_or o g) a.0 ∙ b
and_took f g (Ok u) (Err Memory) P Q a b = tt
and_took f g (Err (Refused refusal)) s P Q a b = ap (λ o. option_or o g) a
and_took f g (Err Memory) s P Q a b = tt

-- One field and then another have looked at a member: the first fault is the answer.
pub both_took : (f g : Option Refusal) (r s t : Result (Unit {0}) ParseError) (P Q : Type 0) → t ≡ result_and r s → Took f r P → Took g s Q → Took (option_or f g) t (P × Q)
both_took f g r s t P Q is a b = let Has : Result (Unit {0}) ParseError → Type 0 = λ x. Took (option_or f g) x (P × Q) in subst Has (sym is) (and_took f g r s P Q a b)

-- what is kept by all of them
pub kept_by : (f : Option Refusal) (r : Result (Unit {0}) ParseError) (P Q : Type 0) → (P → Q) → Took f r P → Took f r Q
kept_by f (Ok u) P Q all t = (t.0, all t.1)
kept_by f (Err (Refused refusal)) P Q all t = t
kept_by f (Err Memory) P Q all t = tt

-- What a slot answers under one name is its answer under an equal one.
pub named_took : {V : Type 0} (kind : Kind V) (name other : List ℕ) (old new : Once V) (before : List SeenMember) (m : SeenMember) (r : Result (Unit {0}) ParseError)
    → name ≡ other
    → (old ≡ slot (field name kind) before → Took (judged (field name kind) before m) r (new ≡ slot (field name kind) (before ++ m ∷ [])))
    → old ≡ slot (field other kind) before → Took (judged (field other kind) before m) r (new ≡ slot (field other kind) (before ++ m ∷ []))
named_took kind name other old new before m r is took =
    subst (λ n. old ≡ slot (field n kind) before → Took (judged (field n kind) before m) r (new ≡ slot (field n kind) (before ++ m ∷ []))) is took
