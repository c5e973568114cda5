-- What stands at the id of a session that is opened, and of one that is closed.
use Rattle.std.proofs.Common.{◌≡◌, ℕ, ℤ, List, Bool, true, false, cond, Option, None, Some, Result, Ok, Err, refl, sym, ap, subst, ◌∙◌, arith}
use Rattle.std.specs.Prelude.{int_lt, ◌≤ℤ◌, is_some, IsSome, IfSome, OnOk}
use Rattle.std.specs.FinMap as finite
use Rattle.std.specs.Ordering.{is_eq}
use Rattle.std.proofs.lemmas.Cmp.{nat_list_cmp_total, tied_itself}
use Rattle.std.proofs.lemmas.Int.{ints}
use Rattle.oidc.specs.Sessions.{SeenSession, Sessions, Kept, if_live, session_at, Opening, with_session}

-- ---- a session that is opened

put_here : (sessions : Sessions) (o : Opening) → finite.get (with_session sessions o) o.id ≡ Some o.session
put_here sessions o =
    finite.get-insert nat_list_cmp_total sessions o.id o.session o.id
    ∙ (λ i. cond (is_eq (tied_itself nat_list_cmp_total o.id i)) (Some o.session) (finite.get sessions o.id))

not_less : (a b : ℤ) → int_lt a b ≡ false → b ≤ℤ a
not_less a b h = grind (arith, ints)

live : (now : ℤ) (session : SeenSession) (b : Bool) → int_lt now session.end ≡ b → (session.end ≤ℤ now → ⊥) → is_some (cond b (Some session) None) ≡ true
live now session true is later = refl
live now session false is later = absurd (later (not_less now session.end is))

-- one whose end is later is found
found_there : (sessions : Sessions) (o : Opening) → (o.session.end ≤ℤ o.now → ⊥) → IsSome (session_at (with_session sessions o) o.id o.now)
found_there sessions o later =
    ap (λ found. is_some (if_live o.now found)) (put_here sessions o) ∙ live o.now o.session (int_lt o.now o.session.end) refl later

-- So it is after a call that would have refused an end which isn't later.
pub found_after : {E : Type 0} (r : Result (Unit {0}) E) (late : E) (o : Opening) (old left : Kept) (id : List ℕ) → o.id ≡ id
    → OnOk r (left ≡ record old { sessions = with_session old.sessions o }) → (o.session.end ≤ℤ o.now → r ≡ Err late) → OnOk r (IsSome (session_at left.sessions id o.now))
found_after (Ok u) late o old left id same opened refused =
    subst (λ (k : Kept). IsSome (session_at k.sessions id o.now)) (sym opened)
    (subst (λ (q : List ℕ). IsSome (session_at (with_session old.sessions o) q o.now)) same (found_there old.sessions o (λ h. let e = refused h in cc)))
found_after (Err e) late o old left id same opened refused = tt

-- ---- a session that is closed

gone_there : (sessions : Sessions) (id : List ℕ) → finite.get (finite.remove sessions id) id ≡ None
gone_there sessions id =
    finite.get-remove nat_list_cmp_total sessions id id
    ∙ (λ i. cond (is_eq (tied_itself nat_list_cmp_total id i)) None (finite.get sessions id))

pub gone_after : {V : Type 0} (id_of : V → List ℕ) (visit : Option V) (old left : Kept)
    → IfSome visit (λ v. left ≡ record old { sessions = finite.remove old.sessions (id_of v) }) → IfSome visit (λ v. finite.get left.sessions (id_of v) ≡ None)
gone_after id_of None old left closed = tt
gone_after id_of (Some v) old left closed = ap (λ (k : Kept). finite.get k.sessions (id_of v)) closed ∙ gone_there old.sessions (id_of v)
