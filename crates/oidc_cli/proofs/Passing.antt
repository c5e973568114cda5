-- Bytes that are taken and put, call after call.
use Rattle.std.proofs.Common.{◌≡◌, ℕ, ◌+◌, List, [], ◌++◌, Option, None, Some, option_map, take, length, min, Result, Ok, Err, OnOk, OnErr, refl, sym, ap, subst, ◌∙◌, append_assoc, append-nil, arith}
use Rattle.std.proofs.Math.Seq.{take-append_seam, take-append-add}
use Rattle.std.proofs.lemmas.List.{take-append-le}
use Rattle.std.proofs.lemmas.Grind.{common_steps}
use Rattle.oidc_cli.specs.Sources.{Takes}
use Rattle.oidc_cli.specs.Sinks.{Puts, PutsPrefix, PutsSoFar}

pub Takes-append : (a b c : Option (List ℕ)) (xs ys : List ℕ) → Takes a b xs → Takes b c ys → Takes a c (xs ++ ys)
Takes-append a b None xs ys p q = p ∙ ap (option_map (λ left. xs ++ left)) q
Takes-append a b (Some left) xs ys p q = p ∙ ap (option_map (λ l. xs ++ l)) q ∙ ap Some (sym (append_assoc xs ys left))

pub Puts-nil : (known : Option (List ℕ)) → Puts known known []
Puts-nil None = refl
Puts-nil (Some held) = ap Some (sym (append-nil held))

pub ruleset puts_nothing = (Puts-nil)

pub Puts-append : (a b c : Option (List ℕ)) (xs ys : List ℕ) → Puts a b xs → Puts b c ys → Puts a c (xs ++ ys)
Puts-append None b c xs ys p q = q ∙ ap (option_map (λ h. h ++ ys)) p
Puts-append (Some held) b c xs ys p q = q ∙ ap (option_map (λ h. h ++ ys)) p ∙ ap Some (append_assoc held xs ys)

-- nothing begins each text, a text begins itself, and what begins a text begins those that begin with it
pub prefix_none : (known : Option (List ℕ)) (text : List ℕ) → PutsPrefix known known text
prefix_none known text = (0, Puts-nil known)

pub prefix_whole : (a b : Option (List ℕ)) (xs ys : List ℕ) → Puts a b xs → PutsPrefix a b (xs ++ ys)
prefix_whole a b xs ys p = (length xs, subst (Puts a b) (sym (take-append_seam xs ys)) p)

take_within : (n : ℕ) (xs ys : List ℕ) → (m : ℕ) × (take m (xs ++ ys) ≡ take n xs)
take_within n xs ys =
    (min n (length xs), take-append-le (min n (length xs)) xs ys (omega arith) ∙ grind (arith, common_steps))

pub prefix_front : (a b : Option (List ℕ)) (xs ys : List ℕ) → PutsPrefix a b xs → PutsPrefix a b (xs ++ ys)
prefix_front a b xs ys p = let m = take_within p.0 xs ys in (m.0, subst (Puts a b) (sym m.1) p.1)

pub prefix_behind : (a b c : Option (List ℕ)) (xs ys : List ℕ) → Puts a b xs → PutsPrefix b c ys → PutsPrefix a c (xs ++ ys)
prefix_behind a b c xs ys p q =
    (length xs + q.0, subst (Puts a c) (sym (take-append-add xs ys q.0)) (Puts-append a b c xs (take q.0 ys) p q.1))

-- ---- a text that is put part by part

pub begun : (known : Option (List ℕ)) (whole : List ℕ) → PutsSoFar known known whole whole
begun known whole = record { done = []; done_put = Puts-nil known; done_and_left = refl }

pub all_put : (a b : Option (List ℕ)) (whole : List ℕ) → Puts a b whole → PutsSoFar a b [] whole
all_put a b whole p = record { done = whole; done_put = p; done_and_left = append-nil whole }

-- what is left first goes behind what is held
pub pushed : (a b : Option (List ℕ)) (held part held' later left whole : List ℕ) → held' ≡ held ++ part → left ≡ part ++ later → PutsSoFar a b (held ++ left) whole
    → PutsSoFar a b (held' ++ later) whole
pushed a b held part held' later left whole grown first so_far = record {
  done = so_far.done;
  done_put = so_far.done_put;
  done_and_left = ap (λ l. so_far.done ++ l) (ap (λ t. t ++ later) grown ∙ append_assoc held part later ∙ ap (λ t. held ++ t) (sym first)) ∙ so_far.done_and_left;
}

-- some of what was held is put, and the rest stays before what is left
pub put_part : (a b c : Option (List ℕ)) (held held' left whole : List ℕ) → PutsSoFar a b (held ++ left) whole → PutsSoFar b c held' held → PutsSoFar a c (held' ++ left) whole
put_part a b c held held' left whole so_far more = record {
  done = so_far.done ++ more.done;
  done_put = Puts-append a b c so_far.done more.done so_far.done_put more.done_put;
  done_and_left = append_assoc so_far.done more.done (held' ++ left)
      ∙ ap (λ l. so_far.done ++ l) (sym (append_assoc more.done held' left) ∙ ap (λ l. l ++ left) more.done_and_left)
      ∙ so_far.done_and_left;
}

pub put_all : (a b c : Option (List ℕ)) (part whole : List ℕ) → PutsSoFar a b part whole → Puts b c part → Puts a c whole
put_all a b c part whole so_far more =
    subst (Puts a c) so_far.done_and_left (Puts-append a b c so_far.done part so_far.done_put more)

pub put_prefix : (a b c : Option (List ℕ)) (part left whole : List ℕ) → PutsSoFar a b (part ++ left) whole → PutsPrefix b c part → PutsPrefix a c whole
put_prefix a b c part left whole so_far more =
    subst (PutsPrefix a c) so_far.done_and_left
    (prefix_behind a b c so_far.done (part ++ left) so_far.done_put (prefix_front b c part left more))

pub put_last_prefix : (a b c : Option (List ℕ)) (part whole : List ℕ) → PutsSoFar a b part whole → PutsPrefix b c part → PutsPrefix a c whole
put_last_prefix a b c part whole so_far more =
    subst (PutsPrefix a c) so_far.done_and_left (prefix_behind a b c so_far.done part so_far.done_put more)

pub prefix_so_far : (a b : Option (List ℕ)) (left whole : List ℕ) → PutsSoFar a b left whole → PutsPrefix a b whole
prefix_so_far a b left whole so_far = subst (PutsPrefix a b) so_far.done_and_left (prefix_whole a b so_far.done left so_far.done_put)

pub on_err : {T E : Type 0} (r : Result T E) (P : Type 0) → P → OnErr r P
on_err (Ok x) P p = tt
on_err (Err e) P p = p

pub on_ok_weaker : {T E : Type 0} (r : Result T E) (P Q : Type 0) → (P → Q) → OnOk r P → OnOk r Q
on_ok_weaker (Ok x) P Q f p = f p
on_ok_weaker (Err e) P Q f p = tt

pub on_err_weaker : {T E : Type 0} (r : Result T E) (P Q : Type 0) → (P → Q) → OnErr r P → OnErr r Q
on_err_weaker (Ok x) P Q f p = tt
on_err_weaker (Err e) P Q f p = f p
