-- That sessions stay indexed, and what a logout leaves of them.
use Rattle.std.proofs.Common.{◌≡◌, ◌≢◌, ℕ, ℤ, Bool, true, false, cond, List, Option, None, Some, refl, sym, ap, subst, ◌∙◌, String}
use Rattle.std.specs.Borrow.{Bor}
use Rattle.std.specs.List.{list_any}
use Rattle.std.specs.Map.Iter.{deref}
use Rattle.std.specs.String.{string_bytes}
use Rattle.std.specs.Cmp.{nat_eq_equiv}
use Rattle.std.specs.Prelude.{[], ◌∷◌, ◌++◌, map, ◌&&◌, ◌||◌, not, is_some, IfSome, IsSome}
use Rattle.std.specs.FinMap as finite
use Rattle.std.specs.Cmp.Lexicographic.{bytes_decides, lists_equiv}
use Rattle.std.specs.Str.{bytes_eq}
use Rattle.std.proofs.lemmas.Bool.{and_parts, false≢true}
use Rattle.oidc_session.specs.Sessions.{SeenSession, Sessions, ends_after, has_ended, without, SeenLogout, is_asked, ends_session}
use Rattle.oidc_session.specs.Stored.{Names, holds, IsIndexed, is_named_at, left_at}
use Rattle.oidc_session.proofs.Entries.{same_sessions, get_inserted, get_removed, get_without, left_of}

pub same_some : {A : Type 0} (x y : A) → Some x ≡ Some y → x ≡ y
same_some x y e = cc

none_some : {A : Type 0} (x : A) → None ≡ Some x → ⊥
none_some x e = absurd cc

if_some : {A : Type 0} {P Q : A → Type 0} → ((x : A) → P x → Q x) → (o : Option A) → IfSome o P → IfSome o Q
if_some f None p = tt
if_some f (Some x) p = f x p

if_some_at : {A : Type 0} {P : A → Type 0} (o : Option A) → ((x : A) → o ≡ Some x → P x) → IfSome o P
if_some_at None f = tt
if_some_at (Some x) f = f x refl

at_some : {A : Type 0} (P : A → Type 0) (o : Option A) (x : A) → IfSome o P → o ≡ Some x → P x
at_some P None x p e = absurd (none_some x e)
at_some P (Some y) x p e = subst P (same_some y x e) p

-- what is left of one that may be gone was there
left_was : (b : Bool) (found : Option SeenSession) (s : SeenSession) → cond b None found ≡ Some s → found ≡ Some s
left_was true found s e = absurd (none_some s e)
left_was false found s e = e

module _ {Y Z S T : Type 0} where
  -- the ids of these sessions stay where they stood
  abbrev pub KeepsSubjects : Sessions → Names Y Z S T → Names Y Z S T → Type 0
  KeepsSubjects m a b = (q : List ℕ) (s : SeenSession) → finite.get m q ≡ Some s → holds a s.subject q ≡ true → holds b s.subject q ≡ true

  abbrev pub KeepsBehind : Sessions → Names Y Z S T → Names Y Z S T → Type 0
  KeepsBehind m a b = (q n : List ℕ) (s : SeenSession) → finite.get m q ≡ Some s → s.provider_session ≡ Some n → holds a n q ≡ true → holds b n q ≡ true

  -- of sessions among those that were indexed
  pub indexed_among : (m n : Sessions) (a b a' b' : Names Y Z S T) → IsIndexed m a b
      → ((q : List ℕ) (s : SeenSession) → finite.get n q ≡ Some s → finite.get m q ≡ Some s)
      → KeepsSubjects n a a' → KeepsBehind n b b' → IsIndexed n a' b'
  indexed_among m n a b a' b' was among keeps_a keeps_b q s e = (
    keeps_a q s e (was q s (among q s e)).0,
    if_some_at s.provider_session (λ name is. keeps_b q name s e is (at_some (λ name. holds b name q ≡ true) s.provider_session name (was q s (among q s e)).1 is)),
  )

  pub indexed_kept : (m : Sessions) (a b a' b' : Names Y Z S T) → IsIndexed m a b → KeepsSubjects m a a' → KeepsBehind m b b' → IsIndexed m a' b'
  indexed_kept m a b a' b' was keeps_a keeps_b = indexed_among m m a b a' b' was (λ q s e. e) keeps_a keeps_b

  -- where nothing is taken away
  pub indexed_more : (m : Sessions) (a b a' b' : Names Y Z S T) → IsIndexed m a b
      → ((n i : List ℕ) → holds a n i ≡ true → holds a' n i ≡ true) → ((n i : List ℕ) → holds b n i ≡ true → holds b' n i ≡ true) → IsIndexed m a' b'
  indexed_more m a b a' b' was more_a more_b = indexed_kept m a b a' b' was (λ q s e. more_a s.subject q) (λ q n s e is. more_b n q)

  put_at : (b : Bool) (id q : List ℕ) (s t : SeenSession) (found : Option SeenSession) (x y : Names Y Z S T) → bytes_eq id q ≡ b → cond b (Some s) found ≡ Some t
      → holds x s.subject id ≡ true → IfSome s.provider_session (λ name. holds y name id ≡ true)
      → (found ≡ Some t → (holds x t.subject q ≡ true) × IfSome t.provider_session (λ name. holds y name q ≡ true))
      → (holds x t.subject q ≡ true) × IfSome t.provider_session (λ name. holds y name q ≡ true)
  put_at true id q s t found x y is e own behind rest =
      subst (λ z. (holds x t.subject z ≡ true) × IfSome t.provider_session (λ name. holds y name z ≡ true)) ((bytes_decides id q).0 is)
      (subst (λ (u : SeenSession). (holds x u.subject id ≡ true) × IfSome u.provider_session (λ name. holds y name id ≡ true)) (same_some s t e) (own, behind))
  put_at false id q s t found x y is e own behind rest = rest e

  -- a session that stands under its names
  pub indexed_insert : (m : Sessions) (id : List ℕ) (s : SeenSession) (a b : Names Y Z S T) → IsIndexed m a b
      → holds a s.subject id ≡ true → IfSome s.provider_session (λ name. holds b name id ≡ true) → IsIndexed (finite.insert m id s) a b
  indexed_insert m id s a b was own behind q t e =
      put_at (bytes_eq id q) id q s t (finite.get m q) a b refl (sym (get_inserted m id s q) ∙ e) own behind (λ h. was q t h)

  pub indexed_inserted : (m n : Sessions) (id own : List ℕ) (s : SeenSession) (a b a' b' : Names Y Z S T) → IsIndexed m a b
      → ((x i : List ℕ) → holds a x i ≡ true → holds a' x i ≡ true) → ((x i : List ℕ) → holds b x i ≡ true → holds b' x i ≡ true)
      → n ≡ finite.insert m own s → own ≡ id → holds a' s.subject id ≡ true → IfSome s.provider_session (λ name. holds b' name id ≡ true) → IsIndexed n a' b'
  indexed_inserted m n id own s a b a' b' was more_a more_b is same there behind =
      subst (λ z. IsIndexed z a' b') (sym (is ∙ ap (λ k. finite.insert m k s) same))
      (indexed_insert m id s a' b' (indexed_more m a b a' b' was more_a more_b) there behind)

  pub indexed_nothing : (m : Sessions) (a b : Names Y Z S T) → m ≡ finite.empty → IsIndexed m a b
  indexed_nothing m a b is q s e = absurd (none_some s (sym (ap (λ z. finite.get z q) is ∙ finite.get-empty _ q) ∙ e))

  -- ---- sessions that are gone

  pub indexed_remove : (m : Sessions) (id : List ℕ) (a b : Names Y Z S T) → IsIndexed m a b → IsIndexed (finite.remove m id) a b
  indexed_remove m id a b was =
      indexed_among m (finite.remove m id) a b a b was
      (λ q s e. left_was (bytes_eq id q) (finite.get m q) s (sym (get_removed m id q) ∙ e))
      (λ q s e h. h) (λ q n s e is h. h)

standing_at : (gone : SeenSession → Bool) (t s : SeenSession) (b : Bool) → gone t ≡ b → cond (not b) (Some t) None ≡ Some s → (Some t ≡ Some s) × (gone s ≡ false)
standing_at gone t s true is e = absurd (none_some s e)
standing_at gone t s false is e = (e, ap gone (same_some s t (sym e)) ∙ is)

pub standing : (gone : SeenSession → Bool) (found : Option SeenSession) (s : SeenSession) → left_of gone found ≡ Some s → (found ≡ Some s) × (gone s ≡ false)
standing gone None s e = absurd (none_some s e)
standing gone (Some t) s e = standing_at gone t s (gone t) refl e

unended : (b : Bool) → not b ≡ false → b ≡ true
unended true h = refl
unended false h = absurd (false≢true (sym h))

not_ended : (now : ℤ) (s : SeenSession) → has_ended now s ≡ false → ends_after now s ≡ true
not_ended now s h = unended (ends_after now s) h

module _ {Y Z S T : Type 0} where
  -- those that haven't ended
  pub indexed_swept : (m : Sessions) (now : ℤ) (a b a' b' : Names Y Z S T) → IsIndexed m a b
      → ((n i : List ℕ) (s : SeenSession) → finite.get m i ≡ Some s → ends_after now s ≡ true → holds a n i ≡ true → holds a' n i ≡ true)
      → ((n i : List ℕ) (s : SeenSession) → finite.get m i ≡ Some s → ends_after now s ≡ true → holds b n i ≡ true → holds b' n i ≡ true)
      → IsIndexed (without (has_ended now) m) a' b'
  indexed_swept m now a b a' b' was keeps_a keeps_b =
      let left = λ (q : List ℕ) (s : SeenSession) (e : finite.get (without (has_ended now) m) q ≡ Some s). standing (has_ended now) (finite.get m q) s (sym (get_without (has_ended now) m q) ∙ e) in
      indexed_among m (without (has_ended now) m) a b a' b' was
      (λ q s e. (left q s e).0)
      (λ q s e. keeps_a s.subject q s (left q s e).0 (not_ended now s (left q s e).1))
      (λ q n s e is. keeps_b n q s (left q s e).0 (not_ended now s (left q s e).1))

  -- those that a logout leaves
  pub indexed_logout : (m n : Sessions) (logout : SeenLogout) (a b a' b' : Names Y Z S T) → IsIndexed m a b → n ≡ without (ends_session logout) m
      → ((x i : List ℕ) → IsSome (finite.get n i) → holds a x i ≡ true → holds a' x i ≡ true)
      → ((x i : List ℕ) → IsSome (finite.get n i) → holds b x i ≡ true → holds b' x i ≡ true)
      → IsIndexed n a' b'
  indexed_logout m n logout a b a' b' was is keeps_a keeps_b =
      indexed_among m n a b a' b' was
      (λ q s e. (standing (ends_session logout) (finite.get m q) s (sym (ap (λ z. finite.get z q) is ∙ get_without (ends_session logout) m q) ∙ e)).0)
      (λ q s e. keeps_a s.subject q (ap is_some e))
      (λ q x s e same. keeps_b x q (ap is_some e))

-- ---- the sessions that a logout names

left_same : (logout : SeenLogout) (found : Option SeenSession) (among named : Bool) → is_named_at logout found ≡ named → (named ≡ true → among ≡ true)
    → cond (among && named) None found ≡ cond (not named) found None
left_same logout found true true is all = refl
left_same logout found false true is all = absurd (false≢true (all refl))
left_same logout found true false is all = refl
left_same logout found false false is all = refl

named_some : (logout : SeenLogout) (found : Option SeenSession) → is_named_at logout found ≡ true → (s : SeenSession) × (found ≡ Some s) × (ends_session logout s ≡ true)
named_some logout None h = absurd (false≢true h)
named_some logout (Some s) h = (s, refl, h)

-- where each session that is named is among those that are asked
pub logout_left : (logout : SeenLogout) (m n : Sessions) (among : List ℕ → Bool) → ((q : List ℕ) → finite.get n q ≡ left_at logout (among q) (finite.get m q))
    → ((q : List ℕ) (s : SeenSession) → finite.get m q ≡ Some s → ends_session logout s ≡ true → among q ≡ true) → n ≡ without (ends_session logout) m
logout_left logout m n among left all =
    same_sessions n (without (ends_session logout) m) (λ q.
    left q
    ∙ left_same logout (finite.get m q) (among q) (is_named_at logout (finite.get m q)) refl
    (λ h. let s = named_some logout (finite.get m q) h in all q s.0 s.1 s.2)
    ∙ sym (get_without (ends_session logout) m q))

asked_some : (text : List ℕ) (found : Option (List ℕ)) → is_asked (Some text) found ≡ true → found ≡ Some text
asked_some text None h = absurd (false≢true h)
asked_some text (Some own) h = ap Some (sym ((bytes_decides text own).0 h))

module _ {Y Z S T : Type 0} (m : Sessions) (a b : Names Y Z S T) (was : IsIndexed m a b) (logout : SeenLogout) where
  -- one that is named by the provider's session stands under that
  pub named_behind : (name : List ℕ) → logout.provider_session ≡ Some name → (q : List ℕ) (s : SeenSession) → finite.get m q ≡ Some s → ends_session logout s ≡ true → holds b name q ≡ true
  named_behind name is q s e named =
      let parts = and_parts (is_asked logout.subject (Some s.subject)) (is_asked logout.provider_session s.provider_session) named in
      let own = asked_some name s.provider_session (ap (λ x. is_asked x s.provider_session) (sym is) ∙ parts.1) in
      at_some (λ name. holds b name q ≡ true) s.provider_session name (was q s e).1 own

  -- and one that is named by its subject under that
  pub named_subject : (subject : List ℕ) → logout.subject ≡ Some subject → (q : List ℕ) (s : SeenSession) → finite.get m q ≡ Some s → ends_session logout s ≡ true → holds a subject q ≡ true
  named_subject subject is q s e named =
      let parts = and_parts (is_asked logout.subject (Some s.subject)) (is_asked logout.provider_session s.provider_session) named in
      let own = asked_some subject (Some s.subject) (ap (λ x. is_asked x (Some s.subject)) (sym is) ∙ parts.0) in
      subst (λ name. holds a name q ≡ true) (same_some s.subject subject own) (was q s e).0

-- ---- one session after another

left_none : (logout : SeenLogout) (b : Bool) → left_at logout b None ≡ None
left_none logout true = refl
left_none logout false = refl

left_unnamed : (logout : SeenLogout) (b : Bool) (s : SeenSession) → ends_session logout s ≡ false → left_at logout b (Some s) ≡ Some s
left_unnamed logout true s is = λ i. cond (is i) None (Some s)
left_unnamed logout false s is = refl

left_true : (logout : SeenLogout) (s : SeenSession) → ends_session logout s ≡ true → left_at logout true (Some s) ≡ None
left_true logout s is = λ i. cond (is i) None (Some s)

after_some : (logout : SeenLogout) (here more named : Bool) (s : SeenSession) → ends_session logout s ≡ named
    → left_at logout here (left_at logout more (Some s)) ≡ left_at logout (here || more) (Some s)
after_some logout here more false s is =
    ap (left_at logout here) (left_unnamed logout more s is) ∙ left_unnamed logout here s is ∙ sym (left_unnamed logout (here || more) s is)
after_some logout true true true s is = ap (left_at logout true) (left_true logout s is) ∙ sym (left_true logout s is)
after_some logout false true true s is = refl
after_some logout true false true s is = refl
after_some logout false false true s is = refl

-- what two steps leave at an id
pub after_one : (logout : SeenLogout) (here more : Bool) (found : Option SeenSession)
    → left_at logout here (left_at logout more found) ≡ left_at logout (here || more) found
after_one logout here more None = ap (left_at logout here) (left_none logout more) ∙ left_none logout here ∙ sym (left_none logout (here || more))
after_one logout here more (Some s) = after_some logout here more (ends_session logout s) s refl

taken_at : (logout : SeenLogout) (m : Sessions) (id q : List ℕ) (b : Bool) → bytes_eq id q ≡ b → is_named_at logout (finite.get m id) ≡ true
    → cond b None (finite.get m q) ≡ left_at logout b (finite.get m q)
taken_at logout m id q true is named =
    let here : is_named_at logout (finite.get m q) ≡ true = subst (λ z. is_named_at logout (finite.get m z) ≡ true) ((bytes_decides id q).0 is) named in
    λ i. cond (sym here i) None (finite.get m q)
taken_at logout m id q false is named = refl

-- what one step leaves, where the session of an id is named, and where it isn't
pub taken_out : (logout : SeenLogout) (m : Sessions) (id q : List ℕ) → is_named_at logout (finite.get m id) ≡ true
    → finite.get (finite.remove m id) q ≡ left_at logout (bytes_eq id q) (finite.get m q)
taken_out logout m id q named = get_removed m id q ∙ taken_at logout m id q (bytes_eq id q) refl named

there_at : (logout : SeenLogout) (m : Sessions) (id q : List ℕ) (b : Bool) → bytes_eq id q ≡ b → is_named_at logout (finite.get m id) ≡ false
    → finite.get m q ≡ left_at logout b (finite.get m q)
there_at logout m id q true is named =
    let here : is_named_at logout (finite.get m q) ≡ false = subst (λ z. is_named_at logout (finite.get m z) ≡ false) ((bytes_decides id q).0 is) named in
    λ i. cond (sym here i) None (finite.get m q)
there_at logout m id q false is named = refl

pub left_there : (logout : SeenLogout) (m : Sessions) (id q : List ℕ) → is_named_at logout (finite.get m id) ≡ false
    → finite.get m q ≡ left_at logout (bytes_eq id q) (finite.get m q)
left_there logout m id q named = there_at logout m id q (bytes_eq id q) refl named

gone_at : (m : Sessions) (id q : List ℕ) → q ≡ id → cond (bytes_eq id q) None (finite.get m q) ≡ None
gone_at m id q e = λ i. cond ((bytes_decides id q).1 (sym e) i) None (finite.get m q)

pub not_there : (m : Sessions) (id q : List ℕ) → IsSome (finite.get (finite.remove m id) q) → q ≢ id
not_there m id q h e = false≢true (sym (ap is_some (get_removed m id q ∙ gone_at m id q e)) ∙ h)

-- ---- the ids that a loop went over

swapped : (a b c : Bool) → (a || (b || c)) ≡ (b || (a || c))
swapped true true c = refl
swapped true false c = refl
swapped false b c = refl

same_tests : {Z : Type 0} (q : List ℕ) (xs : List (Bor (String Z))) → list_any (λ k. bytes_eq (string_bytes k.now) q) xs ≡ list_any (λ k. bytes_eq q (string_bytes k)) (map deref xs)
same_tests q [] = refl
same_tests q (x ∷ xs) = λ i. (lists_equiv nat_eq_equiv).symm (string_bytes x.now) q i || same_tests q xs i

pub any_push : {A : Type 0} (p : A → Bool) (xs : List A) (x : A) → list_any p (xs ++ x ∷ []) ≡ (p x || list_any p xs)
any_push p [] x = refl
any_push p (y ∷ xs) x = ap (λ b. p y || b) (any_push p xs x) ∙ swapped (p y) (p x) (list_any p xs)

pub any_shown : {Z : Type 0} (q : List ℕ) (xs : List (Bor (String Z))) (ks : List (String Z)) → map deref xs ≡ ks
    → list_any (λ k. bytes_eq (string_bytes k.now) q) xs ≡ list_any (λ k. bytes_eq q (string_bytes k)) ks
any_shown q xs ks e = same_tests q xs ∙ ap (λ ks. list_any (λ k. bytes_eq q (string_bytes k)) ks) e

left_there_by : (b : Bool) (found : Option SeenSession) → is_some (cond b None found) ≡ true → is_some found ≡ true
left_there_by true found h = absurd (false≢true h)
left_there_by false found h = h

-- a session that is left was there
pub left_some : (logout : SeenLogout) (b : Bool) (found : Option SeenSession) → IsSome (left_at logout b found) → IsSome found
left_some logout b found h = left_there_by (b && is_named_at logout found) found h

-- ---- the sessions that a loop went over

-- the id of a session that hasn't ended isn't that of one that has
pub still_there : (m : Sessions) (id i : List ℕ) (session s : SeenSession) (now : ℤ) → finite.get m id ≡ Some session → finite.get m i ≡ Some s
    → ends_after now s ≡ true → ends_after now session ≡ false → i ≢ id
still_there m id i session s now here there live ended e =
    false≢true (sym ended ∙ ap (ends_after now) (same_some session s (sym here ∙ ap (finite.get m) (sym e) ∙ there)) ∙ live)
