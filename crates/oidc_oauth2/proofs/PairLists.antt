-- Pairs that were added one after another.
use Rattle.std.proofs.Common.{◌≡◌, List, [], ◌∷◌, ◌++◌, Result, Ok, Err, OnOk, ◌∙◌, ap, append_assoc}

-- one pair, and then others
pub one_and_others : {A E : Type 0} (r : Result (Unit {0}) E) (new mid form : List A) (x : A) (ys zs : List A)
    → mid ≡ form ++ x ∷ [] → zs ≡ ys → OnOk r (new ≡ mid ++ zs) → OnOk r (new ≡ form ++ (x ∷ ys))
one_and_others (Ok u) new mid form x ys zs first others all =
    all ∙ ap (λ l. l ++ zs) first ∙ ap (λ l. (form ++ x ∷ []) ++ l) others ∙ append_assoc form (x ∷ []) ys
one_and_others (Err e) new mid form x ys zs first others all = tt

-- two pairs and then four lists of pairs, put behind no pairs one after another
pub all_behind : {A : Type 0} (a b : A) (p q r s none : List A) (one two three four five six : List A)
    → none ≡ [] → one ≡ none ++ a ∷ [] → two ≡ one ++ b ∷ [] → three ≡ two ++ p → four ≡ three ++ q → five ≡ four ++ r → six ≡ five ++ s
    → six ≡ a ∷ b ∷ (p ++ q ++ r ++ s)
all_behind a b p q r s none one two three four five six at_none at_one at_two at_three at_four at_five at_six =
    at_six ∙ ap (λ l. l ++ s) (at_five ∙ ap (λ l. l ++ r) (at_four ∙ ap (λ l. l ++ q) (at_three ∙ ap (λ l. l ++ p) (at_two ∙ ap (λ l. l ++ b ∷ []) (at_one ∙ ap (λ l. l ++ a ∷ []) at_none)))))
