-- Pairs that were added one after another.
use Rattle.std.proofs.Common.{◌≡◌, List, [], ◌∷◌, ◌++◌, Option, None, Some, Result, Ok, Err, IfOk, IfSome, OnOk, refl, ◌∙◌, ap, append_assoc}

pub three_pushed : {A E T : Type 0} (r : Result T E) (old one two new : List A) (x y z second third : A)
    → one ≡ old ++ x ∷ [] → two ≡ one ++ y ∷ [] → y ≡ second → z ≡ third → OnOk r (new ≡ two ++ z ∷ [])
    → OnOk r (new ≡ old ++ x ∷ second ∷ third ∷ [])
three_pushed (Ok u) old one two new x y z second third is_one is_two same also all =
    all
    ∙ ap (λ last. two ++ last ∷ []) also
    ∙ ap (λ l. l ++ third ∷ []) (is_two ∙ ap (λ last. one ++ last ∷ []) same ∙ ap (λ l. l ++ second ∷ []) is_one ∙ append_assoc old (x ∷ []) (second ∷ []))
    ∙ append_assoc old (x ∷ second ∷ []) (third ∷ [])
three_pushed (Err e) old one two new x y z second third is_one is_two same also all = tt

-- what holds anyway
pub if_ok : {A E : Type 0} (r : Result A E) (P : Type 0) → P → IfOk r (λ x. P)
if_ok (Ok x) P holds = holds
if_ok (Err e) P holds = tt

-- what holds of the value that an option has
pub if_some : {A : Type 0} (o : Option A) (P : A → Type 0) → ((x : A) → o ≡ Some x → P x) → IfSome o P
if_some None P holds = tt
if_some (Some x) P holds = holds x refl
