-- A text to which a slash is added, beside one that ends with a slash.
use Rattle.std.proofs.Common.{◌≡◌, ◌≢◌, ℕ, false, List, [], ◌∷◌, ◌++◌, codes, sym, ap, ◌∙◌, rules}
use Rattle.std.specs.Bool.{one_answer}
use Rattle.std.specs.Str.{bytes_eq}
use Rattle.std.proofs.lemmas.List.{append_cancel_right}
use Rattle.std.proofs.lemmas.Slice.Eq.{bytes_eq-Decides}

pub slash_added : (front text written : List ℕ) → written ≡ front ++ 0x2F ∷ []
    → bytes_eq front text ≡ bytes_eq (text ++ codes "/") written
slash_added front text written e =
    one_answer _ _ (bytes_eq-Decides front text) (
      λ same. append_cancel_right front text (codes "/")
          (sym e ∙ sym ((bytes_eq-Decides (text ++ codes "/") written).0 same)),
      λ same. (bytes_eq-Decides (text ++ codes "/") written).1 (ap (λ t. t ++ codes "/") (sym same) ∙ sym e),
    )

pub no_slash : (text written : List ℕ) → ((front : List ℕ) → written ≢ front ++ 0x2F ∷ [])
    → false ≡ bytes_eq (text ++ codes "/") written
no_slash text written none =
    one_answer _ _ (λ e. search rules, λ e. absurd (none text (sym e))) (bytes_eq-Decides (text ++ codes "/") written)
