-- a text that no word of a list has
use Rattle.std.proofs.Common.{◌≡◌, ◌∙◌, ℕ, List, [], ◌∷◌, Option, None, Some, refl, Bool, true, false, sym, ap, subst, cond, Decides, unwrap_or}
use Rattle.std.specs.Str.{bytes_eq}
use Rattle.std.proofs.lemmas.Slice.Eq.{bytes_eq-Decides}
use Rattle.oidc_types.specs.Vocabulary.{find_word}
use Rattle.oidc_types.specs.Vocabulary.{IsExact}

module _ {Word : Type 0} (text_of : Word → List ℕ) where
  -- the text differs from that of each word
  abbrev pub IsUnknown : List Word → List ℕ → Type 0
  IsUnknown [] s = Unit {0}
  IsUnknown (w ∷ ws) s = (s ≡ text_of w → ⊥) × IsUnknown ws s

  differs : (w : Word) (s : List ℕ) (b : Bool) → (b ≡ true → text_of w ≡ s) → (s ≡ text_of w → ⊥) → b ≡ false
  differs w s true d n = absurd (n (sym (d refl)))
  differs w s false d n = refl

  pub none_found : (words : List Word) (s : List ℕ) → IsUnknown words s → find_word text_of words s ≡ None
  none_found [] s h = refl
  none_found (w ∷ ws) s h = rw (differs w s (bytes_eq (text_of w) s) (bytes_eq-Decides (text_of w) s).0 h.0) (none_found ws s h.1)

  same_word : (v w : Word) → Some v ≡ Some w → v ≡ w
  same_word v w e = ap (λ o. unwrap_or o v) e

  one_found : (w v : Word) (s : List ℕ) (rest : Option Word) (b : Bool) → Decides b (text_of w ≡ s) → (rest ≡ Some v → text_of v ≡ s) → cond b (Some w) rest ≡ Some v → text_of v ≡ s
  one_found w v s rest true d h e = ap text_of (sym (same_word w v e)) ∙ d.0 refl
  one_found w v s rest false d h e = h e

  -- a word that is found has the text
  found : (words : List Word) (s : List ℕ) (v : Word) → find_word text_of words s ≡ Some v → text_of v ≡ s
  found [] s v e = absurd (cc)
  found (w ∷ ws) s v e = one_found w v s (find_word text_of ws s) (bytes_eq (text_of w) s) (bytes_eq-Decides (text_of w) s) (found ws s v) e

  -- where the text of each word is found to be that word's, only that text is
  pub exact : (words : List Word) → ((w : Word) → find_word text_of words (text_of w) ≡ Some w) → IsExact text_of words
  exact words back s w = (found words s w, λ e. subst (λ t. find_word text_of words t ≡ Some w) e (back w))
