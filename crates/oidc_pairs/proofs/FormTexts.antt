-- The text of a `FormText`, as it grows.
use Rattle.std.proofs.Common.{◌≡◌, ℕ, List, [], ◌∷◌, ◌++◌, length, take, drop, All, IsUtf8, sym, ◌∙◌, ap}
use Rattle.std.proofs.lemmas.List.{take-append-drop}
use Rattle.std.proofs.lemmas.List.Elements.{All-nil, All-cons, All-append}
use Rattle.std.proofs.lemmas.List.Sums.{fold-append}
use Rattle.form_urlencoded.specs.Form.{append_pair}
use Rattle.oidc_pairs.specs.Pairs.{pairs, IsTextPair}
use Rattle.oidc_pairs.specs.Form.{form, IsWritten}
use Rattle.oidc_pairs.proofs.Theorems.{extend_pairs-on_empty, pairs-form}

-- a form text with one pair more
append_pair-form : (list : List (List ℕ × List ℕ)) (name value : List ℕ)
    → append_pair (form list) name value ≡ form (list ++ (name, value) ∷ [])
append_pair-form list name value =
    ap (λ text. append_pair text name value) (sym (extend_pairs-on_empty list))
    ∙ sym (fold-append (λ text pair. append_pair text pair.0 pair.1) [] list ((name, value) ∷ []))
    ∙ extend_pairs-on_empty (list ++ (name, value) ∷ [])

-- what adding a pair leaves
module _ (old new name value : List ℕ) (was : IsWritten old) (name_text : IsUtf8 name) (value_text : IsUtf8 value) (is : new ≡ append_pair old name value) where
  grown_form : new ≡ form (pairs old ++ (name, value) ∷ [])
  grown_form = is ∙ ap (λ text. append_pair text name value) was.whole ∙ append_pair-form (pairs old) name value

  grown_texts : All IsTextPair (pairs old ++ (name, value) ∷ [])
  grown_texts =
      All-append IsTextPair (pairs old) ((name, value) ∷ []) was.texts
      (All-cons IsTextPair (name, value) [] (name_text, value_text) (All-nil IsTextPair))

  -- one pair more is read
  pub pairs_grown : pairs new ≡ pairs old ++ (name, value) ∷ []
  pairs_grown = ap pairs grown_form ∙ pairs-form _ grown_texts

  -- the text stays the form text of its pairs
  pub IsWritten_grown : IsWritten new
  IsWritten_grown = record {
    texts = rw pairs_grown grown_texts;
    whole = grown_form ∙ ap form (sym pairs_grown);
  }

-- the empty text
pub pairs_empty : (text : List ℕ) → text ≡ [] → pairs text ≡ []
pairs_empty text none = ap pairs (none ∙ extend_pairs-on_empty []) ∙ pairs-form [] (All-nil IsTextPair)

pub IsWritten_empty : (text : List ℕ) → text ≡ [] → IsWritten text
IsWritten_empty text none = record {
  texts = rw (pairs_empty text none) (All-nil IsTextPair);
  whole = none ∙ extend_pairs-on_empty [] ∙ ap form (sym (pairs_empty text none));
}

-- a text and then its grown beginning, cut off where it ended
pub cut_back : (old now : List ℕ) → take (length old) now ≡ old → (more : List ℕ) × (now ≡ old ++ more)
cut_back old now begun = (drop (length old) now, sym (take-append-drop (length old) now) ∙ ap (λ front. front ++ drop (length old) now) begun)
