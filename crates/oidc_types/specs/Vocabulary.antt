-- words and their texts
use Rattle.std.specs.Prelude.{◌≡◌, ◌⊎◌, ◌↔◌, ℕ, List, Option, Some, find, unwrap_or}
use Rattle.std.specs.Str.{bytes_eq}

module _ {Word : Type 0} (text_of : Word → List ℕ) where
  -- the word of a list that has this text
  abbrev pub find_word : List Word → List ℕ → Option Word
  find_word words text = find (λ word. bytes_eq (text_of word) text) words

  -- that word, or the word that is kept for other texts
  abbrev pub word_or : List Word → (List ℕ → Word) → List ℕ → Word
  word_or words other text = unwrap_or (find_word words text) (other text)

  -- a text is taken as a word exactly where it is that word's text
  abbrev pub IsExact : List Word → Type 0
  IsExact words =
      (text : List ℕ) (word : Word)
      → (find_word words text ≡ Some word) ↔ (text_of word ≡ text)

  -- each word is the one that is kept for some other text, or its text reads back to it
  abbrev pub ReadsBack : List Word → (List ℕ → Word) → Type 0
  ReadsBack words other =
      (word : Word)
      → ((text : List ℕ) × (word ≡ other text)) ⊎ (word_or words other (text_of word) ≡ word)
