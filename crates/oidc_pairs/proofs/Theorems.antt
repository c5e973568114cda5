-- What a form text is, and that what was written is read as it was. Other crates may cite these lemmas.
use Rattle.std.proofs.Common.{◌≡◌, ℕ, ◌<◌, List, [], ◌∷◌, ◌++◌, map, length, All, refl, sym, ◌∙◌, ap, append_assoc, arith, length-append}
use Rattle.std.specs.List.{join_with_byte}
use Rattle.std.specs.Str.Lossy.{utf8_lossy}
use Rattle.std.proofs.lemmas.Simd.{map-map}
use Rattle.std.proofs.lemmas.Bool.{cond-true, lt-ltb}
use Rattle.std.proofs.lemmas.List.Elements.{All-head, All-tail, All-weaker}
use Rattle.std.proofs.lemmas.Str.{utf8_lossy-IsUtf8}
use Rattle.form_urlencoded.specs.Form.{parse, extend_pairs, append_pair, serialize_pair, separator, raw_pairs}
use Rattle.form_urlencoded.proofs.FormLemmas.{round_trip, IsBytePair}
use Rattle.oidc_pairs.specs.Pairs.{pairs, IsTextPair}
use Rattle.oidc_pairs.specs.Form.{form}
pub use Rattle.oidc_pairs.proofs.TextBytes.{All-IsUtf8}

-- the first piece of a joined list grows at its front
join_front : (front piece : List ℕ) (pieces : List (List ℕ))
    → join_with_byte 38 ((front ++ 38 ∷ [] ++ piece) ∷ pieces) ≡ front ++ 38 ∷ join_with_byte 38 (piece ∷ pieces)
join_front front piece [] = append_assoc front (38 ∷ []) piece
join_front front piece (next ∷ pieces) = simp append_assoc refl

serialize_pair_nonempty : (pair : List ℕ × List ℕ) → 0 < length (serialize_pair pair)
serialize_pair_nonempty pair = simp length-append (omega arith)

-- the same, joined
extend_pairs_after : (text : List ℕ) (list : List (List ℕ × List ℕ)) → 0 < length text
    → extend_pairs text list ≡ join_with_byte 38 (text ∷ map serialize_pair list)
extend_pairs_after text [] nonempty = refl
extend_pairs_after text (pair ∷ list) nonempty =
    let joined : separator text ≡ 38 ∷ [] = cond-true _ _ _ (lt-ltb 0 _ nonempty) in
    let grown : append_pair text pair.0 pair.1 ≡ text ++ 38 ∷ [] ++ serialize_pair pair = rw joined refl in
    let longer : 0 < length (append_pair text pair.0 pair.1) = simp length-append (omega arith) in
    extend_pairs_after (append_pair text pair.0 pair.1) list longer
    ∙ ap (λ x. join_with_byte 38 (x ∷ map serialize_pair list)) grown
    ∙ join_front text (serialize_pair pair) (map serialize_pair list)

-- pairs that the kit's serializer adds to an empty text are its form text
pub extend_pairs-on_empty : (list : List (List ℕ × List ℕ)) → extend_pairs [] list ≡ form list
unfolding form
extend_pairs-on_empty [] = refl
extend_pairs-on_empty (pair ∷ list) = extend_pairs_after (serialize_pair pair) list (serialize_pair_nonempty pair)

-- pairs that it adds to a text that is not empty stand after that text and an `&`
pub extend_pairs-after_text : (text : List ℕ) (pair : List ℕ × List ℕ) (list : List (List ℕ × List ℕ)) → 0 < length text
    → extend_pairs text (pair ∷ list) ≡ text ++ 38 ∷ [] ++ form (pair ∷ list)
unfolding form
extend_pairs-after_text text pair list nonempty =
    extend_pairs_after text (pair ∷ list) nonempty ∙ sym (append_assoc text (38 ∷ []) (join_with_byte 38 (map serialize_pair (pair ∷ list))))

abbrev lossy_pair : List ℕ × List ℕ → List ℕ × List ℕ
lossy_pair p = (utf8_lossy p.0, utf8_lossy p.1)

lossy_same : (list : List (List ℕ × List ℕ)) → All IsTextPair list → map lossy_pair list ≡ list
lossy_same [] texts = refl
lossy_same (pair ∷ list) texts =
    let first = All-head IsTextPair pair list texts in
    let later = lossy_same list (All-tail IsTextPair pair list texts) in
    λ i. (utf8_lossy-IsUtf8 pair.0 first.0 i, utf8_lossy-IsUtf8 pair.1 first.1 i) ∷ later i

byte_pairs : (list : List (List ℕ × List ℕ)) → All IsTextPair list → All IsBytePair list
byte_pairs list texts = All-weaker IsTextPair IsBytePair (λ p t. (All-IsUtf8 p.0 t.0, All-IsUtf8 p.1 t.1)) list texts

pairs-parse : (text : List ℕ) → pairs text ≡ map lossy_pair (parse text)
unfolding pairs
pairs-parse text = sym (map-map lossy_pair _ (raw_pairs text))

-- the pairs of a form text are the pairs that were written
pub pairs-form : (list : List (List ℕ × List ℕ)) → All IsTextPair list → pairs (form list) ≡ list
pairs-form list texts =
    pairs-parse (form list)
    ∙ ap (λ text. map lossy_pair (parse text)) (sym (extend_pairs-on_empty list))
    ∙ ap (map lossy_pair) (round_trip list (byte_pairs list texts))
    ∙ lossy_same list texts
