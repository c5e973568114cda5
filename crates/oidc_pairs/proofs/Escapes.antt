-- What a form makes of bytes, a few at a time.
use Rattle.std.proofs.Common.{◌≡◌, ℕ, ◌+◌, ◌<◌, ◌≤◌, List, [], ◌∷◌, ◌++◌, length, get_or, take, sym, ap, ◌∙◌, arith, append_assoc, append-nil}
use Rattle.std.proofs.lemmas.List.{take_more, take-append-le, length-take}
use Rattle.form_urlencoded.specs.Form.{serialize_byte, byte_serialize}
use Rattle.form_urlencoded.proofs.FormLemmas.{byte_serialize-nil, byte_serialize-cons, byte_serialize-append}

pub escaped_more : (piece : List ℕ) (i d : ℕ) → i < length piece → byte_serialize (take (i + 1) piece) ≡ byte_serialize (take i piece) ++ serialize_byte (get_or piece i d)
escaped_more piece i d within =
    let b : ℕ = get_or piece i d in
    ap byte_serialize (take_more piece i d within) ∙ byte_serialize-append (take i piece) (b ∷ [])
    ∙ ap (λ x. byte_serialize (take i piece) ++ x) (byte_serialize-cons b [] ∙ ap (λ x. serialize_byte b ++ x) byte_serialize-nil ∙ append-nil (serialize_byte b))

-- a piece is written behind a text, and the rest is left
pub piece_written : (old text front rest later : List ℕ) → rest ≡ front ++ later → text ≡ old ++ byte_serialize front
    → text ++ byte_serialize later ≡ old ++ byte_serialize rest
piece_written old text front rest later whole grown =
    ap (λ x. x ++ byte_serialize later) grown ∙ append_assoc old (byte_serialize front) (byte_serialize later)
    ∙ ap (λ x. old ++ x) (sym (byte_serialize-append front later) ∙ ap byte_serialize (sym whole))

pub all_written : (text rest whole : List ℕ) → rest ≡ [] → text ++ byte_serialize rest ≡ whole → text ≡ whole
all_written text rest whole none is =
    sym (append-nil text) ∙ ap (λ x. text ++ x) (sym (ap byte_serialize none ∙ byte_serialize-nil)) ∙ is

-- what begins with a text still does where it has grown
pub begins_still : (old now grown added : List ℕ) → take (length old) now ≡ old → grown ≡ now ++ added → take (length old) grown ≡ old
begins_still old now grown added begun is =
    let short : length old ≤ length now = omega (arith, length-take (length old) now, ap length begun) in
    ap (take (length old)) is ∙ rw take-append-le begun
