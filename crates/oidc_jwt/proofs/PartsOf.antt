-- The parts of a text between its dots.
use Rattle.std.proofs.Common.{◌≡◌, ℕ, ◌+◌, ◌==◌, List, [], ◌∷◌, ◌++◌, Option, None, Some, take, length, refl, sym, ap, ◌∙◌, arith, length-append}
use Rattle.std.specs.Prelude.{is_some, true}
use Rattle.std.specs.Borrow.{Bor}
use Rattle.std.specs.Option.{option_map_or}
use Rattle.std.proofs.lemmas.Bool.{false≢true}
use Rattle.std.specs.List.{slice_split, join_with_byte}
use Rattle.std.proofs.lemmas.List.{take_at, append_assoc}
use Rattle.std.proofs.lemmas.List.Splits.{length-slice_split, join_with_byte-slice_split}
use Rattle.std.specs.Prelude.{◌<◌, get_or, Result, Ok, IsCharBoundary}
use Rattle.std.specs.Option.{ok_or}
use Rattle.std.proofs.Math.Seq.{get_or-append_seam}
use Rattle.std.proofs.lemmas.Str.{IsCharBoundary-before_ascii}
use Rattle.oidc_members.specs.Seen.{SeenMember}
use Rattle.oidc_members.specs.declared.refusal.Refusal.{Refusal}
use Rattle.oidc_readers.specs.Records.{◌>>=◌}
use Rattle.oidc_jwt.specs.declared.header.TokenHeader.{TokenHeader}
use Rattle.oidc_jwt.specs.Header.{header_of}
use Rattle.oidc_jwt.specs.Tokens.{Parts, three, three_parts, no_token, decoded, object_read, token_of}

abbrev pub pieces : List ℕ → List (List ℕ)
pieces text = slice_split (λ b. b == 46) text

-- there is a part
one_part : (text : List ℕ) → pieces text ≡ [] → ⊥
one_part text h = omega (arith, length-slice_split (λ b. b == 46) text, ap length h)

pub one_alone : (text a : List ℕ) → pieces text ≡ a ∷ [] → three (pieces text) ≡ None
one_alone text a e = ap three e

pub two_alone : (text a b : List ℕ) → pieces text ≡ a ∷ b ∷ [] → three (pieces text) ≡ None
two_alone text a b e = ap three e

four : (a b c : List ℕ) (more : List (List ℕ)) → (more ≡ [] → ⊥) → three (a ∷ b ∷ c ∷ more) ≡ None
four a b c [] h = absurd (h refl)
four a b c (d ∷ more) h = refl

pub more_than_three : (text a b c : List ℕ) (rest : Option (Bor (List ℕ))) → is_some rest ≡ true
    → pieces text ≡ a ∷ b ∷ c ∷ option_map_or (λ r. pieces r.now) rest [] → three (pieces text) ≡ None
more_than_three text a b c None some e = absurd (false≢true some)
more_than_three text a b c (Some rest) some e = ap three e ∙ four a b c (pieces rest.now) (one_part rest.now)

three_back : (ps : List (List ℕ)) (p : Parts) → ok_or (three ps) no_token ≡ Ok p → ps ≡ p.header ∷ p.payload ∷ p.signature ∷ []
three_back [] p h = absurd cc
three_back (a ∷ []) p h = absurd cc
three_back (a ∷ b ∷ []) p h = absurd cc
three_back (a ∷ b ∷ c ∷ []) p h = cc
three_back (a ∷ b ∷ c ∷ d ∷ more) p h = absurd cc

-- a text that has parts is its parts, joined by dots
pub pieces_of : (text : List ℕ) (p : Parts) → ok_or (three_parts text) no_token ≡ Ok p → pieces text ≡ p.header ∷ p.payload ∷ p.signature ∷ []
unfolding three_parts
pieces_of text p h = three_back (pieces text) p h

pub joined : (text : List ℕ) (p : Parts) → ok_or (three_parts text) no_token ≡ Ok p → text ≡ (p.header ++ 46 ∷ p.payload) ++ 46 ∷ p.signature
joined text p h =
    sym (join_with_byte-slice_split 46 text) ∙ ap (join_with_byte 46) (pieces_of text p h) ∙ sym (append_assoc p.header (46 ∷ p.payload) (46 ∷ p.signature))

-- the message stands before the last dot
pub message_before : (text : List ℕ) (p : Parts) → ok_or (three_parts text) no_token ≡ Ok p → take (length p.header + 1 + length p.payload) text ≡ p.header ++ 46 ∷ [] ++ p.payload
message_before text p h =
    ap (take (length p.header + 1 + length p.payload)) (joined text p h)
    ∙ take_at (p.header ++ 46 ∷ p.payload) (46 ∷ p.signature) _ (omega (arith, length-append {A = ℕ}))
    ∙ sym (append_assoc p.header (46 ∷ []) p.payload)

pub message_bounded : (text : List ℕ) (p : Parts) → ok_or (three_parts text) no_token ≡ Ok p → IsCharBoundary text (length p.header + 1 + length p.payload)
message_bounded text p h =
    let j = joined text p h in
    let n : length (p.header ++ 46 ∷ p.payload) ≡ length p.header + 1 + length p.payload = omega (arith, length-append {A = ℕ}) in
    let within : length p.header + 1 + length p.payload < length text = omega (arith, ap length j, length-append {A = ℕ}) in
    let dot : get_or text (length p.header + 1 + length p.payload) 0 ≡ 46 =
    ap (λ t. get_or t (length p.header + 1 + length p.payload) 0) j
    ∙ ap (λ k. get_or ((p.header ++ 46 ∷ p.payload) ++ 46 ∷ p.signature) k 0) (sym n)
    ∙ get_or-append_seam (p.header ++ 46 ∷ p.payload) 46 p.signature 0 in
    IsCharBoundary-before_ascii text _ within (omega (arith, dot))

module _ {JE JS P : Type 0} (encryption_named : List ℕ → Option JE) (signing_named : List ℕ → Option JS) (payload_read : List SeenMember → Result P Refusal) where
  -- what is read of a text's parts is the token of the text
  pub token_back : (text given : List ℕ) (n : ℕ) (p : Parts) (first second signature : List ℕ) (header : TokenHeader JE JS) (payload : P) → given ≡ text → n ≡ length p.header + 1 + length p.payload
      → ok_or (three_parts text) no_token ≡ Ok p → decoded p.header ≡ Ok first → decoded p.payload ≡ Ok second → decoded p.signature ≡ Ok signature
      → object_read (header_of encryption_named signing_named) first ≡ Ok header → object_read payload_read second ≡ Ok payload
      → token_of encryption_named signing_named payload_read text ≡ Ok (record { text = given; header = header; payload = payload; message = take n given; signature = signature })
  unfolding token_of
  token_back text given n p first second signature header payload is len parts one two three said read =
      rw (is, len, message_before text p parts, parts, one, two, three, said, read) refl
