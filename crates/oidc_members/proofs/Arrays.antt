-- What an array of one plain string reads as.
use Rattle.std.proofs.Common.{◌≡◌, ℕ, ◌-◌, true, List, [], ◌∷◌, ◌++◌, Some, refl, sym, ap, ap₂, ◌∙◌, subst, arith, append_assoc}
use Rattle.std.specs.List.{list_all}
use Rattle.std.specs.Str.{IsUtf8}
use Rattle.std.proofs.lemmas.Str.{IsUtf8-append}
use Rattle.json.specs.Token.{Token}
use Rattle.json.specs.Lex.{Lexeme, token, string_token, lex, between, punctuate}
use Rattle.json.specs.Json as json
use Rattle.json.proofs.Grammar.{value_is, value-begin_array, items_more, items_end}
use Rattle.serde_json.specs.Data.{Data, string, array, item, no_items}
use Rattle.oidc_members.specs.Objects.{is_space}
use Rattle.oidc_members.specs.Sight.{is_plain, IsQuoted, ReadsAs}
use Rattle.oidc_members.proofs.Blank.{lex_trail, quote_utf8}
use Rattle.oidc_members.proofs.Scalars.{whole, reads, content_plain, lex_plain, word_utf8}

lone_lexed : (s : List ℕ) → list_all is_plain s ≡ true → (rest : List ℕ) → list_all is_space rest ≡ true
    → lex between ((91 ∷ ((34 ∷ (s ++ 34 ∷ [])) ++ 93 ∷ [])) ++ rest) ≡ token Token.begin_array ∷ token (Token.string s) ∷ token Token.end_array ∷ []
unfolding lex
lone_lexed s h rest blank =
    let behind : ((s ++ 34 ∷ []) ++ 93 ∷ []) ++ rest ≡ s ++ 34 ∷ 93 ∷ rest =
    append_assoc (s ++ 34 ∷ []) (93 ∷ []) rest ∙ append_assoc s (34 ∷ []) (93 ∷ rest) in
    ap (λ l. lex between (91 ∷ 34 ∷ l)) behind
    ∙ ap₂ (λ o l. token Token.begin_array ∷ token (string_token o) ∷ l) (content_plain s (93 ∷ rest) h)
    (lex_plain s (93 ∷ rest) h ∙ ap (λ l. token Token.end_array ∷ l) (lex_trail rest blank))

lone_value : (s : List ℕ) → json.value 127 (Token.begin_array ∷ Token.string s ∷ Token.end_array ∷ []) ≡ Some (json.array (json.item (json.string s) json.no_items), [])
lone_value s =
    let last : List Token = Token.end_array ∷ [] in
    let both : List Token = Token.string s ∷ last in
    value-begin_array 127 both (omega arith)
    ∙ ap (json.parse_map json.array)
    (items_more (json.value (127 - 1)) 2 both last (json.string s) (omega arith) refl (value_is (127 - 1) both)
    ∙ ap (json.parse_map (json.item (json.string s))) (items_end (json.value (127 - 1)) (2 - 1) last [] (omega arith) refl))

pub lone_reads : (text content s : List ℕ) → text ≡ 91 ∷ (content ++ 93 ∷ []) → IsQuoted content s → ReadsAs text (array (item (string s) no_items))
unfolding punctuate
lone_reads text content s parts q =
    let quoted : List ℕ = 34 ∷ (s ++ 34 ∷ []) in
    let one : List ℕ = 91 ∷ (quoted ++ 93 ∷ []) in
    let same : text ≡ one = parts ∙ ap (λ l. 91 ∷ (l ++ 93 ∷ [])) q.whole in
    let lexemes : List Lexeme = token Token.begin_array ∷ token (Token.string s) ∷ token Token.end_array ∷ [] in
    let value : Data = array (item (string s) no_items) in
    let quoted_utf8 : IsUtf8 quoted = IsUtf8-append (34 ∷ []) (s ++ 34 ∷ []) quote_utf8 (IsUtf8-append s (34 ∷ []) q.utf8 quote_utf8) in
    let utf8 : IsUtf8 one = IsUtf8-append (91 ∷ []) (quoted ++ 93 ∷ []) (word_utf8 (91 ∷ []) refl) (IsUtf8-append quoted (93 ∷ []) quoted_utf8 (word_utf8 (93 ∷ []) refl)) in
    subst (λ t. ReadsAs t value) (sym same) (reads one lexemes value utf8 (lone_lexed s q.plain) (ap whole (lone_value s)))
