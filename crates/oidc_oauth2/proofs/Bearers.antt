-- A bearer header of a visible token is a header's value.
use Rattle.std.proofs.Common.{◌≡◌, ℕ, Bool, true, false, List, [], ◌∷◌, refl, arith}
use Rattle.std.specs.Prelude.{All, IsTrue, ◌&&◌, codes}
use Rattle.std.proofs.lemmas.List.Elements.{All-nil, All-cons, All-append}
use Rattle.http_header.specs.Token.{is_value_byte, is_visible_or_blank}
use Rattle.http_header.specs.FieldValue.{IsFieldValue, is_visible_text}
use Rattle.oidc_oauth2.specs.HttpUtils.{bearer_of}

abbrev IsValue : ℕ → Type 0
IsValue b = IsTrue (is_value_byte b)

both_true : (a b : Bool) → (a && b) ≡ true → (a ≡ true) × (b ≡ true)
both_true true b h = (refl, h)
both_true false b h = cc

visible_is_value : (b : ℕ) → is_visible_or_blank b ≡ true → IsValue b
visible_is_value b h = grind arith

values : (token : List ℕ) → is_visible_text token ≡ true → All IsValue token
values [] h = All-nil IsValue
values (b ∷ token) h =
    let parts = both_true (is_visible_or_blank b) (is_visible_text token) h in
    All-cons IsValue b token (visible_is_value b parts.0) (values token parts.1)

scheme : All IsValue (codes "Bearer ")
scheme =
    All-cons IsValue 66 (codes "earer ") refl (All-cons IsValue 101 (codes "arer ") refl (All-cons IsValue 97 (codes "rer ") refl
    (All-cons IsValue 114 (codes "er ") refl (All-cons IsValue 101 (codes "r ") refl (All-cons IsValue 114 (codes " ") refl
    (All-cons IsValue 32 [] refl (All-nil IsValue)))))))

pub bearer_is_value : (token : List ℕ) → is_visible_text token ≡ true → IsFieldValue (bearer_of token)
bearer_is_value token h = All-append IsValue (codes "Bearer ") token scheme (values token h)
