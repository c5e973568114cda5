-- The bytes of a content type make a header's value.
use Rattle.std.proofs.Common.{◌≡◌, ℕ, true, false, List, get_or, IsTrue, Some, None, refl, arith}
use Rattle.std.specs.List.{list_all}
use Rattle.std.proofs.lemmas.Bool.Decides.{nat_tests}
use Rattle.std.proofs.lemmas.List.Sums.{AllPass-from_list_all}
use Rattle.http_header.specs.Token.{is_visible_or_blank, is_value_byte}
use Rattle.http_header.specs.FieldValue.{IsFieldValue}
use Rattle.oidc_cli.specs.Values.{content_type_of}

visible_is_value : (b : ℕ) → is_visible_or_blank b ≡ true → IsTrue (is_value_byte b)
visible_is_value b visible = grind (arith, nat_tests)

pub makes_value : (bytes : List ℕ) → list_all is_visible_or_blank bytes ≡ true → IsFieldValue bytes
makes_value bytes visible = λ k d within. visible_is_value (get_or bytes k d) (AllPass-from_list_all is_visible_or_blank bytes visible k d within)

pub is_content_type : (bytes : List ℕ) → list_all is_visible_or_blank bytes ≡ true → Some bytes ≡ content_type_of bytes
unfolding content_type_of
is_content_type bytes visible = rw visible refl

pub is_no_content_type : (bytes : List ℕ) → list_all is_visible_or_blank bytes ≡ false → None ≡ content_type_of bytes
unfolding content_type_of
is_no_content_type bytes other = rw other refl
