-- The definitions, computed on small texts.
use Rattle.std.specs.Prelude.{⊤, ◌≡◌, ℕ, List, [], ◌∷◌, codes, true, Ok, Err, refl}
use Rattle.serde_json.specs.Data.{Data, boolean, number, unsigned, string, array, object, item, no_items, member, no_members}
use Rattle.std.specs.Str.{is_utf8, chars}
use Rattle.serde_json.proofs.OnLiterals.{serde_json_on_literals}
use Rattle.oidc_members.specs.declared.refusal.ParseKind.TheVariants.{Syntax, Number}
use Rattle.oidc_members.specs.Places.{backslashes, is_unescaped_quote, is_outside, opened, closed}
use Rattle.oidc_members.specs.Objects.{trimmed, is_braced, pieces, halves, member_of, loose_members_of, members_of, of_text, split_of}
use Rattle.oidc_members.specs.Seen.{SeenMember}
use Rattle.oidc_members.specs.Write.{object_text}

unfoldable on_literals : ⊤
unfolding split_of loose_members_of members_of trimmed is_braced pieces halves member_of opened closed is_outside is_unescaped_quote backslashes is_utf8 chars serde_json_on_literals
on_literals = tt

abbrev whole : ℕ → Data
whole n = number (unsigned n)

abbrev seen : List ℕ → Data → List ℕ → SeenMember
seen name value text = record { name = name; value = value; text = text }

empty_object : split_of (codes "{}") ≡ Ok []
unfolding on_literals
empty_object = refl

blank_object : split_of (codes " { \n } ") ≡ Ok []
unfolding on_literals
blank_object = refl

one_member : split_of (codes "{\"a\":1}") ≡ Ok (seen (codes "a") (whole 1) (codes "1") ∷ [])
unfolding on_literals
one_member = refl

two_members : split_of (codes "{\"a\":\"x,y\",\"b\":[1,{\"c\":2}]}")
    ≡ Ok (seen (codes "a") (string (codes "x,y")) (codes "\"x,y\"")
    ∷ seen (codes "b") (array (item (whole 1) (item (object (member (codes "c") (whole 2) no_members)) no_items))) (codes "[1,{\"c\":2}]") ∷ [])
unfolding on_literals
two_members = refl

escapes : split_of (codes "{\"a\\\"\":1,\"b\\\\\":2}")
    ≡ Ok (seen (codes "a\"") (whole 1) (codes "1") ∷ seen (codes "b\\") (whole 2) (codes "2") ∷ [])
unfolding on_literals
escapes = refl

duplicates : split_of (codes "\n{ \"a\" : 1 ,\t\"a\":2} ")
    ≡ Ok (seen (codes "a") (whole 1) (codes "1") ∷ seen (codes "a") (whole 2) (codes "2") ∷ [])
unfolding on_literals
duplicates = refl

comma_at_end : split_of (codes "{\"a\":1,}") ≡ Err (of_text Syntax)
unfolding on_literals
comma_at_end = refl

no_colon : split_of (codes "{\"a\" 1}") ≡ Err (of_text Syntax)
unfolding on_literals
no_colon = refl

more_behind : split_of (codes "{\"a\":1}x") ≡ Err (of_text Syntax)
unfolding on_literals
more_behind = refl

two_objects : split_of (codes "{}{}") ≡ Err (of_text Syntax)
unfolding on_literals
two_objects = refl

brace_alone : split_of (codes "{") ≡ Err (of_text Syntax)
unfolding on_literals
brace_alone = refl

nothing : split_of [] ≡ Err (of_text Syntax)
unfolding on_literals
nothing = refl

float_alone : split_of (codes "{\"a\":1.5}") ≡ Err (of_text Number)
unfolding on_literals
float_alone = refl

float_and_no_end : split_of (codes "{\"a\":1.5") ≡ Err (of_text Syntax)
unfolding on_literals
float_and_no_end = refl

minus_zero : split_of (codes "{\"a\":-0}") ≡ Err (of_text Number)
unfolding on_literals
minus_zero = refl

written : object_text (record { name = codes "a"; value = boolean true } ∷ record { name = codes "a"; value = string (codes "\"") } ∷ []) ≡ codes "{\"a\":true,\"a\":\"\\\"\"}"
unfolding on_literals
written = refl
