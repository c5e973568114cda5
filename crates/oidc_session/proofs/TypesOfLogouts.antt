-- The media types of logout tokens, with and without the prefix that may be left out.
use Rattle.std.proofs.Common.{◌≡◌, ℕ, List, [], ◌∷◌, ◌++◌, Bool, true, false, Some, refl, sym, ap, ◌∙◌, take, drop}
use Rattle.std.proofs.lemmas.List.{take-append-drop}
use Rattle.std.specs.Prelude.{codes, nat_eq, if◌then◌else◌}
use Rattle.std.specs.List.{list_any, starts_with}
use Rattle.std.specs.Str.{bytes_eq, str_to_ascii_lowercase}
use Rattle.std.proofs.lemmas.Bool.{true≢false}
use Rattle.std.proofs.lemmas.Slice.Eq.{bytes_eq-Decides}
use Rattle.oidc_session.specs.LogoutTokens.{is_logout_type}

abbrev prefix : List ℕ
prefix = codes "application/"

abbrev short_names : List (List ℕ)
short_names = codes "logout+jwt" ∷ codes "jwt" ∷ []

abbrev pub names : List (List ℕ)
names = codes "logout+jwt" ∷ codes "jwt" ∷ codes "application/logout+jwt" ∷ codes "application/jwt" ∷ []

begins : (text : List ℕ) → starts_with nat_eq text prefix ≡ true → text ≡ prefix ++ drop 12 text
begins text h = sym (take-append-drop 12 text) ∙ ap (λ t. t ++ drop 12 text) (sym ((bytes_eq-Decides prefix (take 12 text)).0 h))

other : (text rest : List ℕ) (b : Bool) → bytes_eq text (prefix ++ rest) ≡ b → starts_with nat_eq text prefix ≡ false → b ≡ false
other text rest true is h =
    absurd (true≢false (sym (ap (λ t. starts_with nat_eq t prefix) ((bytes_eq-Decides text (prefix ++ rest)).0 is)) ∙ h))
other text rest false is h = refl

by_prefix : (text : List ℕ) (b : Bool) → starts_with nat_eq text prefix ≡ b
    → list_any (λ name. bytes_eq text name) names ≡ list_any (bytes_eq (if b then drop 12 text else text)) short_names
by_prefix text true h =
    ap (λ t. list_any (λ name. bytes_eq t name) names) (begins text h)
by_prefix text false h =
    rw (other text (codes "logout+jwt") _ refl h, other text (codes "jwt") _ refl h) refl

pub logout_types : (typ : List ℕ) → list_any (λ name. bytes_eq (str_to_ascii_lowercase typ) name) names ≡ is_logout_type (Some typ)
logout_types typ = by_prefix (str_to_ascii_lowercase typ) _ refl
