-- A client that is found among registrations authenticates where its own registration says so.
use Rattle.std.proofs.Common.{◌≡◌, ℕ, List, [], ◌∷◌, Bool, true, false, ◌||◌, cond, Option, Some, refl, ap, sym, ◌∙◌}
use Rattle.std.specs.Prelude.{find}
use Rattle.std.specs.List.{list_any}
use Rattle.std.specs.Str.{bytes_eq}
use Rattle.std.specs.Cmp.Lexicographic.{bytes_decides}
use Rattle.oidc_provider.specs.declared.settings.Registration.{Registration}
use Rattle.oidc_provider.specs.Settings.{registered}

same_Some : {A : Type 0} (x y : A) → ◌≡◌ {A = Option A} (Some x) (Some y) → x ≡ y
same_Some x y e = cc

module _ {A : Type 0} (test f : A → Bool) where
  found_step : (b : Bool) (x y : A) (later : List A) → test x ≡ b → cond b (Some x) (find test later) ≡ Some y
      → (find test later ≡ Some y → f y ≡ true → list_any f later ≡ true) → f y ≡ true → (f x || list_any f later) ≡ true
  found_step true x y later is found go holds =
      let same : x ≡ y = same_Some x y found in
      let own : f x ≡ true = ap f same ∙ holds in
      rw own refl
  found_step false x y later is found go holds =
      let rest : list_any f later ≡ true = go found holds in
      elim (f x) as (λ b. (b || list_any f later) ≡ true) [ true ↦ refl | false ↦ rest ]

  pub any_of_found : (list : List A) (y : A) → find test list ≡ Some y → f y ≡ true → list_any f list ≡ true
  any_of_found [] y found holds = absurd cc
  any_of_found (x ∷ later) y found holds = found_step (test x) x y later refl found (any_of_found later y) holds

  test_step : (b : Bool) (x y : A) (later : List A) → test x ≡ b → cond b (Some x) (find test later) ≡ Some y
      → (find test later ≡ Some y → test y ≡ true) → test y ≡ true
  test_step true x y later is found go = ap test (sym (same_Some x y found)) ∙ is
  test_step false x y later is found go = go found

  pub test_of_found : (list : List A) (y : A) → find test list ≡ Some y → test y ≡ true
  test_of_found [] y found = absurd cc
  test_of_found (x ∷ later) y found = test_step (test x) x y later refl found (test_of_found later y)

pub same_text : (x : List ℕ) → bytes_eq x x ≡ true
same_text x = (bytes_decides x x).1 refl

pub equal_texts : (x y : List ℕ) → x ≡ y → bytes_eq x y ≡ true
equal_texts x y e = (bytes_decides x y).1 e

-- the registration that is found under an ID has it
pub own_id : (registrations : List Registration) (id : List ℕ) (client : Registration) → registered registrations id ≡ Some client → client.client_id ≡ id
own_id registrations id client found =
    (bytes_decides client.client_id id).0 (test_of_found (λ r. bytes_eq r.client_id id) (λ r. true) registrations client found)
