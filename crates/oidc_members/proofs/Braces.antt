-- When a text is an object, and what its pieces are.
use Rattle.std.proofs.Common.{◌≡◌, ℕ, ◌-◌, ◌<◌, ◌≤◌, Bool, true, false, eqb, ltb, ◌&&◌, List, [], length, get_or, ◌==◌, inl, inr, refl, sym, ap, ◌∙◌, arith}
use Rattle.std.specs.List.{list_all, slice_split, slice_range}
use Rattle.std.proofs.lemmas.Bool.{cases_eq}
use Rattle.std.proofs.lemmas.List.Folds.{list_all-map}
use Rattle.oidc_members.specs.Places.{comma, open_brace, close_brace, level, is_outside, is_at_level_one}
use Rattle.oidc_members.specs.Objects.{is_space, between, is_braced, pieces}
use Rattle.oidc_members.proofs.Cutting.{all_fails, bytes_of_places}

and_false : (a : Bool) → (a && false) ≡ false
and_false true = refl
and_false false = refl

pub braced_brace : (xs : List ℕ) → eqb (get_or xs 0 0) open_brace ≡ false → is_braced xs ≡ false
unfolding is_braced
braced_brace xs e = rw e refl

pub braced_end : (xs : List ℕ) → is_at_level_one xs close_brace (length xs - 1) ≡ false → is_braced xs ≡ false
unfolding is_braced
braced_end xs e = rw (e, and_false (eqb (get_or xs 0 0) open_brace)) refl

pub braced_short : (xs : List ℕ) → length xs < 2 → is_braced xs ≡ false
braced_short xs short =
    elim (eqb (get_or xs 0 0) open_brace) as (λ b. eqb (get_or xs 0 0) open_brace ≡ b → is_braced xs ≡ false)
    [ true ↦ λ e. braced_end xs (not_both e) | false ↦ λ e. braced_brace xs e ]
    refl
  where
    not_both : eqb (get_or xs 0 0) open_brace ≡ true → is_at_level_one xs close_brace (length xs - 1) ≡ false
    not_both e = let first : length xs - 1 ≡ 0 = omega arith in rw first (grind arith)

pub braced_level : (xs : List ℕ) (i : ℕ) → 1 ≤ i → i < length xs - 1 → ltb 0 (level xs i) ≡ false → is_braced xs ≡ false
unfolding is_braced
braced_level xs i low high e =
    rw (
      all_fails (λ k. ltb 0 (level xs k)) 1 i (length xs - 1) low high e,
      and_false (eqb (get_or xs 0 0) open_brace && is_at_level_one xs close_brace (length xs - 1)),
    ) refl

-- nothing stands open at a place behind the first
pub braced_flat : (xs : List ℕ) (i : ℕ) → 1 ≤ i → i ≤ length xs - 1 → level xs i ≡ 0 → is_braced xs ≡ false
braced_flat xs i low high flat =
    elim (cases_eq i (length xs - 1)) [
      | inl e ↦ braced_end xs (ap (is_at_level_one xs close_brace) (sym e) ∙ at_level_zero)
      | inr ne ↦ braced_level xs i low (omega arith) (ap (ltb 0) flat)
    ]
  where
    at_level_zero : is_at_level_one xs close_brace i ≡ false
    at_level_zero = ap (λ n. is_outside xs i && (n == 1) && (get_or xs i 0 == close_brace)) flat ∙ rw (and_false (is_outside xs i)) refl

pub braced : (xs : List ℕ) → eqb (get_or xs 0 0) open_brace ≡ true → is_at_level_one xs close_brace (length xs - 1) ≡ true
    → list_all (λ k. ltb 0 (level xs k)) (between xs) ≡ true → is_braced xs ≡ true
unfolding is_braced
braced xs first last levels = rw (first, last, levels) refl

pub pieces_blank : (xs : List ℕ) → list_all (λ i. is_space (get_or xs i 0)) (between xs) ≡ true → pieces xs ≡ []
unfolding pieces
pieces_blank xs e = rw e refl

pub pieces_cut : (xs : List ℕ) → list_all (λ i. is_space (get_or xs i 0)) (between xs) ≡ false
    → pieces xs ≡ slice_split (is_at_level_one xs comma) (between xs)
unfolding pieces
pieces_cut xs e = rw e refl

pub blank_between : (xs : List ℕ) → 1 < length xs → list_all is_space (slice_range xs 1 (length xs - 1)) ≡ list_all (λ i. is_space (get_or xs i 0)) (between xs)
blank_between xs some = ap (list_all is_space) (sym (bytes_of_places xs 1 (length xs - 1) (omega arith) (omega arith))) ∙ list_all-map is_space (λ i. get_or xs i 0) (between xs)
