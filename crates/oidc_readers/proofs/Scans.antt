-- One pass over bytes, and what it shows of the places that it passes.
use Rattle.std.proofs.Common.{◌≡◌, ℕ, zero, suc, ◌+◌, ◌<◌, ◌≤◌, Bool, true, false, not, cond, eqb, ltb, ◌&&◌, ◌||◌, ◌⊎◌, inl, inr, List, [], ◌∷◌, ◌++◌, length, drop, get_or, refl, sym, ap, ◌∙◌, subst, arith}
use Rattle.std.proofs.lemmas.Bool.{and_parts, cases_eq, false≢true, lt-ltb, ne_eqb, true≢false}
use Rattle.std.proofs.lemmas.List.{get_or-drop, drop-drop, length-drop}
use Rattle.oidc_members.specs.Places.{is_even, backslashes, is_unescaped_quote, is_outside, opened, closed, level, is_at_level_one}
use Rattle.oidc_members.proofs.Theorems.{outside_more, opened_more, closed_more, escapes_more, nothing_before}

-- whether the place is inside a string, whether an odd number of backslashes stands before it, and its level
pub record State : Type 0 where
  pub inside : Bool
  pub escaped : Bool
  pub level : ℕ

abbrev pub is_opening : ℕ → Bool
is_opening b = eqb b 123 || eqb b 91

abbrev pub is_closing : ℕ → Bool
is_closing b = eqb b 125 || eqb b 93

abbrev pub lower : ℕ → ℕ
lower zero = zero
lower (suc l) = l

abbrev pub level_after : Bool → Bool → Bool → ℕ → ℕ
level_after true opening closing l = l
level_after false true closing l = suc l
level_after false false true l = lower l
level_after false false false l = l

abbrev pub step : ℕ → State → State
step b s = record {
  inside = cond (eqb b 34 && not s.escaped) (not s.inside) s.inside;
  escaped = eqb b 92 && not s.escaped;
  level = level_after s.inside (is_opening b) (is_closing b) s.level;
}

abbrev pub is_positive : ℕ → Bool
is_positive zero = false
is_positive (suc l) = true

abbrev pub is_one : ℕ → Bool
is_one zero = false
is_one (suc zero) = true
is_one (suc (suc l)) = false

-- the place has a level, and is no outside comma or colon of level 1
abbrev pub is_quiet : ℕ → State → Bool
is_quiet b s = is_positive s.level && not (not s.inside && ((eqb b 44 || eqb b 58) && is_one s.level))

-- the bytes lead from one state to the other, and each is quiet
abbrev pub Runs : State → List ℕ → State → Type 0
Runs s [] t = s ≡ t
Runs s (b ∷ bs) t = (is_quiet b s ≡ true) × Runs (step b s) bs t

pub runs_on : (ys zs : List ℕ) (s t u : State) → Runs s ys t → Runs t zs u → Runs s (ys ++ zs) u
runs_on [] zs s t u first then = subst (λ v. Runs v zs u) (sym first) then
runs_on (b ∷ bs) zs s t u first then = (first.0, runs_on bs zs (step b s) t u first.1 then)

-- what the definitions of places say of a state
pub record At (xs : List ℕ) (i : ℕ) (s : State) : Type 0 where
  pub outside : is_outside xs i ≡ not s.inside
  pub escapes : is_even (backslashes xs i) ≡ not s.escaped
  pub level : closed xs i + s.level ≡ opened xs i

-- ---- one step

one_kind : (b : ℕ) → is_opening b ≡ true → is_closing b ≡ false
one_kind b e = go (cases_eq b 123) (cases_eq b 91)
  where
    go : (b ≡ 123) ⊎ (b ≡ 123 → ⊥) → (b ≡ 91) ⊎ (b ≡ 91 → ⊥) → is_closing b ≡ false
    go (inl is) c = ap is_closing is
    go (inr a) (inl is) = ap is_closing is
    go (inr a) (inr c) = absurd (false≢true (sym (λ i. ne_eqb b 123 a i || ne_eqb b 91 c i) ∙ e))

quote_step : (c inside : Bool) → cond c (not (not inside)) (not inside) ≡ not (cond c (not inside) inside)
quote_step true inside = refl
quote_step false inside = refl

level_step : (inside o c : Bool) (cl l op : ℕ) → (o ≡ true → c ≡ false) → (c ≡ true → 0 < l) → cl + l ≡ op
    → (cl + cond (not inside && c) 1 0) + level_after inside o c l ≡ op + cond (not inside && o) 1 0
level_step true o c cl l op kinds deep e = omega arith
level_step false true true cl l op kinds deep e = absurd (true≢false (kinds refl))
level_step false true false cl l op kinds deep e = omega arith
level_step false false true cl zero op kinds deep e = absurd (omega (arith, deep refl))
level_step false false true cl (suc l) op kinds deep e = omega arith
level_step false false false cl l op kinds deep e = omega arith

quote_here : (xs : List ℕ) (i : ℕ) (s : State) (b : ℕ) → get_or xs i 0 ≡ b → At xs i s → is_unescaped_quote xs i ≡ (eqb b 34 && not s.escaped)
unfolding is_unescaped_quote
quote_here xs i s b is at = λ j. eqb (is j) 34 && at.escapes j

pub at_step : (xs : List ℕ) (i : ℕ) (s : State) (b : ℕ) → i < length xs → get_or xs i 0 ≡ b → (is_closing b ≡ true → 0 < s.level) → At xs i s → At xs (i + 1) (step b s)
at_step xs i s b lt is deep at = record {
  outside = outside_more xs i ∙ (λ j. cond (quote_here xs i s b is at j) (not (at.outside j)) (at.outside j)) ∙ quote_step (eqb b 34 && not s.escaped) s.inside;
  escapes = escapes_more xs i lt ∙ (λ j. not (eqb (is j) 92 && at.escapes j));
  level =
      (λ j. closed_more xs i j + level_after s.inside (is_opening b) (is_closing b) s.level)
      ∙ (λ j. (closed xs i + cond (at.outside j && is_closing (is j)) 1 0) + level_after s.inside (is_opening b) (is_closing b) s.level)
      ∙ level_step s.inside (is_opening b) (is_closing b) (closed xs i) s.level (opened xs i) (one_kind b) deep at.level
      ∙ (λ j. opened xs i + cond (sym at.outside j && is_opening (sym is j)) 1 0) ∙ sym (opened_more xs i);
}

-- ---- a quiet place

pub record QuietAt (xs : List ℕ) (k : ℕ) : Type 0 where
  pub comma : is_at_level_one xs 44 k ≡ false
  pub colon : is_at_level_one xs 58 k ≡ false
  pub level : ltb 0 (level xs k) ≡ true

quiet_marks : (inside one a b : Bool) → not (not inside && ((a || b) && one)) ≡ true → ((not inside && one && a) ≡ false) × ((not inside && one && b) ≡ false)
quiet_marks true one a b h = (refl, refl)
quiet_marks false false a b h = (refl, refl)
quiet_marks false true true b h = absurd (false≢true h)
quiet_marks false true false true h = absurd (false≢true h)
quiet_marks false true false false h = (refl, refl)

positive : (l : ℕ) → is_positive l ≡ true → 0 < l
positive zero h = absurd (false≢true h)
positive (suc l) h = omega arith

ones : (l : ℕ) → eqb l 1 ≡ is_one l
ones zero = refl
ones (suc zero) = refl
ones (suc (suc l)) = ne_eqb (suc (suc l)) 1 (λ e. omega arith)

pub level_at : (xs : List ℕ) (i : ℕ) (s : State) → At xs i s → level xs i ≡ s.level
level_at xs i s at = omega (arith, at.level)

pub mark_at : (xs : List ℕ) (i : ℕ) (s : State) (b c : ℕ) → get_or xs i 0 ≡ b → At xs i s → is_at_level_one xs c i ≡ (not s.inside && is_one s.level && eqb b c)
mark_at xs i s b c is at = (λ j. at.outside j && eqb (level_at xs i s at j) 1 && eqb (is j) c) ∙ (λ j. not s.inside && ones s.level j && eqb b c)

quiet_here : (xs : List ℕ) (i : ℕ) (s : State) (b : ℕ) → get_or xs i 0 ≡ b → is_quiet b s ≡ true → At xs i s → QuietAt xs i
quiet_here xs i s b is quiet at =
    let p = and_parts (is_positive s.level) _ quiet in
    let m = quiet_marks s.inside (is_one s.level) (eqb b 44) (eqb b 58) p.1 in
    record {
      comma = mark_at xs i s b 44 is at ∙ m.0;
      colon = mark_at xs i s b 58 is at ∙ m.1;
      level = lt-ltb 0 (level xs i) (omega (arith, level_at xs i s at, positive s.level p.0));
    }

-- ---- many steps

pub record Passed (xs : List ℕ) (i j : ℕ) (rest : List ℕ) (t : State) : Type 0 where
  pub at : At xs j t
  pub left : drop j xs ≡ rest
  pub within : j ≤ length xs
  pub quiet : (k : ℕ) → i ≤ k → k < j → QuietAt xs k

pub record First (xs : List ℕ) (i b : ℕ) (rest : List ℕ) : Type 0 where
  pub within : i < length xs
  pub here : get_or xs i 0 ≡ b
  pub left : drop (i + 1) xs ≡ rest

pub first_of : (xs : List ℕ) (i b : ℕ) (rest : List ℕ) → drop i xs ≡ b ∷ rest → First xs i b rest
first_of xs i b rest is = record {
  within = omega (arith, length-drop i xs, ap length is);
  here = (λ j. get_or xs (plus j) 0) ∙ sym (get_or-drop i xs 0 0) ∙ ap (λ l. get_or l 0 0) is;
  left = sym (drop-drop 1 i xs) ∙ ap (drop 1) is;
}
  where
    plus : i ≡ i + 0
    plus = omega arith

pub passes : (ys xs rest : List ℕ) (i j : ℕ) (s t : State) → i ≤ length xs → j ≡ i + length ys → drop i xs ≡ ys ++ rest → Runs s ys t → At xs i s → Passed xs i j rest t
passes [] xs rest i j s t low far is runs at =
    let same : i ≡ j = omega arith in
    record {
      at = subst (λ k. At xs k t) same (subst (λ v. At xs i v) runs at);
      left = ap (λ k. drop k xs) (sym same) ∙ is;
      within = omega arith;
      quiet = λ k a b. absurd (omega arith);
    }
passes (b ∷ bs) xs rest i j s t low far is runs at =
    let f = first_of xs i b (bs ++ rest) is in
    let deep = positive s.level (and_parts (is_positive s.level) _ runs.0).0 in
    let next = at_step xs i s b f.within f.here (λ c. deep) at in
    let more = passes bs xs rest (i + 1) j (step b s) t (omega (arith, f.within)) (omega arith) f.left runs.1 next in
    record {
      at = more.at;
      left = more.left;
      within = more.within;
      quiet = λ k a c. elim (cases_eq k i) [
        | inl e ↦ subst (QuietAt xs) (sym e) (quiet_here xs i s b f.here runs.0 at)
        | inr ne ↦ more.quiet k (omega arith) c
      ];
    }

-- ---- the start

abbrev pub outside_at : ℕ → State
outside_at l = record { inside = false; escaped = false; level = l }

pub at_start : (xs : List ℕ) → At xs 0 (outside_at 0)
at_start xs = let n = nothing_before xs in record { outside = n.0; escapes = ap is_even n.1; level = omega (arith, n.2, n.3) }
