use Rattle.std.proofs.Common.{ℕ, ◌+◌, ◌==◌, length, take, drop, sym, ap, ◌∙◌, arith, take_all}
use Rattle.std.proofs.lemmas.List.Sums.{position_or_len_is}
use Rattle.std.proofs.lemmas.List.{take_rest, drop_all, length-drop}
use Rattle.oidc_pairs.proofs.DecodedBytes.{is_false}
use Rattle.oidc_pairs.proofs.front.cut.Goals as goal

pub returns-in-Some : goal.returns-in-Some
returns-in-Some c =
    let bytes = c.args.bytes.now in
    let found = c.in-Some.ensures in
    let at = position_or_len_is (λ (b : ℕ). b == c.args.separator) bytes c.in-Some.i 0 (omega (arith, found.0.high))
    (λ k less. is_false _ (found.0.before k (omega arith) less)) (λ _. found.1) in
    record {
      before = ap (λ n. take n bytes) (sym at);
      behind = take_rest bytes _ ∙ ap (λ n. drop (n + 1) bytes) (sym at);
      shorter = λ some. rw (take_rest bytes (c.in-Some.i + 1)) (omega (arith, length-drop (c.in-Some.i + 1) bytes));
    }

pub returns-in-None : goal.returns-in-None
returns-in-None c =
    let bytes = c.args.bytes.now in
    let none = position_or_len_is (λ (b : ℕ). b == c.args.separator) bytes (length bytes) 0 (omega arith)
    (λ k less. is_false _ (c.in-None.ensures k (omega arith) less)) (λ less. absurd (omega arith)) in
    record {
      before = sym (ap (λ n. take n bytes) none ∙ take_all (length bytes) bytes (omega arith));
      behind = sym (ap (λ n. drop (n + 1) bytes) none ∙ drop_all (length bytes + 1) bytes (omega arith));
      shorter = λ some. some;
    }
