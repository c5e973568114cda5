-- The query that names a grant is read back.
use Rattle.std.proofs.Common.{◌≡◌, ℕ, List, [], ◌∷◌, All, Result, Ok, Err, refl, ap, ◌∙◌, String, string_bytes}
use Rattle.std.specs.Prelude.{codes, IsUtf8, IfOk}
use Rattle.std.proofs.lemmas.List.Elements.{All-cons, All-nil}
use Rattle.oidc_pairs.specs.Pairs.{pairs, IsTextPair}
use Rattle.oidc_pairs.proofs.Theorems.{pairs-form}
use Rattle.oidc_provider.proofs.AsciiNames.{ascii}
use Rattle.oidc_provider.specs.Authorization.{callback_pairs, callback_query}

code_name : IsUtf8 (codes "code")
code_name = ascii (codes "code") refl

state_name : IsUtf8 (codes "state")
state_name = ascii (codes "state") refl

module _ (code state : List ℕ) (c : IsUtf8 code) (s : IsUtf8 state) where
  texts : All IsTextPair (callback_pairs code state)
  texts =
      All-cons IsTextPair (codes "code", code) ((codes "state", state) ∷ []) (code_name, c)
      (All-cons IsTextPair (codes "state", state) [] (state_name, s) (All-nil IsTextPair))

  pub named : {Y E : Type 0} (result : Result (String Y) E) → IfOk result (λ query. string_bytes query ≡ callback_query code state)
      → IfOk result (λ query. pairs (string_bytes query) ≡ callback_pairs code state)
  named (Ok query) is = ap pairs is ∙ pairs-form (callback_pairs code state) texts
  named (Err e) is = tt
