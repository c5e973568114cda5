-- The text that is written of a set is read as that set.
use Rattle.std.proofs.Common.{◌≡◌, ◌∙◌, ◌≤◌, ℕ, List, length, All, Result, Ok, Err, Some, IfOk, inr, ap, sym, subst}
use Rattle.std.specs.Str.{IsUtf8}
use Rattle.json.specs.Json.{Json, document, max_depth}
use Rattle.json.specs.Tree as tree
use Rattle.oidc_key_sets.specs.Codes.{HasNumbers}
use Rattle.oidc_key_sets.specs.Keys.{SeenRsaKey}
use Rattle.oidc_key_sets.specs.KeySets.{IsReadAs}
use Rattle.oidc_key_sets.specs.Written.{written_set}
use Rattle.oidc_key_sets.proofs.Written.{set_back, set_depth, set_numbers, set_unique}

-- a value that is that of a set
module _ (ks : List SeenRsaKey) (value : Json) (same : value ≡ written_set ks) where
  pub has_numbers : tree.HasNumbers value
  has_numbers = subst tree.HasNumbers (sym same) (set_numbers ks)

  nests : tree.depth value ≤ max_depth
  nests = subst (λ v. tree.depth v ≤ max_depth) (sym same) (set_depth ks)

  -- what is written of it, where there was memory
  module _ {V E : Type 0} (text_of : V → List ℕ) where
    pub written_text : (written : Result V E)
        → IfOk written (λ v. tree.depth value ≤ max_depth → document (text_of v) ≡ Some value)
        → IfOk written (λ v. document (text_of v) ≡ Some (written_set ks))
    written_text (Ok v) reads = reads nests ∙ ap Some same
    written_text (Err e) reads = tt

    pub read_back : (written : Result V E) → All HasNumbers ks → length ks ≤ 256
        → IfOk written (λ v. IsUtf8 (text_of v))
        → IfOk written (λ v. document (text_of v) ≡ Some (written_set ks))
        → IfOk written (λ v. IsReadAs (text_of v) (Ok ks))
    read_back (Ok v) numbers few utf8 of_text = inr (inr (record {
      value = written_set ks;
      plain = record { of_text = (utf8, of_text); unique = set_unique ks };
      said = set_back ks numbers few;
    }))
    read_back (Err e) numbers few utf8 of_text = tt
