-- Making the keys that check signatures one after another.
use Rattle.std.proofs.Common.{◌≡◌, ◌∙◌, ℕ, ◌+◌, ◌<◌, true, false, List, [], ◌∷◌, ◌++◌, length, take, get_or, refl, sym, ap, subst, append-nil, Option, Some, None, option_map, option_and_then}
use Rattle.std.specs.List.{All, filter}
use Rattle.std.specs.Option.{option_or, option_to_list}
use Rattle.std.proofs.lemmas.List.{take_more}
use Rattle.std.proofs.lemmas.List.Elements.{All-push, All-same, filter_more, filter_map-append}
use Rattle.std.proofs.lemmas.Option.{slice_get_read}
use Rattle.oidc_types.specs.declared.core_algorithms.CoreJwsSigningAlgorithm.{CoreJwsSigningAlgorithm}
use Rattle.oidc_rsa.specs.declared.key_operation.KeyOperation.{KeyOperation}
use Rattle.oidc_rsa.specs.ProviderKey.{SeenProviderKey, KeyMaterial, bare}
use Rattle.oidc_key_sets.specs.Keys.{SeenRsaKey}
use Rattle.oidc_key_sets.specs.SigningKeys.{AreSaidKeys, IsAllowed, IsDescribed, IsFirstRefused, IsSaidKey, checks_signatures, operation_named, operations_named, purpose_named, algorithm_named}

pub said_more : (saids : List SeenRsaKey) (keys : List SeenProviderKey) (said : SeenRsaKey) (key : SeenProviderKey)
    → AreSaidKeys saids keys → IsSaidKey said key → AreSaidKeys (saids ++ said ∷ []) (keys ++ key ∷ [])
said_more [] [] said key are is = (is, tt)
said_more [] (k ∷ keys) said key are is = absurd are
said_more (s ∷ saids) [] said key are is = absurd are
said_more (s ∷ saids) (k ∷ keys) said key are is = (are.0, said_more saids keys said key are.1 is)

-- the keys that check signatures, of those that came
abbrev pub came : List SeenRsaKey → ℕ → List SeenRsaKey
came set place = filter checks_signatures (take place set)

-- one more key of a set
module _ (set : List SeenRsaKey) (place : ℕ) (said : SeenRsaKey) (in_set : place < length set) (at_place : said ≡ get_or set place said) where
  -- that does
  one_more : checks_signatures said ≡ true → came set (place + 1) ≡ came set place ++ said ∷ []
  one_more may = filter_more checks_signatures set place said in_set ∙ rw (sym at_place, may) refl

  -- that doesn't
  none_more : checks_signatures said ≡ false → came set (place + 1) ≡ came set place
  none_more not = filter_more checks_signatures set place said in_set ∙ rw (sym at_place, not) (append-nil (came set place))

  module _ (keys now : List SeenProviderKey) (are : AreSaidKeys (came set place) keys) where
    pub keys_more : (key : SeenProviderKey) → checks_signatures said ≡ true → now ≡ keys ++ key ∷ [] → IsSaidKey said key
        → AreSaidKeys (came set (place + 1)) now
    keys_more key may is_now is =
        let more = said_more (came set place) keys said key are is in
        let for_now = subst (λ ks. AreSaidKeys (came set place ++ said ∷ []) ks) (sym is_now) more in
        subst (λ saids. AreSaidKeys saids now) (sym (one_more may)) for_now

    pub keys_same : checks_signatures said ≡ false → now ≡ keys → AreSaidKeys (came set (place + 1)) now
    keys_same not is_now =
        let for_now = subst (λ ks. AreSaidKeys (came set place) ks) (sym is_now) are in
        subst (λ saids. AreSaidKeys saids now) (sym (none_more not)) for_now

  module _ (all : All IsAllowed (came set place)) where
    pub allowed_more : checks_signatures said ≡ true → IsAllowed said → All IsAllowed (came set (place + 1))
    allowed_more may here =
        All-same IsAllowed (came set (place + 1)) (came set place ++ said ∷ []) (one_more may) (All-push IsAllowed (came set place) said all here)

    pub allowed_same : checks_signatures said ≡ false → All IsAllowed (came set (place + 1))
    allowed_same not = All-same IsAllowed (came set (place + 1)) (came set place) (none_more not) all

    pub first_refused : (whole : List SeenRsaKey) → set ≡ whole → (Why : SeenRsaKey → Type 0)
        → checks_signatures said ≡ true → Why said → IsFirstRefused whole place Why
    first_refused whole same Why may why = subst (λ s. IsFirstRefused s place Why) same (record {
      said = said;
      at_place = slice_get_read set (length set) place said refl in_set at_place;
      checks = may;
      why = why;
      before = all;
    })

-- ---- what a key says of itself

of_one : (text : List ℕ) (found : Option KeyOperation) → operation_named text ≡ found
    → operations_named (text ∷ []) ≡ option_to_list found
of_one text None e = rw e refl
of_one text (Some operation) e = rw e refl

-- the operations of one name more, which is one of theirs or isn't
pub named_more : (texts : List (List ℕ)) (place : ℕ) (text : List ℕ) (found : Option KeyOperation)
    → place < length texts → get_or texts place text ≡ text → operation_named text ≡ found
    → operations_named (take (place + 1) texts) ≡ operations_named (take place texts) ++ option_to_list found
named_more texts place text found in_texts at_place e =
    ap operations_named (take_more texts place text in_texts)
    ∙ filter_map-append operation_named (take place texts) (get_or texts place text ∷ [])
    ∙ ap (λ t. operations_named (take place texts) ++ operations_named (t ∷ [])) at_place
    ∙ ap (λ names. operations_named (take place texts) ++ names) (of_one text found e)

or_none : {A : Type 0} (o : Option A) → option_or o None ≡ o
or_none None = refl
or_none (Some x) = refl

-- one part after another
pub described_by : (said : SeenRsaKey) (material : KeyMaterial) (key with_id with_purpose with_operations made : SeenProviderKey)
    (id purpose : Option (List ℕ)) (operations : Option (List (List ℕ))) (alg : Option CoreJwsSigningAlgorithm)
    → key ≡ bare material
    → id ≡ said.id → with_id ≡ record key { id = option_or id key.id }
    → purpose ≡ said.purpose
    → with_purpose ≡ record with_id { purpose = option_or (option_map purpose_named purpose) with_id.purpose }
    → operations ≡ said.operations
    → with_operations ≡ record with_purpose { operations = option_or (option_map operations_named operations) with_purpose.operations }
    → alg ≡ option_and_then algorithm_named said.algorithm
    → made ≡ record with_operations { alg = option_or alg with_operations.alg }
    → IsDescribed said key.material made
described_by said material key k1 k2 k3 made id purpose operations alg is_bare is_id of_id is_purpose of_purpose is_operations of_operations is_alg of_alg =
    record {
      same = ap (λ k. k.material) of_alg ∙ ap (λ k. k.material) of_operations ∙ ap (λ k. k.material) of_purpose ∙ ap (λ k. k.material) of_id;
      id = ap (λ k. k.id) of_alg ∙ ap (λ k. k.id) of_operations ∙ ap (λ k. k.id) of_purpose ∙ ap (λ k. k.id) of_id
          ∙ ap (λ k. option_or id k.id) is_bare ∙ or_none id ∙ is_id;
      purpose = ap (λ k. k.purpose) of_alg ∙ ap (λ k. k.purpose) of_operations ∙ ap (λ k. k.purpose) of_purpose
          ∙ ap (λ k. option_or (option_map purpose_named purpose) k.purpose) of_id
          ∙ ap (λ k. option_or (option_map purpose_named purpose) k.purpose) is_bare
          ∙ or_none (option_map purpose_named purpose) ∙ ap (option_map purpose_named) is_purpose;
      alg = ap (λ k. k.alg) of_alg ∙ ap (λ k. option_or alg k.alg) of_operations ∙ ap (λ k. option_or alg k.alg) of_purpose
          ∙ ap (λ k. option_or alg k.alg) of_id ∙ ap (λ k. option_or alg k.alg) is_bare ∙ or_none alg ∙ is_alg;
      operations = ap (λ k. k.operations) of_alg ∙ ap (λ k. k.operations) of_operations
          ∙ ap (λ k. option_or (option_map operations_named operations) k.operations) of_purpose
          ∙ ap (λ k. option_or (option_map operations_named operations) k.operations) of_id
          ∙ ap (λ k. option_or (option_map operations_named operations) k.operations) is_bare
          ∙ or_none (option_map operations_named operations) ∙ ap (option_map operations_named) is_operations;
    }
