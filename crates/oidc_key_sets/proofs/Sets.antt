-- Reading the keys of a set one after another.
use Rattle.std.proofs.Common.{◌≡◌, ℕ, ◌+◌, ◌<◌, ◌≤◌, nat_lt, true, false, List, [], ◌∷◌, ◌++◌, length, Option, Some, None, Result, Ok, Err, refl, sym, ap, ◌∙◌, append_assoc, add-one, arith}
use Rattle.std.proofs.lemmas.Bool.Decides.{nat_tests}
use Rattle.std.proofs.lemmas.List.{append-nil}
use Rattle.json.specs.Json.{Json, Items, item}
use Rattle.json.specs.Value.{items_view}
use Rattle.json.specs.declared.value.Value.{Value}
use Rattle.oidc_readers.specs.Records.{◌>>=◌}
use Rattle.oidc_key_sets.specs.declared.errors.KeyError.{KeyError}
use Rattle.oidc_key_sets.specs.declared.errors.KeySetError.{KeySetError}
use Rattle.oidc_key_sets.specs.declared.errors.KeySetError.TheVariants.{Key, TooMany}
use Rattle.oidc_key_sets.specs.Keys.{SeenRsaKey, key_in}
use Rattle.oidc_key_sets.specs.KeySets.{with_key, keys_from, keys_among, count_of}

abbrev Read : Type 0
Read = Result (List SeenRsaKey) KeySetError

-- the keys that came, and those of the rest
abbrev pub after : List SeenRsaKey → Read → Read
after keys (Ok more) = Ok (keys ++ more)
after keys (Err e) = Err e

after_one : (keys : List SeenRsaKey) (key : Option SeenRsaKey) (rest : Read)
    → after keys (rest >>= λ more. Ok (with_key key more)) ≡ after (keys ++ with_key key []) rest
after_one keys None (Ok more) = ap Ok (ap (λ front. front ++ more) (sym (append-nil keys)))
after_one keys None (Err e) = refl
after_one keys (Some key) (Ok more) = ap Ok (sym (append_assoc keys (key ∷ []) more))
after_one keys (Some key) (Err e) = refl

-- one more value, whose key is this, or which is left out
pub took : (keys : List SeenRsaKey) (place : ℕ) (value : Json) (rest : Items) (key : Option SeenRsaKey)
    → key_in value ≡ Ok key
    → after keys (keys_from place (item value rest)) ≡ after (keys ++ with_key key []) (keys_from (place + 1) rest)
took keys place value rest key read = rw read (after_one keys key (keys_from (place + 1) rest))

-- a value that is refused
pub stopped : (keys : List SeenRsaKey) (place : ℕ) (value : Json) (rest : Items) (error : KeyError)
    → key_in value ≡ Err error → after keys (keys_from place (item value rest)) ≡ Err (Key place error)
stopped keys place value rest error read = rw read refl

-- a set has as many values as the code sees
pub count : {A : Type 0} (values : List (Value A)) → count_of (items_view values) ≡ length values
count [] = refl
count (value ∷ values) = ap (λ n. n + 1) (count values) ∙ add-one (length values)

above : (bound n : ℕ) → bound < n → nat_lt bound n ≡ true
above bound n h = grind (arith, nat_tests)

not_above : (bound n : ℕ) → n ≤ bound → nat_lt bound n ≡ false
not_above bound n h = grind (arith, nat_tests)

pub too_many : {A : Type 0} (values : List (Value A)) → 256 < length values → keys_among (items_view values) ≡ Err TooMany
too_many values h = rw (count values, above 256 (length values) h) refl

pub few_enough : {A : Type 0} (values : List (Value A)) → length values ≤ 256
    → keys_among (items_view values) ≡ keys_from 0 (items_view values)
few_enough values h = rw (count values, not_above 256 (length values) h) refl
