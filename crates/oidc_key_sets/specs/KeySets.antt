-- A set of keys as it is published (RFC 7517 section 5), and why a text is none.
use Rattle.std.specs.Prelude.{◌≡◌, ◌⊎◌, ℕ, ◌+◌, nat_lt, List, [], ◌∷◌, codes, Option, None, Some, Result, Ok, Err, if◌then◌else◌}
use Rattle.std.specs.Option.{ok_or}
use Rattle.std.specs.Str.{IsUtf8}
use Rattle.json.specs.Json.{Json, Items, no_items, item, document}
use Rattle.json.specs.Find.{get, as_array}
use Rattle.json.specs.Strict.{HasUniqueKeys}
use Rattle.oidc_readers.specs.Records.{◌>>=◌}
use Rattle.oidc_key_sets.specs.declared.errors.KeyError.{KeyError}
use Rattle.oidc_key_sets.specs.declared.errors.KeySetError.{KeySetError}
use Rattle.oidc_key_sets.specs.declared.errors.KeySetError.TheVariants.{NoJson, DoubledName, NoObject, NoKeys, NoArray, TooMany, Key, Memory}
use Rattle.oidc_key_sets.specs.Keys.{SeenRsaKey, key_in, is_object}

-- ---- by its value

abbrev pub count_of : Items → ℕ
count_of no_items = 0
count_of (item value rest) = count_of rest + 1

-- the most keys that a set may have, those that are left out among them
abbrev pub max_keys : ℕ
max_keys = 256

-- a key before others, where it isn't left out
abbrev pub with_key : Option SeenRsaKey → List SeenRsaKey → List SeenRsaKey
with_key None keys = keys
with_key (Some key) keys = key ∷ keys

abbrev pub placed : {V : Type 0} → ℕ → Result V KeyError → Result V KeySetError
placed place (Ok value) = Ok value
placed place (Err error) = Err (Key place error)

-- the keys of RSA from a place on; the first that is refused refuses the set
abbrev pub keys_from : ℕ → Items → Result (List SeenRsaKey) KeySetError
keys_from place no_items = Ok []
keys_from place (item value rest) = do
  key ← placed place (key_in value)
  keys ← keys_from (place + 1) rest
  Ok (with_key key keys)

abbrev pub keys_among : Items → Result (List SeenRsaKey) KeySetError
keys_among items = if nat_lt max_keys (count_of items) then Err TooMany else keys_from 0 items

abbrev pub array_in : Json → Result (List SeenRsaKey) KeySetError
array_in keys = ok_or (as_array keys) NoArray >>= keys_among

abbrev pub keys_member : Json → Result (List SeenRsaKey) KeySetError
keys_member value = ok_or (get (codes "keys") value) NoKeys >>= array_in

-- the keys of RSA that the set has, in their order
unfoldable pub set_in : Json → Result (List SeenRsaKey) KeySetError
set_in value = if is_object value then keys_member value else Err NoObject

-- ---- by its text

-- the text is JSON (RFC 8259 sections 2 and 8.1) that is nested at most 128 deep (its section 9), and this value
abbrev pub IsTextOf : Json → List ℕ → Type 0
IsTextOf value text = IsUtf8 text × (document text ≡ Some value)

abbrev pub IsJson : List ℕ → Type 0
IsJson text = (value : Json) × IsTextOf value text

-- the value that a text is, where no object in it has a member name twice (RFC 7517 section 4 asks that such keys be
-- rejected, or read by the last)
pub record IsPlainText (value : Json) (text : List ℕ) : Type 0 where
  pub of_text : IsTextOf value text
  pub unique : HasUniqueKeys value

-- some object in the value that a text is has a member name twice
pub record HasDoubledName (text : List ℕ) : Type 0 where
  pub value : Json
  pub of_text : IsTextOf value text
  pub doubled : ¬ HasUniqueKeys value

-- what a text is read as by its value
pub record IsReadByValue (text : List ℕ) (read : Result (List SeenRsaKey) KeySetError) : Type 0 where
  pub value : Json
  pub plain : IsPlainText value text
  pub said : set_in value ≡ read

-- What a text is read as: that it isn't JSON, that a name stands twice in it, or what its value says.
abbrev pub IsReadAs : List ℕ → Result (List SeenRsaKey) KeySetError → Type 0
IsReadAs text read =
    ((¬ IsJson text) × (read ≡ Err NoJson))
    ⊎ ((HasDoubledName text × (read ≡ Err DoubledName))
    ⊎ IsReadByValue text read)

-- ---- results

-- the fact, unless the result is want of memory
abbrev pub UnlessMemory : {V : Type 0} → Result V KeySetError → Type 0 → Type 0
UnlessMemory (Err Memory) Fact = Unit {0}
UnlessMemory result Fact = Fact

-- a text is read as this, or there was no memory
abbrev pub IsRead : List ℕ → Result (List SeenRsaKey) KeySetError → Type 0
IsRead text read = UnlessMemory read (IsReadAs text read)
