-- What a token that was read says.
use Rattle.std.proofs.Common.{◌≡◌, ℕ, List, [], ◌∷◌, true, false, cond, Bool, Option, None, Some, Result, Ok, Err, refl, sym, ap, ◌∙◌}
use Rattle.std.specs.List.{list_any}
use Rattle.std.specs.Prelude.{option_and_then}
use Rattle.std.specs.Option.{ok_or}
use Rattle.serde_json.specs.Written.{has_float}
use Rattle.oidc_members.specs.Seen.{SeenMember}
use Rattle.oidc_members.specs.Objects.{without_floats, loose_members_of, members_of, members_or_refusal, split_of}
use Rattle.oidc_members.specs.declared.refusal.Refusal.{Refusal}
use Rattle.oidc_readers.specs.Records.{◌>>=◌}
use Rattle.oidc_jwt.specs.Header.{header_of}
use Rattle.oidc_jwt.specs.Tokens.{SeenToken, three_parts, no_token, decoded, object_read, token_of}

-- what follows from two steps that gave a value, by the value between them
pub after : {A B Goal : Type 0} (o : Result A Refusal) (f : A → Result B Refusal) (y : B) → (o >>= f) ≡ Ok y → ((x : A) → o ≡ Ok x → f x ≡ Ok y → Goal) → Goal
after (Ok x) f y h next = next x refl h
after (Err refusal) f y h next = absurd cc

pub same_ok : {A F : Type 0} (x y : A) → ◌≡◌ {A = Result A F} (Ok x) (Ok y) → x ≡ y
same_ok x y h = cc

-- ---- an object that was split holds no float

free_by : (members : List SeenMember) (has : Bool) (given : List SeenMember) → list_any (λ m. has_float m.value) members ≡ has → (cond has None (Some members)) ≡ Some given → list_any (λ m. has_float m.value) given ≡ false
free_by members true given is h = absurd cc
free_by members false given is h = let same : members ≡ given = cc h in ap (list_any (λ (m : SeenMember). has_float m.value)) (sym same) ∙ is

loose_free : (loose : Option (List SeenMember)) (given : List SeenMember) → option_and_then without_floats loose ≡ Some given → list_any (λ m. has_float m.value) given ≡ false
loose_free None given h = absurd cc
loose_free (Some members) given h = free_by members (list_any (λ m. has_float m.value) members) given refl h

members_free : (text : List ℕ) (given : List SeenMember) → members_of text ≡ Some given → list_any (λ m. has_float m.value) given ≡ false
unfolding members_of
members_free text given h = loose_free (loose_members_of text) given h

split_by : (members loose : Option (List SeenMember)) (given : List SeenMember) → members_or_refusal members loose ≡ Ok given → members ≡ Some given
split_by (Some members) loose given h = cc
split_by None (Some loose) given h = absurd cc
split_by None None given h = absurd cc

pub split_free : (text : List ℕ) (given : List SeenMember) → split_of text ≡ Ok given → list_any (λ m. has_float m.value) given ≡ false
unfolding split_of
split_free text given h = members_free text given (split_by (members_of text) (loose_members_of text) given h)

-- ---- the payload is what some members say, which hold no float

module _ {JE JS P : Type 0} (encryption_named : List ℕ → Option JE) (signing_named : List ℕ → Option JS) (payload_read : List SeenMember → Result P Refusal) where
  pub payload_said : (text : List ℕ) (token : SeenToken JE JS P) → token_of encryption_named signing_named payload_read text ≡ Ok token
      → (members : List SeenMember) × (list_any (λ m. has_float m.value) members ≡ false) × (payload_read members ≡ Ok token.payload)
  unfolding token_of
  payload_said text token h =
      after (ok_or (three_parts text) no_token) _ token h λ parts _ whole.
      after (decoded parts.header) _ token whole λ first _ behind_first.
      after (decoded parts.payload) _ token behind_first λ second _ behind_second.
      after (decoded parts.signature) _ token behind_second λ signature _ decoded_all.
      after (object_read (header_of encryption_named signing_named) first) _ token decoded_all λ header _ headed.
      after (object_read payload_read second) _ token headed λ payload said made.
      after (split_of second) payload_read payload said λ members split read.
      (members, split_free second members split, read ∙ ap Ok (ap (λ t. t.payload) (same_ok _ token made)))
