-- A field that is missing refuses the members, after those before it that are there.
use Rattle.std.proofs.Common.{◌≡◌, List, Result, Ok, Err, ap, subst, ◌∙◌}
use Rattle.std.specs.Option.{ok_or}
use Rattle.oidc_types.specs.{TextAndUrl}
use Rattle.oidc_members.specs.Answers.{Answers}
use Rattle.oidc_members.specs.Seen.{SeenMember}
use Rattle.oidc_members.specs.declared.refusal.Refusal.{Refusal}
use Rattle.oidc_members.specs.declared.refusal.ParseError.{ParseError}
use Rattle.oidc_members.specs.declared.refusal.ParseError.TheVariants.{Refused, Memory}
use Rattle.oidc_readers.specs.declared.slots.Once.{Once}
use Rattle.oidc_readers.specs.Fields.{Field}
use Rattle.oidc_readers.specs.Slots.{slot, slot_value}
use Rattle.oidc_readers.specs.Records.{◌>>=◌, missing, required}
use Rattle.oidc_discovery.specs.Metadata.{issuer, authorization_endpoint, jwks_uri, signing_algorithms, needed_fields_of}

module _ {V : Type 0} (f : Field V) where
  -- What the slot of a field answers, the members answer.
  pub slotted : (members : List SeenMember) (s : Once V) (answer : Result V ParseError) → s ≡ slot f members
      → Answers (ok_or (slot_value s) (missing f.name)) answer → Answers (required f members) answer
  unfolding slot
  slotted members s answer is =
      subst (λ (held : Once V). Answers (ok_or (slot_value held) (missing f.name)) answer) is

module _ {A B : Type 0} (meant : Result A Refusal) (next : A → Result B Refusal) where
  refused_first : (e : ParseError) → Answers meant (Err e) → Answers (meant >>= next) (Err e)
  refused_first (Refused refusal) a = ap (λ (m : Result A Refusal). m >>= next) a
  refused_first Memory a = tt

  refused_later : (value : A) (e : ParseError) → meant ≡ Ok value → Answers (next value) (Err e)
      → Answers (meant >>= next) (Err e)
  refused_later value (Refused refusal) is a = ap (λ (m : Result A Refusal). m >>= next) is ∙ a
  refused_later value Memory is a = tt

pub no_authorization_endpoint : (members : List SeenMember) (e : ParseError) (named : TextAndUrl)
    → required issuer members ≡ Ok named → Answers (required authorization_endpoint members) (Err e)
    → Answers (needed_fields_of members) (Err e)
unfolding needed_fields_of
no_authorization_endpoint members e named a b = refused_later _ _ named e a (refused_first _ _ e b)

pub no_jwks_uri : (members : List SeenMember) (e : ParseError) (named authorization : TextAndUrl)
    → required issuer members ≡ Ok named → required authorization_endpoint members ≡ Ok authorization
    → Answers (required jwks_uri members) (Err e)
    → Answers (needed_fields_of members) (Err e)
unfolding needed_fields_of
no_jwks_uri members e named authorization a b c =
    refused_later _ _ named e a (refused_later _ _ authorization e b (refused_first _ _ e c))

pub no_algorithms : (members : List SeenMember) (e : ParseError) (named authorization keys : TextAndUrl)
    → required issuer members ≡ Ok named → required authorization_endpoint members ≡ Ok authorization
    → required jwks_uri members ≡ Ok keys
    → Answers (required signing_algorithms members) (Err e)
    → Answers (needed_fields_of members) (Err e)
unfolding needed_fields_of
no_algorithms members e named authorization keys a b c d =
    refused_later _ _ named e a
    (refused_later _ _ authorization e b (refused_later _ _ keys e c (refused_first _ _ e d)))
