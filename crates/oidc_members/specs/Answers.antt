-- What a reader answers, where memory may be wanting.
use Rattle.std.specs.Prelude.{◌≡◌, List, Result, Ok, Err}
use Rattle.oidc_members.specs.declared.refusal.ParseKind.{ParseKind}
use Rattle.oidc_members.specs.declared.refusal.Refusal.{Refusal}
use Rattle.oidc_members.specs.declared.refusal.ParseError.{ParseError}
use Rattle.oidc_members.specs.declared.refusal.ParseError.TheVariants.{Refused, Memory}
use Rattle.oidc_members.specs.Seen.{SeenMember, SeenMembers}

-- The answer is the one that is meant, or `Memory`.
abbrev pub Answers : {A : Type 0} → Result A Refusal → Result A ParseError → Type 0
Answers meant (Ok value) = meant ≡ Ok value
Answers meant (Err (Refused refusal)) = meant ≡ Err refusal
Answers meant (Err Memory) = Unit {0}

-- The error is that refusal, or `Memory`.
abbrev pub Refuses : Refusal → ParseError → Type 0
Refuses meant (Refused refusal) = meant ≡ refusal
Refuses meant Memory = Unit {0}

-- The fact holds where the answer is a refusal of that kind.
abbrev pub OnRefused : {A : Type 0} → ParseKind → Result A ParseError → Type 0 → Type 0
OnRefused kind (Ok value) Fact = Unit {0}
OnRefused kind (Err (Refused refusal)) Fact = refusal.kind ≡ kind → Fact
OnRefused kind (Err Memory) Fact = Unit {0}

-- the answer, with the list alone in the place of the members
abbrev pub listed : Result SeenMembers ParseError → Result (List SeenMember) ParseError
listed (Ok members) = Ok members.list
listed (Err error) = Err error
