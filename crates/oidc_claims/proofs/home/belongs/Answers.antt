use Rattle.std.proofs.Common.{ap, sym, ◌∙◌, ◌≡◌, Bool, is_some}
use Rattle.oidc_claims.specs.Home.{home_by}
use Rattle.oidc_claims.specs.Table.{claim_of, base_of}
use Rattle.oidc_claims.proofs.Homes.{any_of_map}
use Rattle.oidc_claims.proofs.home.belongs.Goals as goal

-- the test over the fields' texts gave what the search among the borrowed fields gave
abbrev by_tests : (a b c d : Bool) → c ≡ a → d ≡ b → home_by a b ≡ home_by c d
by_tests a b c d e f = λ i. home_by (sym e i) (sym f i)

pub returns-then-is_among : goal.returns-then-is_among
returns-then-is_among c = record { home = sym (ap (λ b. home_by b (is_some (claim_of (base_of c.args.name.now)))) (any_of_map _ _ c.args.token_fields.now ∙ sym c.if-is_among.ensures)) }

pub returns-then-is_some : goal.returns-then-is_some
returns-then-is_some c = record { home = by_tests _ _ _ _ (any_of_map _ _ c.args.token_fields.now ∙ sym c.if-is_among.ensures) (ap is_some (sym c.of_name.ensures) ∙ sym c.if-is_some.ensures) }

pub returns-else-is_some : goal.returns-else-is_some
returns-else-is_some c = record { home = by_tests _ _ _ _ (any_of_map _ _ c.args.token_fields.now ∙ sym c.if-is_among.ensures) (ap is_some (sym c.of_name.ensures) ∙ sym c.if-is_some.ensures) }
