-- What claims of an ID token end as, where a `&mut` to the additional claims was returned.
use Rattle.std.specs.Borrow.{Lends, Fml, RattleType, MutBor}
use Rattle.oidc_claims.specs.declared.additional.AdditionalClaims.{Ghosts as Additional}
use Rattle.oidc_claims.specs.declared.gender.GenderClaim.{Ghosts as Gender}
use Rattle.oidc_id_token_claims.specs.contracts.claims.IdTokenClaims.{the_row}

module _ (AC GC : RattleType) (additional : Additional AC.Denot) (gender : Gender GC.Denot)
    (claims : MutBor (the_row AC GC additional gender).Denot) where
  -- once the borrow ends, the additional claims are those last written through it
  abbrev pub lends_additional : MutBor AC.Denot → Fml
  lends_additional r =
      Lends (the_row AC GC additional gender) AC claims r (λ w. record claims.now { additional_claims = w })
