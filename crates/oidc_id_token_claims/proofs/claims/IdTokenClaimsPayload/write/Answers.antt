use Rattle.std.proofs.Common.{sym, ap, ◌∙◌, subst, All}
use Rattle.oidc_members.specs.Write.{any_float}
use Rattle.oidc_readers.specs.WrittenBack.{IsUtf8Member}
use Rattle.oidc_id_token_claims.specs.RoundTrip.{GivesTokenClaims}
use Rattle.oidc_id_token_claims.proofs.ClaimsBack.{gives_claims}
use Rattle.oidc_id_token_claims.proofs.FloatFree.{members_free}
use Rattle.oidc_id_token_claims.proofs.claims.IdTokenClaimsPayload.write.Goals as goal

pub returns : goal.returns
returns g c =
    let additional = g.met.AC.AdditionalClaims in
    let gender = g.met.GC.GenderClaim in
    let members = c.in_ok-out.ensures.members in
    record {
      members = members;
      texts = c.in_ok-out.ensures.texts;
      no_float = λ free. ap any_float members ∙ members_free g.AC.AdditionalClaims.write_of g.GC.GenderClaim.write_of gender.written_is_value c.args.self.now free;
      reads_back = λ range.
          subst (λ ms. GivesTokenClaims g.AC.AdditionalClaims.read_of g.GC.GenderClaim.read_of ms c.args.self.now) (sym members)
          (gives_claims g.AC.AdditionalClaims.read_of g.AC.AdditionalClaims.write_of g.GC.GenderClaim.read_of g.GC.GenderClaim.write_of additional.reads_back additional.stays_additional gender.reads_back
          gender.written_is_value c.args.self.now range (subst (All IsUtf8Member) members c.in_ok-out.ensures.texts));
    }
