use Rattle.std.proofs.Common.{◌≡◌, ◌∙◌, ◌++◌, ap, sym, take, get_or}
use Rattle.std.specs.List.{flat_map}
use Rattle.std.proofs.lemmas.List.{take_all}
use Rattle.oidc_members.specs.Write.{any_float}
use Rattle.oidc_claims.specs.declared.claim.Claim.TheVariants.{Subject}
use Rattle.oidc_claims.specs.Table.{all_claims}
use Rattle.oidc_claims.specs.Write.{claim_members, written}
use Rattle.oidc_claims.proofs.NoFloat.{written_free}
use Rattle.oidc_claims.proofs.SplitBack.{gives_claims}
use Rattle.oidc_claims.proofs.Steps.{flat_more}
use Rattle.oidc_claims.proofs.write.write_standard.Goals as goal

pub loop-claim-preserved : goal.loop-claim-preserved
loop-claim-preserved g c = (
  c.in_ok-write_claim.ensures.members ∙ ap (λ l. l ++ claim_members g.GC.GenderClaim.write_of c.args.claims.now (get_or all_claims c.loop-claim.claim-index Subject)) c.loop-claim.invariant.0
      ∙ sym (flat_more (claim_members g.GC.GenderClaim.write_of c.args.claims.now) all_claims c.loop-claim.claim-index Subject c.loop-claim-test.true),
  c.in_ok-write_claim.ensures.texts c.loop-claim.invariant.1,
)

pub returns : goal.returns
returns g c =
    let all : take c.loop-claim.claim-index all_claims ≡ all_claims = take_all c.loop-claim.claim-index all_claims c.loop-claim-test.false in
    let members : c.loop-claim.out.items ≡ written g.GC.GenderClaim.write_of c.args.claims.now =
    c.loop-claim.invariant.0 ∙ ap (flat_map (claim_members g.GC.GenderClaim.write_of c.args.claims.now)) all in
    let texts = c.loop-claim.invariant.1 in
    let law = g.met.GC.GenderClaim in
    record {
      members = members;
      no_float = ap any_float members ∙ written_free g.GC.GenderClaim.write_of law.written_is_value c.args.claims.now;
      texts = texts;
      reads_back = gives_claims g.GC.GenderClaim.read_of g.GC.GenderClaim.write_of law.reads_back law.written_is_value c.args.claims.now c.loop-claim.out.items members texts;
    }
