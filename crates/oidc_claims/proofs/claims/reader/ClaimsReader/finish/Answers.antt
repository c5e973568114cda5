use Rattle.std.proofs.Common.{◌≡◌, None, Some, Ok, sym, ap, ◌∙◌}
use Rattle.oidc_claims.specs.Reader.{reader_of, finished_claims}
use Rattle.oidc_claims.specs.Standard.{subject_of, complete}
use Rattle.oidc_claims.proofs.Moves.{ended, lacking}
use Rattle.oidc_claims.proofs.claims.reader.ClaimsReader.finish.Goals as goal

pub returns-in-Some : goal.returns-in-Some
unfolding reader_of finished_claims
returns-in-Some g c = record {
  claims = λ reading members start.
      let subject : subject_of members ≡ Some c.in-Some.subject = sym (ap (λ r. r.subject.value) start) ∙ sym c.take.ensures.value ∙ c.in-Some.is in
      ap (λ o. complete g.GC.GenderClaim.read_of reading o members) subject ∙ ap Ok (sym (c.claims_with.ensures ∙ ended g.GC.GenderClaim.read_of reading members c.args.self c.in-Some.subject start));
}

pub returns-in-None : goal.returns-in-None
unfolding reader_of
returns-in-None g c = record {
  claims = λ reading members start.
      let none : subject_of members ≡ None = sym (ap (λ r. r.subject.value) start) ∙ sym c.take.ensures.value ∙ c.in-None.is in
      lacking g.GC.GenderClaim.read_of reading members (subject_of members) c.refused.result none c.refused.ensures.refusal;
}
