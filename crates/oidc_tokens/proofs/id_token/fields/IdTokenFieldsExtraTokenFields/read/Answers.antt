use Rattle.std.proofs.Common.{Ok, Err}
use Rattle.oidc_readers.specs.Fields.{judged}
use Rattle.oidc_readers.specs.Records.{◌>>=◌, faultless, optional}
use Rattle.oidc_jwt.specs.Tokens.{token_of}
use Rattle.oidc_id_token_claims.specs.IdTokenClaims.{id_token_claims_of}
use Rattle.oidc_tokens.specs.IdTokenFields.{id_token, response_fields_of}
use Rattle.oidc_id_token_claims.proofs.Theorems.{stops, gives}
use Rattle.oidc_tokens.proofs.id_token.fields.IdTokenFieldsExtraTokenFields.read.Goals as goal

pub returns-in-Err : goal.returns-in-Err
unfolding response_fields_of
returns-in-Err g c =
    let members = c.args.members.now.list in
    let reading = c.args.members.now.reading in
    let field = id_token (token_of g.JE.ClosedVocabulary.from_str g.JS.ClosedVocabulary.from_str (id_token_claims_of g.AC.AdditionalClaims.read_of g.GC.GenderClaim.read_of reading)) in
    record {
      fields = gives (faultless (judged field) members)
          (λ u. g.EF.ExtraTokenFields.read_of reading members >>= λ extra. Ok (record { id_token = optional field members; extra_fields = extra })) tt (Err c.in-Err.error) c.in_ok-fields.ensures.kept.0
          (stops (g.EF.ExtraTokenFields.read_of reading members) (λ extra. Ok (record { id_token = optional field members; extra_fields = extra })) c.in-Err.error c.in-Err.ensures.fields);
    }
