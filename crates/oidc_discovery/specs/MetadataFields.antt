-- What the reader of a provider's metadata keeps. No public clause cites this.
use Rattle.std.specs.Prelude.{List}
use Rattle.oidc_members.specs.Seen.{SeenMember}
use Rattle.oidc_readers.specs.Slots.{slot}
use Rattle.oidc_discovery.specs.declared.metadata.MetadataFields.{MetadataFields}
use Rattle.oidc_discovery.specs.Metadata.{issuer, authorization_endpoint, token_endpoint, userinfo_endpoint, jwks_uri, signing_algorithms, end_session_endpoint, challenge_methods, iss_parameter}

abbrev pub metadata_fields : List SeenMember → MetadataFields
metadata_fields members = record {
  issuer = slot issuer members;
  authorization_endpoint = slot authorization_endpoint members;
  token_endpoint = slot token_endpoint members;
  userinfo_endpoint = slot userinfo_endpoint members;
  jwks_uri = slot jwks_uri members;
  signing_algorithms = slot signing_algorithms members;
  end_session_endpoint = slot end_session_endpoint members;
  challenge_methods = slot challenge_methods members;
  iss_parameter = slot iss_parameter members;
}
