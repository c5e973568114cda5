-- What the reader of an error response keeps. No public clause cites this.
use Rattle.std.specs.Prelude.{List}
use Rattle.oidc_members.specs.Seen.{SeenMember}
use Rattle.oidc_oauth2.specs.Slots.{slot}
use Rattle.oidc_oauth2.specs.declared.error_response.ErrorFields.{ErrorFields}
use Rattle.oidc_oauth2.specs.ErrorResponse.{error, error_description, error_uri}

abbrev pub error_fields : List SeenMember → ErrorFields
error_fields members = record {
  error = slot error members;
  error_description = slot error_description members;
  error_uri = slot error_uri members;
}
