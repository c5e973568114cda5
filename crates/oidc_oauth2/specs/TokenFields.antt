-- What the reader of a token response keeps. No public clause cites this.
use Rattle.std.specs.Prelude.{List}
use Rattle.oidc_members.specs.Seen.{SeenMember}
use Rattle.oidc_oauth2.specs.Slots.{slot}
use Rattle.oidc_oauth2.specs.declared.token.TokenFields.{TokenFields}
use Rattle.oidc_oauth2.specs.TokenResponse.{access_token, token_type, expires_in, refresh_token, scope}

abbrev pub token_fields : List SeenMember → TokenFields
token_fields members = record {
  access_token = slot access_token members;
  token_type = slot token_type members;
  expires_in = slot expires_in members;
  refresh_token = slot refresh_token members;
  scope = slot scope members;
}
