-- What the reader of an introspection response keeps. No public clause cites this.
use Rattle.std.specs.Prelude.{List}
use Rattle.oidc_members.specs.Seen.{SeenMember}
use Rattle.oidc_oauth2.specs.Slots.{slot}
use Rattle.oidc_oauth2.specs.declared.introspection.IntrospectionFields.{IntrospectionFields}
use Rattle.oidc_oauth2.specs.Introspection.{active, scope, client_id, username, token_type, sub, iss, jti, exp, nbf, iat, aud}

abbrev pub introspection_fields : List SeenMember → IntrospectionFields
introspection_fields members = record {
  active = slot active members;
  scope = slot scope members;
  client_id = slot client_id members;
  username = slot username members;
  token_type = slot token_type members;
  sub = slot sub members;
  iss = slot iss members;
  jti = slot jti members;
  exp = slot exp members;
  nbf = slot nbf members;
  iat = slot iat members;
  aud = slot aud members;
}
