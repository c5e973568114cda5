-- What the reader of a logout token's claims keeps. No public clause cites this.
use Rattle.std.specs.Prelude.{List}
use Rattle.oidc_members.specs.Seen.{SeenMember}
use Rattle.oidc_readers.specs.Slots.{slot}
use Rattle.oidc_session.specs.declared.logout_claims.LogoutFields.{LogoutFields}
use Rattle.oidc_session.specs.LogoutClaims.{iss, aud, iat, exp, jti, events, sub, sid, nonce}

abbrev pub logout_fields : List SeenMember → LogoutFields
logout_fields members = record {
  iss = slot iss members;
  aud = slot aud members;
  iat = slot iat members;
  exp = slot exp members;
  jti = slot jti members;
  events = slot events members;
  sub = slot sub members;
  sid = slot sid members;
  nonce = slot nonce members;
}
