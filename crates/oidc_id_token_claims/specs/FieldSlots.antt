-- What the reader of an ID token's own fields keeps. No public clause cites this.
use Rattle.std.specs.Prelude.{List}
use Rattle.oidc_members.specs.Seen.{SeenMember}
use Rattle.oidc_members.specs.declared.reading.Reading.{Reading}
use Rattle.oidc_readers.specs.Slots.{slot}
use Rattle.oidc_id_token_claims.specs.declared.token_fields.OwnFields.{OwnFields}
use Rattle.oidc_id_token_claims.specs.TokenFields.{iss, aud, exp, iat, auth_time, nonce, acr, amr, azp, at_hash, c_hash}

abbrev pub own_fields : Reading → List SeenMember → OwnFields
own_fields reading members = record {
  iss = slot iss members;
  aud = slot aud members;
  exp = slot (exp reading) members;
  iat = slot (iat reading) members;
  auth_time = slot (auth_time reading) members;
  nonce = slot nonce members;
  acr = slot acr members;
  amr = slot amr members;
  azp = slot azp members;
  at_hash = slot at_hash members;
  c_hash = slot c_hash members;
}
