-- What the reader of a device authorization response keeps. No public clause cites this.
use Rattle.std.specs.Prelude.{List}
use Rattle.oidc_members.specs.Seen.{SeenMember}
use Rattle.oidc_oauth2.specs.Slots.{slot}
use Rattle.oidc_oauth2.specs.declared.device.DeviceFields.{DeviceFields}
use Rattle.oidc_oauth2.specs.DeviceResponse.{device_code, user_code, verification_uri, expires_in, verification_uri_complete, interval}

abbrev pub device_fields : List SeenMember → DeviceFields
device_fields members = record {
  device_code = slot device_code members;
  user_code = slot user_code members;
  verification_uri = slot verification_uri members;
  expires_in = slot expires_in members;
  verification_uri_complete = slot verification_uri_complete members;
  interval = slot interval members;
}
