-- What the reader of the fields of user info that are no claims keeps. No public clause cites this.
use Rattle.std.specs.Prelude.{List}
use Rattle.oidc_members.specs.Seen.{SeenMember}
use Rattle.oidc_readers.specs.Slots.{slot}
use Rattle.oidc_user_info.specs.declared.claims.issuer_and_audience.IssuerAndAudience.{IssuerAndAudience}
use Rattle.oidc_user_info.specs.UserInfoClaims.{iss, aud}

abbrev pub issuer_and_audience : List SeenMember → IssuerAndAudience
issuer_and_audience members = record { iss = slot iss members; aud = slot aud members }
