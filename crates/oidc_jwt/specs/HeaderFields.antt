-- What the reader of a header keeps. No public clause cites this.
use Rattle.std.specs.Prelude.{ℕ, List, Option}
use Rattle.oidc_members.specs.Seen.{SeenMember}
use Rattle.oidc_readers.specs.Slots.{slot}
use Rattle.oidc_jwt.specs.declared.header.HeaderFields.{HeaderFields}
use Rattle.oidc_jwt.specs.Header.{alg, typ, cty, kid, crit}

abbrev pub header_fields : {JE JS : Type 0} → (List ℕ → Option JE) → (List ℕ → Option JS)
    → List SeenMember → HeaderFields JE JS
header_fields encryption_named signing_named members = record {
  alg = slot (alg encryption_named signing_named) members;
  typ = slot typ members;
  cty = slot cty members;
  kid = slot kid members;
  crit = slot crit members;
}
