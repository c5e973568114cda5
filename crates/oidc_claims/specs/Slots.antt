-- What the reader of a claim in several languages keeps, after the members of that claim that came.
use Rattle.std.specs.Prelude.{List, fold}
use Rattle.std.specs.FinMap as finite
use Rattle.oidc_types.specs.{Variants}
use Rattle.oidc_members.specs.Seen.{SeenMember}
use Rattle.oidc_readers.specs.Kinds.{Kind}
use Rattle.oidc_claims.specs.declared.claims.slots.Languages.{Languages}
use Rattle.oidc_claims.specs.Table.{tag_of}
use Rattle.oidc_claims.specs.Claims.{variants}

-- the tags that came
abbrev pub tags_of : List SeenMember → Variants (Unit {0})
tags_of ms = fold (λ tags m. finite.insert tags (tag_of m.name) tt) finite.empty ms

abbrev pub languages_slot : {V : Type 0} → Kind V → List SeenMember → Languages V
languages_slot kind ms = record { seen = tags_of ms; values = variants kind ms }
