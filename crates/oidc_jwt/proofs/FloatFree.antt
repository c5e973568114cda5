-- The header of a token that is issued holds no float.
use Rattle.std.proofs.Common.{◌≡◌, ℕ, List, false, Option, None, Some, refl}
use Rattle.oidc_members.specs.Write.{any_float}
use Rattle.oidc_jwt.specs.Header.{written_header}

pub header_free : (text : List ℕ) (id : Option (List ℕ)) → any_float (written_header text id) ≡ false
header_free text None = refl
header_free text (Some id) = refl
