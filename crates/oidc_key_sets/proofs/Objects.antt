-- An object that is written, as its value.
use Rattle.std.proofs.Common.{◌≡◌, ◌∙◌, ℕ, List, [], ◌∷◌, refl, ap, Bor, Vec}
use Rattle.json.specs.Json.{object, member}
use Rattle.json.specs.Value.{value_view, members_view}
use Rattle.json.specs.declared.value.Value.{Value}
use Rattle.json.specs.declared.value.Value.TheVariants.{Object}
use Rattle.json.proofs.Trees.{view-Object}
use Rattle.oidc_key_sets.specs.Written.{members_of}
use Rattle.oidc_key_sets.specs.WrittenSeen.{named_values}

same_members : {A : Type 0} (ms : List (Bor (List ℕ) × Value A)) → members_view ms ≡ members_of (named_values ms)
same_members [] = refl
same_members (m ∷ ms) = ap (member m.0.now (value_view m.1)) (same_members ms)

pub object_value : {A : Type 0} (v : Vec (Bor (List ℕ) × Value A) A)
    → value_view (Object v) ≡ object (members_of (named_values v.items))
object_value v = view-Object v ∙ ap object (same_members v.items)
