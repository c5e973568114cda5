-- What a program holds is UTF-8, since a `String` is.
use Rattle.std.proofs.Common.{◌≡◌, List, [], ◌∷◌, ◌++◌, map, String, Global, subst, sym, All}
use Rattle.std.proofs.lemmas.List.Elements.{All-push}
use Rattle.std.specs.Str.{IsUtf8}
use Rattle.std.proofs.lemmas.Str.{IsUtf8-string_bytes}
use Rattle.serde_json.specs.Data.{Data}
use Rattle.serde_json.specs.View.{view, view_step, items_of, members_of}
use Rattle.serde_json.specs.declared.value.Value.{Value, map-Value}
use Rattle.serde_json.specs.declared.value.Value.TheOpen.{Value-F}
use Rattle.serde_json.specs.declared.value.Value.TheFolds.{fold-roll-Value, ind-Value}
use Rattle.oidc_members.specs.Seen.{OutSeen}
use Rattle.oidc_readers.specs.WrittenBack.{IsUtf8Member, HasTexts, ItemsHaveTexts, MembersHaveTexts}

-- a value whose texts are UTF-8
abbrev Fine : Type 0
Fine = (v : Value) × HasTexts (view v)

items_fine : (es : List Fine) → ItemsHaveTexts (items_of (map view (map (λ e. e.0) es)))
items_fine [] = tt
items_fine (e ∷ es) = (e.1, items_fine es)

abbrev Entry : Type 0
Entry = String Global × Value

members_fine : (es : List (String Global × Fine)) → MembersHaveTexts (members_of (map {A = Entry} (λ m. (m.0, view m.1)) (map (λ m. (m.0, m.1.0)) es)))
members_fine [] = tt
members_fine (e ∷ es) = (IsUtf8-string_bytes e.0, e.1.1, members_fine es)

layer_fine : (y : Value-F Fine) → HasTexts (view_step (map-Value Value Data view (map-Value Fine Value (λ e. e.0) y)))
layer_fine Value-F.Null = tt
layer_fine (Value-F.Bool b) = tt
layer_fine (Value-F.Number n) = tt
layer_fine (Value-F.String s) = IsUtf8-string_bytes s
layer_fine (Value-F.Array v) = items_fine v.items
layer_fine (Value-F.Object m) = members_fine m.entries

pub value_has_texts : (v : Value) → HasTexts (view v)
value_has_texts = ind-Value (λ v. HasTexts (view v)) (λ x y is.
    subst HasTexts (sym (fold-roll-Value Data view_step x)) (subst (λ x. HasTexts (view_step (map-Value Value Data view x))) is (layer_fine y)))

-- One more member of a name and a value that a program holds is UTF-8.
pub utf8_pushed : (before after : List OutSeen) (m : OutSeen) (value : Value)
    → after ≡ before ++ m ∷ [] → IsUtf8 m.name → m.value ≡ view value → All IsUtf8Member before → All IsUtf8Member after
utf8_pushed before after m value is named valued h =
    let member : IsUtf8Member m = (named, subst HasTexts (sym valued) (value_has_texts value)) in
    subst (All IsUtf8Member) (sym is) (All-push IsUtf8Member before m h member)
