-- the tags that came are those of the members that came
use Rattle.std.proofs.Common.{◌≡◌, ℕ, List, [], ◌∷◌, ◌++◌, Option, Some, refl, sym, ap, ◌∙◌, cond, Bool, true, false, ◌||◌, is_some, fold}
use Rattle.std.specs.List.{list_any}
use Rattle.std.specs.FinMap as finite
use Rattle.std.specs.Ordering.{is_eq}
use Rattle.std.proofs.lemmas.List.Sums.{fold_push}
use Rattle.oidc_types.specs.{Variants, tag_cmp}
use Rattle.oidc_types.proofs.Theorems.{tags_total}
use Rattle.oidc_members.specs.Seen.{SeenMember}
use Rattle.oidc_claims.specs.Table.{tag_of}
use Rattle.oidc_readers.specs.Kinds.{Kind}
use Rattle.oidc_claims.specs.Claims.{same_tag, held, variants, with_value}
use Rattle.oidc_claims.specs.Slots.{tags_of}

some_cond : {V : Type 0} (b : Bool) (v : V) (o : Option V) → is_some (cond b (Some v) o) ≡ (b || is_some o)
some_cond true v o = refl
some_cond false v o = refl

regroup : (a b c : Bool) → ((a || b) || c) ≡ (b || (a || c))
regroup true true c = refl
regroup true false c = refl
regroup false true c = refl
regroup false false c = refl

or_false : (b : Bool) → (b || false) ≡ b
or_false true = refl
or_false false = refl

has_put : (tags : Variants (Unit {0})) (q k : Option (List ℕ)) → is_some (finite.get (finite.insert tags k tt) q) ≡ (is_eq (tag_cmp q k) || is_some (finite.get tags q))
has_put tags q k = ap is_some (finite.get-insert tags_total tags k tt q) ∙ some_cond (is_eq (tag_cmp q k)) tt (finite.get tags q)

seen_from : (m : SeenMember) (tags : Variants (Unit {0})) (ms : List SeenMember)
    → is_some (finite.get (fold (λ tags n. finite.insert tags (tag_of n.name) tt) tags ms) (tag_of m.name)) ≡ (is_some (finite.get tags (tag_of m.name)) || list_any (same_tag m) ms)
seen_from m tags [] = sym (or_false _)
seen_from m tags (n ∷ ms) =
    seen_from m (finite.insert tags (tag_of n.name) tt) ms
    ∙ ap (λ b. b || list_any (same_tag m) ms) (has_put tags (tag_of m.name) (tag_of n.name))
    ∙ regroup (same_tag m n) (is_some (finite.get tags (tag_of m.name))) (list_any (same_tag m) ms)

-- a tag came where a member with that tag came
pub seen_any : (m : SeenMember) (ms : List SeenMember) → is_some (finite.get (tags_of ms) (tag_of m.name)) ≡ list_any (same_tag m) ms
seen_any m ms =
    seen_from m finite.empty ms ∙ ap (λ o. is_some o || list_any (same_tag m) ms) (finite.get-empty tag_cmp (tag_of m.name))

pub tags_push : (ms : List SeenMember) (m : SeenMember) → tags_of (ms ++ m ∷ []) ≡ finite.insert (tags_of ms) (tag_of m.name) tt
tags_push ms m = fold_push (λ tags m. finite.insert tags (tag_of m.name) tt) finite.empty ms m

pub variants_push : {V : Type 0} (kind : Kind V) (ms : List SeenMember) (m : SeenMember)
    → variants kind (ms ++ m ∷ []) ≡ with_value (variants kind ms) (tag_of m.name) (held kind m)
variants_push kind ms m = fold_push (λ values m. with_value values (tag_of m.name) (held kind m)) finite.empty ms m
