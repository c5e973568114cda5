-- Homes of names, and of the members that were read.
use Rattle.std.proofs.Common.{◌≡◌, List, [], ◌∷◌, map, Bool, ◌||◌, ap, refl}
use Rattle.std.specs.List.{list_any}
use Rattle.std.proofs.lemmas.List.Folds.{list_all-map}
use Rattle.oidc_members.specs.Seen.{SeenMember}
use Rattle.oidc_claims.specs.Home.{is_additional}
use Rattle.oidc_claims.specs.Additional.{are_additional, are_written_additional, out_of}

pub any_of_map : {A B : Type 0} (p : B → Bool) (f : A → B) (xs : List A) → list_any p (map f xs) ≡ list_any (λ x. p (f x)) xs
any_of_map p f [] = refl
any_of_map p f (x ∷ xs) = ap (λ b. p (f x) || b) (any_of_map p f xs)

-- what was read of additional members is additional
pub outs_are_additional : (ms : List SeenMember) → are_written_additional (map out_of ms) ≡ are_additional ms
outs_are_additional ms = list_all-map (λ m. is_additional m.name) out_of ms
