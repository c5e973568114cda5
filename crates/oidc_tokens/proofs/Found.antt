-- What was found of a list so far.
use Rattle.std.proofs.Common.{Option, None, Some, List, ◌∷◌}

-- what was found before, ahead of what is to come
abbrev pub found_first : {A : Type 0} → Option A → List A → List A
found_first None xs = xs
found_first (Some k) xs = k ∷ xs
