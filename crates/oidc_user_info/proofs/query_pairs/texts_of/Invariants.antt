use Rattle.std.proofs.Common.{◌≡◌, map, take}
use Rattle.oidc_user_info.proofs.query_pairs.texts_of.Given as goal

abbrev pub invariant-loop-text : goal.invariant-loop-text
invariant-loop-text g l = map (λ text. text.now) l.texts.items ≡ take l.text-index l.list
