use Rattle.std.proofs.Common.{◌≡◌, map, take}
use Rattle.oidc_user_info.proofs.query_pairs.texts_of_words.Given as goal

abbrev pub invariant-loop-word : goal.invariant-loop-word
invariant-loop-word g l = map (λ text. text.now) l.texts.items ≡ map g.V.Vocabulary.as_ref (take l.word-index l.words)
