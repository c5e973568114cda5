-- The words of a command line.
use Rattle.std.specs.Prelude.{List, drop, String}
use Rattle.std.specs.Global.{Global}
use Rattle.std.specs.Vec.Iter.{into_iter_items}
use Rattle.std.specs.declared.vec.IntoIter.{IntoIter}

-- all arguments but the first, which is the program's name
abbrev pub words_in : IntoIter (String Global) Global → List (String Global)
words_in arguments = drop 1 (into_iter_items arguments)
