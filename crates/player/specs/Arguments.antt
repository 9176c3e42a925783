-- What the arguments of the program are.
use Rattle.std.specs.Prelude.{List, [], ℕ, map, drop, Result, Ok, Err, string_bytes}
use Rattle.std.specs.declared.string.String.{String}
use Rattle.std.specs.declared.vec.IntoIter.{IntoIter}
use Rattle.std.specs.Vec.Iter.{into_iter_items}

-- the words behind the program's name, which is the first argument; none where the arguments can't be read
abbrev pub words_behind : {A B E : Type 0} → Result (IntoIter (String A) B) E → List (List ℕ)
words_behind (Ok args) = map string_bytes (drop 1 (into_iter_items args))
words_behind (Err error) = []
