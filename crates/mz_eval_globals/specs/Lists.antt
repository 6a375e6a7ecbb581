-- That the two lists of globals are in step: what they mean, and which signatures they have.
use Rattle.std.specs.Prelude.{◌≡◌, ℕ, List, length, map}
use Rattle.mz_builtin.specs.Entries.{PlainLine}
use Rattle.mz_builtin.specs.Table as signatures
use Rattle.mz_globals.specs.Names.{PlainNamed}
use Rattle.mz_globals.specs.Names as meanings

-- a name with its number of arguments
abbrev name_of_line : PlainLine → List ℕ × ℕ
name_of_line l = (l.name, length l.params)

abbrev name_of_global : PlainNamed → List ℕ × ℕ
name_of_global n = (n.name, n.arguments)

-- both have one list of names with their numbers of arguments, in one order
abbrev pub AreInStep : Type 0
AreInStep = map name_of_global meanings.globals ≡ map name_of_line signatures.globals
