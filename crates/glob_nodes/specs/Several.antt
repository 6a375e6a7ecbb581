-- Several arrays as arguments.
use Rattle.std.specs.Prelude.{ℕ, Bool, ◌&&◌, List, [], ◌∷◌, length, map}
use Rattle.mz_operations.specs.Arguments.{Arguments}
use Rattle.mz_arena.specs.Values.{is_true}
use Rattle.mz_symbol.specs.Readings.{Reading}
use Rattle.glob_nodes.specs.declared.arguments.Numbers.{Numbers}
use Rattle.glob_nodes.specs.Arguments.{array_value}

abbrev pub arrays : Reading → List Numbers → Arguments
arrays r xs = map (array_value r) xs

-- how many elements each has
abbrev pub sizes : List Numbers → List ℕ
sizes xs = map (λ a. length a.items.items) xs

-- where all are defined, so
abbrev pub all_defined : Reading → List Numbers → Bool → Bool
all_defined r [] b = b
all_defined r (a ∷ xs) b = is_true (r.term a.defined) && all_defined r xs b
