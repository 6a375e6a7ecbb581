use Rattle.std.proofs.Common.{◌≡◌, ◌++◌, map}
use Rattle.std.specs.Vec.Iter.{into_iter_items}
use Rattle.mz_arena.specs.Instances.{var_cell}
use Rattle.mz_model_state.specs.Variables.{place_cell}
use Rattle.mz_model_state.proofs.vars.cells.Given as goal

abbrev pub invariant-loop-f : goal.invariant-loop-f
invariant-loop-f l = map place_cell l.fn.places.items ≡ map var_cell l.all.items ++ map place_cell (into_iter_items l.f-iterator)
