use Rattle.std.proofs.Common.{◌≡◌, ◌-◌, length}
use Rattle.mz_globals.specs.Graphs.{walk}
use Rattle.glob_order.specs.Views.{numbers_of}
use Rattle.glob_sched.proofs.Walks.{after}
use Rattle.glob_sched.proofs.of_values.graphs.is_circuit.Given as goal

abbrev pub invariant-loop-step : goal.invariant-loop-step
invariant-loop-step l = after l.path.items (walk (numbers_of l.x) (length l.x.items.items - l._step) l.i) ≡ walk (numbers_of l.x) (length l.x.items.items) l.x.indices.0
