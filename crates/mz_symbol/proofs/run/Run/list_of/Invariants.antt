use Rattle.std.proofs.Common.{◌*◌, ◌-◌, drop}
use Rattle.mz_symbol.specs.StepsNodes.{AddsNodes}
use Rattle.mz_symbol.specs.StepsCons.{items_at, IsListOf}
use Rattle.mz_symbol.proofs.run.Run.list_of.Given as goal

abbrev pub invariant-loop-i : goal.invariant-loop-i
invariant-loop-i l = AddsNodes (8 * l.i) l.fn.self l.self × IsListOf l.self.arena l.of (drop (l.count - l.i) (items_at l.fn.self l.line)) l.list
