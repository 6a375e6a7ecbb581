use Rattle.std.proofs.Common.{ℕ, drop}
use Rattle.mz_arena.specs.Values.{Term}
use Rattle.mz_symbol.specs.Runs.{ReadsNodes}
use Rattle.mz_eval_elements.specs.StepsLines.{Show}
use Rattle.mz_eval_elements.proofs.values.are_values.Given as goal

abbrev pub invariant-loop-v : goal.invariant-loop-v
invariant-loop-v l = (t : ℕ → Term) → ReadsNodes t l.nodes → Show t l.rest (drop l.v-index l.items) → Show t l.ss l.items
