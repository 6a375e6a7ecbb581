use Rattle.std.proofs.Common.{◌≡◌, ◌&&◌, ℕ}
use Rattle.mz_arena.specs.Values.{Term, is_true}
use Rattle.mz_symbol.specs.Runs.{ReadsNodes}
use Rattle.mz_model_roots.specs.StepsOperands.{all_true}
use Rattle.mz_model_roots.proofs.operands.operands_of.Given as goal

abbrev pub invariant-loop-turn : goal.invariant-loop-turn
invariant-loop-turn l = (t : ℕ → Term) → ReadsNodes t l.nodes → (all_true t l.s.taken.items && is_true (t l.s.before)) ≡ is_true (t l.id)
