use Rattle.std.proofs.Common.{◌≡◌, ℕ, length}
use Rattle.mz_core.specs.declared.types.Base.TheVariants as base
use Rattle.mz_arena.specs.Values.{Term}
use Rattle.mz_symbol.specs.Runs.{ReadsNodes}
use Rattle.mz_eval_symbols.specs.Steps.{AreMade, IsCast}
use Rattle.mz_eval_symbols.proofs.casts.all_fitted.Given as goal

abbrev pub invariant-loop-i : goal.invariant-loop-i
invariant-loop-i l = ((t : ℕ → Term) → ReadsNodes t l.nodes → AreMade (IsCast t base.Bottom) l.items l.i l.all.items) × (length l.all.items ≡ l.i)
