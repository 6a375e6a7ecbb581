use Rattle.std.proofs.Common.{◌≡◌, ℕ, suc, ◌-◌, length}
use Rattle.mz_symbol.specs.Readings.{Reading}
use Rattle.mz_eval_cells.specs.Views.{seen}
use Rattle.mz_eval_scopes.specs.Views.{env_cells, env_cells_by}
use Rattle.mz_eval_scopes.proofs.types.Env.grow.Given as goal

abbrev pub invariant-places : goal.invariant-places
invariant-places l = ((k : ℕ) → env_cells l.self k ≡ env_cells l.fn.self k) × ((r : Reading) (k : ℕ) → env_cells_by (seen r) l.self k ≡ env_cells_by (seen r) l.fn.self k)

abbrev pub decreases-places : goal.decreases-places
decreases-places l = suc l.slot - length l.self.cells.items
