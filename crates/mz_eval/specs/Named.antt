-- Names that stand as they are.
use Rattle.std.specs.Prelude.{◌≡◌}
use Rattle.mz_core.specs.declared.tree.Core.{Core}
use Rattle.mz_core.specs.TreeViews.{tree}
use Rattle.mz_meaning.specs.Runs.{State}
use Rattle.mz_meaning.specs.Contexts.{Context}
use Rattle.mz_meaning.specs.Forms.{done}
use Rattle.mz_symbol.specs.Readings.{Reading}
use Rattle.mz_eval_cells.specs.declared.types.Known.{Known}
use Rattle.mz_eval_cells.specs.Views.{seen}
use Rattle.mz_eval_scopes.specs.declared.types.Scope.{Scope}
use Rattle.mz_eval.specs.declared.types.Level.{Level}
use Rattle.mz_eval.specs.Levels.{world_in, go_of, scope_of}

-- an expression at a level and in a scope has this cell, for one unit of work
abbrev pub IsNamed : Level → Scope → Core → Known → Type 0
IsNamed l s e k = (r : Reading) (ctx : Context) (x : State) → go_of r l ctx (tree e) (scope_of r l s) x ≡ done (world_in r l) e.span (seen r k) x
