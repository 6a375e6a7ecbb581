use Rattle.std.proofs.Common.{◌≡◌, drop, map}
use Rattle.mz_core.specs.Program.{plain_program}
use Rattle.mz_core.specs.TreeViews.{tree}
use Rattle.mz_eval_scopes.specs.Views.{env_cells, world_for}
use Rattle.mz_print.specs.Items.{joined}
use Rattle.mz_print.proofs.Joins.{ItemsSoFar}
use Rattle.mz_print.proofs.items.items_text.Given as goal

abbrev pub invariant-loop-e : goal.invariant-loop-e
invariant-loop-e l = record {
  so_far : ItemsSoFar (world_for (plain_program l.program) l.budget l.int_range (env_cells l.env)) (map tree l.program.outputs.items) (drop l.e-index (map tree l.program.outputs.items)) l.steps.used (joined l.joined);
  budget : l.steps.budget ≡ l.budget;
  limit : l.depth.limit ≡ 600;
  nesting : l.depth.nesting ≡ 0;
}
