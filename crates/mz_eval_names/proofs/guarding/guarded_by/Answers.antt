use Rattle.std.proofs.Common.{◌∙◌, sym, ap}
use Rattle.mz_core.specs.Types.{plain_type}
use Rattle.mz_meaning.specs.Cells.{guarded}
use Rattle.mz_eval_cells.specs.Views.{seen}
use Rattle.mz_eval_guards.specs.Guards.{guard_seen}
use Rattle.mz_eval_names.proofs.CellLaws.{same_cell}
use Rattle.mz_eval_names.proofs.guarding.guarded_by.Goals as goal

pub returns-in_ok-x-in-Par-clause-cell : goal.returns-in_ok-x-in-Par-clause-cell
returns-in_ok-x-in-Par-clause-cell c = same_cell c.args.run.now _ c.in_ok-x-in-Par.x (λ r. c.in_ok-x-in-Par.ensures r ∙ ap (λ g. guarded r.mode (plain_type c.args.t.now) (guard_seen r g) (seen r c.args.k)) (sym c.in-Par.is))
