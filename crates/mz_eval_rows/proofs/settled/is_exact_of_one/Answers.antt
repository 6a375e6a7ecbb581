use Rattle.std.proofs.Common.{◌∙◌, [], ◌∷◌, sym}
use Rattle.mz_meaning.specs.Cells.{value_of}
use Rattle.mz_eval_cells.specs.Views.{cell_of}
use Rattle.mz_eval_rows.proofs.SettledLaws.{folded_exact, plain_exact}
use Rattle.mz_eval_rows.proofs.settled.is_exact_of_one.Goals as goal

pub returns-then-is_fold : goal.returns-then-is_fold
returns-then-is_fold c h = folded_exact c.args.row (cell_of c.args.x.now) (sym c.is_fold.ensures ∙ c.if-is_fold.true) (c.is_undefined.ensures h)

pub returns-else-is_fold : goal.returns-else-is_fold
returns-else-is_fold c h = plain_exact c.args.row (value_of (cell_of c.args.x.now) ∷ []) (sym c.is_plain.ensures ∙ h)
