use Rattle.std.proofs.Common.{◌∙◌, ap, map}
use Rattle.mz_operations.specs.Bounds as bounds
use Rattle.mz_meaning.specs.Cells.{Var}
use Rattle.mz_eval_cells.specs.Views.{known_bound}
use Rattle.mz_eval_arrays.proofs.Missing.{held_none}
use Rattle.mz_eval_rows.proofs.joined.untold_row.Goals as goal

pub returns : goal.returns
returns c r = c.in_ok-k.ensures.seen r ∙ ap (Var (bounds.many c.args.index.value.items (map known_bound c.args.all.value.items))) (held_none r.mode)
