use Rattle.std.proofs.Common.{map}
use Rattle.mz_eval_cells.specs.Views.{known_bound}
use Rattle.mz_eval_cells.specs.declared.types.Known.TheVariants as known
use Rattle.mz_eval_guards.proofs.RowLaws.{row_cell}
use Rattle.mz_eval_guards.proofs.guarding.told_row.Goals as goal

pub returns-clause-cell : goal.returns-clause-cell
returns-clause-cell c = row_cell _ c.in-Ok.line c.args.d c.in_ok-made.made c.args.run.now c.line_in.new.run c.line_kept.new.run c.args.index.now.value.items (map known_bound c.args.xs.now.value.bounds.value.items) c.in_ok-k.k (known.Row c.args.index.now c.args.xs.now) c.in_ok-x.x c.in_ok-k.ensures.seen c.in_ok-k.ensures.ranges c.in-Ok.ensures.means c.in_ok-made.ensures.goes c.in_ok-made.ensures.line c.in_ok-x.ensures.of c.in_ok-x.ensures.seen
