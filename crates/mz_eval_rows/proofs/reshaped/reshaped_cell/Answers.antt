use Rattle.std.specs.Option.{option_map}
use Rattle.mz_operations.specs.declared.row.MadeRow.TheVariants as made
use Rattle.mz_operations.specs.Values.{made_value}
use Rattle.mz_meaning.specs.Cells.{held}
use Rattle.mz_meaning.specs.Coerced.{recast}
use Rattle.mz_eval_rows.proofs.reshaped.reshaped_cell.Goals as goal

pub returns-in_ok-k-in_default : goal.returns-in_ok-k-in_default
returns-in_ok-k-in_default c r h jx ws b keeps e = c.in_ok-k-in_default.ensures r (held r.mode (option_map (recast b) (made_value (made.Shaped c.args.d) ws)))
