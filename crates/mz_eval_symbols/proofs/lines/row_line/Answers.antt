use Rattle.std.proofs.Common.{◌∙◌, option_map, ap}
use Rattle.mz_value.specs.Contents as values
use Rattle.mz_value.specs.Contents.{contents}
use Rattle.mz_meaning.specs.Cells.{held}
use Rattle.mz_eval_cells.specs.Views.{origins_value, row_content}
use Rattle.mz_symbol.proofs.ConstantLaws.{out_value, out_state}
use Rattle.mz_symbol_rows.proofs.RowLaws.{out_both}
use Rattle.mz_eval_symbols.proofs.Arrays.{array_cast, held_twice}
use Rattle.mz_eval_symbols.proofs.lines.row_line.Goals as goal

pub returns-clause-means : goal.returns-clause-means
returns-clause-means c r h =
    let e = c.in_ok-line.ensures.means r h in
    out_both (held_twice r.mode (row_content r.line c.args.index.now c.args.xs.now) ∙ ap (held r.mode) (array_cast c.args.xs.now.cast c.args.index.now (origins_value r.line c.args.xs.now.origins) ∙ ap (option_map (λ ys. values.array c.args.index.now (contents ys))) (out_value e))) (out_state e)
