use Rattle.std.proofs.Common.{[], option_map, ap}
use Rattle.mz_value.specs.Contents as values
use Rattle.mz_value.specs.Contents.{contents}
use Rattle.mz_meaning.specs.Cells.{held}
use Rattle.mz_symbol.proofs.ConstantLaws.{out_value, out_state}
use Rattle.mz_symbol_rows.proofs.RowLaws.{out_both}
use Rattle.mz_eval_symbols.proofs.lines.no_line.Goals as goal

pub returns-clause-means : goal.returns-clause-means
returns-clause-means c r h =
    let e = c.in_ok-line.ensures.means r h in
    out_both (ap (λ o. held r.mode (option_map (λ xs. values.array [] (contents xs)) o)) (out_value e)) (out_state e)
