use Rattle.std.proofs.Common.{◌∙◌, length, map, option_map, sym, ap}
use Rattle.mz_value.specs.Contents as values
use Rattle.mz_value.specs.Contents.{content, contents}
use Rattle.mz_meaning.specs.Cells.{held}
use Rattle.mz_symbol.proofs.ConstantLaws.{out_value, out_state}
use Rattle.mz_symbol_rows.proofs.RowLaws.{out_both}
use Rattle.mz_eval_symbols.proofs.Arrays.{items_same}
use Rattle.mz_eval_symbols.proofs.LineLaws.{goes_counted, items_count}
use Rattle.mz_eval_symbols.proofs.lines.array_line.Goals as goal

pub returns-in_err-line-clause-goes : goal.returns-in_err-line-clause-goes
returns-in_err-line-clause-goes c = goes_counted (length c.args.items.now) _ c.args.run.now c.values_line.new.run (sym (items_count c.args.items.now)) c.values_line.ensures.goes

pub returns-clause-goes : goal.returns-clause-goes
returns-clause-goes c = goes_counted (length c.args.items.now) _ c.args.run.now c.values_line.new.run (sym (items_count c.args.items.now)) c.values_line.ensures.goes

pub returns-clause-means : goal.returns-clause-means
returns-clause-means c r h =
    let e = c.in_ok-line.ensures.means r h in
    out_both (ap (λ o. held r.mode (option_map (λ xs. values.array c.args.index.now (contents xs)) o)) (sym (items_same (map content c.args.items.now)) ∙ out_value e)) (out_state e)
