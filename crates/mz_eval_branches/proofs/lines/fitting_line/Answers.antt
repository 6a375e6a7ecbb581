use Rattle.std.proofs.Common.{◌∙◌, ap, sym}
use Rattle.mz_symbol.proofs.ConstantLaws.{out_value, out_state}
use Rattle.mz_symbol_rows.proofs.RowLaws.{out_both}
use Rattle.mz_symbol_arrays.specs.LineValues.{array_argument}
use Rattle.mz_eval_symbols.specs.Taken.{count_in}
use Rattle.mz_eval_branches.proofs.LineLaws.{goes_counted}
use Rattle.mz_eval_branches.proofs.lines.fitting_line.Goals as goal

pub returns-in_err-line-clause-goes : goal.returns-in_err-line-clause-goes
returns-in_err-line-clause-goes c = goes_counted (count_in c.args.k.now) c.args.count c.args.run.now c.line_in.new.run (sym c.count_in-own.ensures ∙ c.in_ok-are_so_many.ensures) c.line_in.ensures.goes

pub returns-clause-goes : goal.returns-clause-goes
returns-clause-goes c = goes_counted (count_in c.args.k.now) c.args.count c.args.run.now c.line_in.new.run (sym c.count_in-own.ensures ∙ c.in_ok-are_so_many.ensures) c.line_in.ensures.goes

pub returns-clause-means : goal.returns-clause-means
returns-clause-means c r h =
    let e = c.in_ok-line.ensures.means r h in
    out_both (out_value e ∙ ap (λ ix. array_argument r ix c.in_ok-line.line) c.in_ok-are_ranges_of.ensures) (out_state e)
