use Rattle.std.proofs.Common.{◌∙◌, ap}
use Rattle.mz_symbol.proofs.ConstantLaws.{out_value, out_state}
use Rattle.mz_symbol_rows.proofs.RowLaws.{out_both}
use Rattle.mz_eval_symbols.specs.Taken.{line_seen}
use Rattle.mz_eval_arrays.specs.StepsBranches.{one_value}
use Rattle.mz_eval_branches.proofs.lines.of_first.Goals as goal

pub returns-clause-means : goal.returns-clause-means
returns-clause-means c r h =
    let e = c.in_ok-line.ensures.means r h in
    let g = c.in-Ok.ensures.means c.args.like.now r (c.in_ok-line.ensures.goes.back r h) in
    out_both (ap (one_value r c.args.id (line_seen c.args.like.now r c.args.p)) (out_value g) ∙ out_value e) (out_state g ∙ out_state e)
