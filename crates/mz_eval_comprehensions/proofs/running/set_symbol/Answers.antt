use Rattle.std.proofs.Common.{◌∙◌, ap, sym}
use Rattle.mz_meaning.specs.Cells.{held, value_of}
use Rattle.mz_symbol.proofs.ConstantLaws.{out_value, out_state}
use Rattle.mz_symbol_rows.proofs.RowLaws.{out_both}
use Rattle.mz_eval_cells.specs.Views.{var_content}
use Rattle.mz_eval_comprehensions.proofs.RunningLaws.{held_held}
use Rattle.mz_eval_comprehensions.proofs.running.set_symbol.Goals as goal

pub returns-clause-means : goal.returns-clause-means
returns-clause-means c r h =
    let e = c.in_ok-s.ensures.means r h in
    out_both
    (sym (held_held r.mode (var_content r.term c.args.v.now.value)) ∙ ap (λ x. held r.mode (value_of x)) (sym (c.in_ok-k.ensures r)) ∙ out_value e)
    (c.draw.ensures.same r ∙ out_state e)
