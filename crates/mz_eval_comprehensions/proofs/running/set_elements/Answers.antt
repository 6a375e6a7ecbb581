use Rattle.std.proofs.Common.{◌∙◌, ap, map, refl, sym}
use Rattle.mz_value.specs.Shown.{elements}
use Rattle.mz_meaning.specs.Cells.{held}
use Rattle.mz_meaning.specs.Comprehensions.{member}
use Rattle.mz_symbol.proofs.ConstantLaws.{out_value, out_state}
use Rattle.mz_symbol_rows.proofs.RowLaws.{out_both}
use Rattle.mz_eval_cells.specs.Views.{var_content}
use Rattle.mz_eval_comprehensions.proofs.RunningLaws.{held_none}
use Rattle.mz_eval_comprehensions.proofs.running.set_elements.Goals as goal

pub returns-then-is_nothing-clause-means : goal.returns-then-is_nothing-clause-means
returns-then-is_nothing-clause-means c r h =
    out_both
    (
    ap (λ w. map (member r.mode c.args.base w) (elements c.args.upper.now)) (ap (held r.mode) (ap (var_content r.term) (sym c.deref.ensures) ∙ c.is_nothing.ensures c.if-is_nothing.true r.term) ∙ held_none r.mode)
    ∙ sym (c.untold.ensures r)
    )
    refl

pub returns-clause-means : goal.returns-clause-means
returns-clause-means c r h =
    let e = c.in_ok-s.ensures.means r h in
    out_both (ap (λ w. map (member r.mode c.args.base w) (elements c.args.upper.now)) (out_value e) ∙ sym (c.told.ensures r)) (out_state e)
