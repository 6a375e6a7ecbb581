use Rattle.std.proofs.Common.{◌∙◌, ap, sym}
use Rattle.mz_meaning.specs.Cells.{Sure, both_sure}
use Rattle.mz_symbol_rows.proofs.RowLaws.{out_both}
use Rattle.mz_eval_cells.specs.Views.{seen}
use Rattle.mz_eval_arrays.specs.Gathered.{gathered_by}
use Rattle.mz_eval_guards.specs.Guards.{guard_seen}
use Rattle.mz_eval_comprehensions.proofs.making.add_set.Goals as goal

pub returns-clause-means : goal.returns-clause-means
returns-clause-means c r h =
    let made = c.args.made in
    let back = c.in_ok-all.ensures.goes.back r h in
    let g = c.in_ok-g.ensures.guards in
    let a = c.in_ok-all.ensures.guards in
    out_both
    (ap (λ (s : Sure). record { cells = gathered_by (seen r) made.cells; whole = s }) (ap (both_sure (guard_seen r made.whole)) (sym (g.is r back)) ∙ sym (a.is r h)))
    (g.same r back ∙ a.same r h)
