use Rattle.std.proofs.Common.{◌∙◌, ap, sym}
use Rattle.mz_meaning.specs.Cells.{Cell}
use Rattle.std.specs.Prelude.{List, ◌++◌, ◌∷◌, []}
use Rattle.mz_symbol.proofs.ConstantLaws.{out_value, out_state}
use Rattle.mz_symbol_rows.proofs.RowLaws.{out_both}
use Rattle.mz_eval_cells.specs.Views.{seen}
use Rattle.mz_eval_arrays.specs.Gathered.{gathered_by}
use Rattle.mz_eval_guards.specs.Guards.{guard_seen}
use Rattle.mz_eval_comprehensions.proofs.making.add_element.Goals as goal

pub returns-clause-means : goal.returns-clause-means
returns-clause-means c r h =
    let e = c.in_ok-k.ensures.means r h in
    let made = c.args.made in
    out_both
    (ap (λ (cs : List Cell). record { cells = cs; whole = guard_seen r made.whole }) (ap (λ x. gathered_by (seen r) made.cells ++ x ∷ []) (out_value e) ∙ sym (c.in_ok-more.ensures r)))
    (out_state e)
