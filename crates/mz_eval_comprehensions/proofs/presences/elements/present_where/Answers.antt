use Rattle.std.proofs.Common.{◌≡◌, ◌∙◌, sym, ap}
use Rattle.mz_arena.specs.Values as terms
use Rattle.mz_operations.specs.Bounds as bounds
use Rattle.mz_meaning.specs.Runs.{Out}
use Rattle.mz_meaning.specs.Cells.{held, bounds_in}
use Rattle.mz_meaning.specs.Comprehensions.{absent_unless}
use Rattle.mz_symbol.specs.Readings.{state_of}
use Rattle.mz_symbol.proofs.ConstantLaws.{out_value, out_state}
use Rattle.mz_symbol_rows.specs.RowValues.{argument}
use Rattle.mz_eval_cells.specs.Views.{cell_of, known_bound, known_bounds, seen}
use Rattle.mz_eval_comprehensions.proofs.Occurring.{present_is}
use Rattle.mz_eval_comprehensions.proofs.presences.elements.present_where.Goals as goal

pub returns-clause-means : goal.returns-clause-means
returns-clause-means c r h =
    let s = c.in_ok-s.ensures.means r h in
    let x = c.in_ok-x.ensures.means r (c.in_ok-s.ensures.goes.back r h) in
    let b = c.in-One.bound in
    let k = c.args.k.now in
    let p = terms.is_true (r.term c.args.d) in
    let ends : bounds.one (known_bound b) ≡ bounds_in (cell_of k) = ap known_bounds (sym c.in-One.is) ∙ c.in_ok-bounds.ensures in
    let is = present_is r k c.args.d (known_bound b) (argument r c.in_ok-s.s) ends (ap (λ v. held r.mode (absent_unless p v)) (out_value x) ∙ out_value s) in
    ap (λ y. Out y (state_of r c.args.run.now)) (is ∙ sym (c.in_ok-cell_of_symbol.ensures.seen r))
    ∙ ap (λ t. Out (seen r c.in_ok-cell_of_symbol.field-0) t) (out_state x ∙ out_state s)
