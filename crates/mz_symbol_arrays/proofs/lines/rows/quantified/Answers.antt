use Rattle.std.proofs.Common.{◌≡◌, ◌∙◌, [], ◌∷◌, subst}
use Rattle.mz_meaning.specs.Cells.{held}
use Rattle.mz_meaning.specs.Runs.{Out}
use Rattle.mz_operations.specs.declared.row.Connective.TheVariants as connective
use Rattle.mz_operations.specs.declared.row.ScalarRow.TheVariants as row
use Rattle.mz_symbol.specs.Readings.{symbol_seen, state_of}
use Rattle.mz_symbol.proofs.ConstantLaws.{out_state}
use Rattle.mz_symbol.specs.Arguments.{truth_of}
use Rattle.mz_symbol_rows.specs.RowValues.{row_value}
use Rattle.mz_symbol_rows.proofs.RowLaws.{out_both}
use Rattle.mz_symbol_arrays.specs.StepsLines.{Walks}
use Rattle.mz_symbol_arrays.proofs.RowLaws.{quantified_held, first_truth}
use Rattle.mz_symbol_arrays.proofs.lines.rows.quantified.Goals as goal

pub returns-clause-means : goal.returns-clause-means
returns-clause-means c ix r h =
    let old = c.args.run.now in
    let m1 = c.truth.new.self in
    let m2 = c.walked.new.run in
    let d = c.in_ok-found.found.0 in
    let n = c.in_ok-found.found.1 in
    let e = c.in_ok-both.ensures.means r h in
    let last = c.in_ok-both.ensures.goes.back r h in
    let w = c.in-Ok.ensures.walks r last in
    let next = c.in-Ok.ensures.goes.back r last in
    let f = c.in_ok-first.ensures.means r next in
    let made = subst (λ s. Out (held r.mode (truth_of (row_value r (row.Logic connective.And) (s ∷ c.in-Ok.all ∷ [])))) (state_of r m2) ≡ Out (symbol_seen r c.in_ok-both.both) (state_of r c.logic.new.run)) c.truth_symbol-there.ensures e in
    out_both (quantified_held r old m1 m2 c.args.op ix c.args.line d n c.in_ok-first.first c.in-Ok.all c.in_ok-both.both (state_of r m2) (state_of r c.logic.new.run) (record {
      line = c.in_ok-found.ensures.line;
      reads = c.in_ok-first.ensures.goes.back r next;
      first_is = first_truth r c.args.op c.starts_true.result c.in_ok-first.first (state_of r old) (state_of r m1) c.starts_true.ensures f;
      walks = subst (λ k. Walks r m1 m2 k c.args.line n c.in_ok-first.first c.in-Ok.all) c.walk_of.ensures w;
    }) made) (out_state f ∙ w.same ∙ out_state e)
