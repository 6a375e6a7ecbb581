use Rattle.std.proofs.Common.{rules, ◌∙◌}
use mir.Syntax.{w64}
use Rattle.std.proofs.lemmas.Int.{to_z-of_z}
use Rattle.mz_symbol.specs.Readings.{state_of}
use Rattle.mz_symbol.proofs.ConstantLaws.{out_state}
use Rattle.mz_symbol_rows.proofs.RowLaws.{out_both}
use Rattle.mz_symbol_arrays.proofs.FoldLaws.{fold_held, first_number}
use Rattle.mz_symbol_arrays.proofs.sums.folds.fold.Goals as goal

pub returns-in_ok-number-in-Int-clause-means : goal.returns-in_ok-number-in-Int-clause-means
returns-in_ok-number-in-Int-clause-means c names ix r h =
    let old = c.args.run.now in
    let m1 = c.integer.new.self in
    let m2 = c.folded.new.run in
    let e = c.in_ok-number-in-Int.ensures.means r h in
    let last = c.in_ok-number-in-Int.ensures.goes.back r h in
    let w = c.in-Ok.ensures.folds r last in
    let next = c.in-Ok.ensures.goes.back r last in
    let f = c.in_ok-first.ensures.means r next in
    out_both (fold_held r old m1 m2 names c.args.op ix c.args.line c.in_ok-found.found.0 c.in_ok-found.found.1 c.in_ok-first.first c.in-Ok.all c.in_ok-number-in-Int.number (state_of r m2) (state_of r c.guarded.new.run) (record {
      line = c.in_ok-found.ensures.line;
      reads = c.in_ok-first.ensures.goes.back r next;
      first_is = first_number r c.args.op _ c.in_ok-first.first (state_of r old) (state_of r m1) (to_z-of_z w64 c.start.result (search rules) ∙ c.start.ensures) f;
      folds = w;
    }) c.in-Int.is e) (out_state f ∙ w.same ∙ out_state e)
