use Rattle.std.proofs.Common.{◌∷◌, [], MatchOption, subst, sym}
use Rattle.mz_operations.specs.declared.row.Row.TheVariants.{Scalar}
use Rattle.mz_meaning.specs.Cells.{bounds_in}
use Rattle.mz_symbol.specs.Readings.{Reading}
use Rattle.mz_eval_cells.specs.Views.{seen}
use Rattle.mz_eval_row_symbols.specs.Ends.{AreEnds}
use Rattle.mz_eval_row_symbols.proofs.ends.ends_of_row.Goals as goal

pub returns-in-Arith : goal.returns-in-Arith
returns-in-Arith c =
    subst (λ w. MatchOption c.ends_of_arith.result (Unit {0}) (λ e. (r : Reading) → AreEnds (Scalar w) (bounds_in (seen r c.args.a.now) ∷ bounds_in (seen r c.args.b.now) ∷ []) e)) (sym c.in-Arith.is) c.ends_of_arith.ensures
