use Rattle.std.proofs.Common.{[], ◌∷◌, arith}
use Rattle.mz_operations.specs.declared.row.Row.TheVariants.{Scalar}
use Rattle.mz_eval_cells.specs.Views.{cell_of}
use Rattle.mz_eval_row_symbols.proofs.ToldLaws.{goes_paid}
use Rattle.mz_eval_row_symbols.proofs.told.scalar_with_two.Goals as goal

pub returns-in-Power-clause-means : goal.returns-in-Power-clause-means
returns-in-Power-clause-means c = rw c.in-Power.is c.power_with_two.ensures.means

pub returns-in-Clause-clause-means : goal.returns-in-Clause-clause-means
returns-in-Clause-clause-means c = rw c.in-Clause.is c.clause_of.ensures.means

pub returns-in-Clause-clause-goes : goal.returns-in-Clause-clause-goes
returns-in-Clause-clause-goes c = rw c.in-Clause.is c.clause_of.ensures.goes

pub returns-in-Power-clause-goes : goal.returns-in-Power-clause-goes
returns-in-Power-clause-goes c = goes_paid 128 (Scalar c.args.w) (cell_of c.args.a.now.cell ∷ cell_of c.args.b.now.cell ∷ []) c.args.run.now c.power_with_two.new.run (omega arith) c.power_with_two.ensures.goes

pub returns-in_default : goal.returns-in_default
returns-in_default c = record {
  goes = goes_paid 108 (Scalar c.args.w) (cell_of c.args.a.now.cell ∷ cell_of c.args.b.now.cell ∷ []) c.args.run.now c.plain_of_two.new.run (omega arith) c.plain_of_two.ensures.goes;
  means = c.plain_of_two.ensures.means;
}
