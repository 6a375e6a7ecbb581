use Rattle.std.proofs.Common.{[], ◌∷◌, ◌+◌, ◌*◌, ◌^◌, ◌<◌, subst}
use Rattle.mz_operations.specs.declared.row.ScalarRow.TheVariants as scalar
use Rattle.mz_operations.specs.declared.row.Row.TheVariants.{Scalar}
use Rattle.mz_meaning.specs.Operations.{row_cost}
use Rattle.mz_symbol_rows.proofs.GoingOn.{goes_most}
use Rattle.mz_eval_cells.specs.Views.{cell_of}
use Rattle.mz_eval_symbols.specs.Taken.{count_in}
use Rattle.mz_eval_row_symbols.proofs.LineLaws.{clause_pays}
use Rattle.mz_eval_row_symbols.proofs.pairs.clause_of.Goals as goal

pub returns-clause-goes : goal.returns-clause-goes
returns-clause-goes c =
    goes_most (58 * count_in c.args.a.now.cell + 58 * count_in c.args.b.now.cell + 76) (64 * (1 + row_cost (Scalar scalar.Clause) (cell_of c.args.a.now.cell ∷ cell_of c.args.b.now.cell ∷ []))) c.args.run.now c.clause_row.new.run
    (clause_pays c.args.a.now.cell c.args.b.now.cell (subst (λ n. n < 2 ^ 60) c.count_in.ensures (c.is_few.ensures c.if-not-is_few.false)) (subst (λ n. n < 2 ^ 60) c.count_in-2.ensures (c.is_few-2.ensures c.if-not-is_few-2.false)))
    c.clause_row.ensures.goes
