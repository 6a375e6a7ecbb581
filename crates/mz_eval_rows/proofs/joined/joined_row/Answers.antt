use Rattle.std.proofs.Common.{◌+◌, ◌*◌, ◌^◌, ◌<◌, [], ◌∷◌, false, map, subst}
use Rattle.mz_operations.specs.Bounds as bounds
use Rattle.mz_operations.specs.declared.row.MadeRow.TheVariants as made
use Rattle.mz_operations.specs.declared.row.Row.TheVariants.{Made}
use Rattle.mz_meaning.specs.Cells.{Var, typed}
use Rattle.mz_meaning.specs.Operations.{row_cost}
use Rattle.mz_meaning.specs.Runs.{give}
use Rattle.mz_symbol.specs.Makes.{Means}
use Rattle.mz_symbol_rows.proofs.GoingOn.{goes_most}
use Rattle.mz_eval_cells.specs.Views.{cell_of, known_bound, seen}
use Rattle.mz_eval_symbols.specs.Taken.{count_in}
use Rattle.mz_eval_row_symbols.specs.NodeRows.{stamped, var_value}
use Rattle.mz_eval_rows.proofs.JoinedLaws.{concat_pays}
use Rattle.mz_eval_rows.proofs.joined.joined_row.Goals as goal

pub returns-clause-goes : goal.returns-clause-goes
returns-clause-goes c =
    goes_most (40 * count_in c.args.a.now.cell + 40 * count_in c.args.b.now.cell + 6) (64 * (1 + row_cost (Made made.Concat) (cell_of c.args.a.now.cell ∷ cell_of c.args.b.now.cell ∷ []))) c.args.run.now c.joined_items.new.run
    (concat_pays c.args.a.now.cell c.args.b.now.cell (subst (λ n. n < 2 ^ 60) c.count_in.ensures (c.is_few.ensures c.if-not-is_few.false)) (subst (λ n. n < 2 ^ 60) c.count_in-2.ensures (c.is_few-2.ensures c.if-not-is_few-2.false)))
    c.joined_items.ensures.goes

pub returns-clause-means : goal.returns-clause-means
returns-clause-means c names t =
    subst (λ bs. Means (stamped t) c.joined_items.result c.args.run.now c.joined_items.new.run
    (λ r. give (typed r.mode false t (Var (bounds.many c.args.ix.now.value.items (map known_bound bs)) (var_value r.mode names (Made made.Concat) t (seen r c.args.a.now.cell ∷ seen r c.args.b.now.cell ∷ []))))))
    c.in_ok-all.ensures (c.joined_items.ensures.means names t)
