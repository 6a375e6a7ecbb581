use Rattle.std.proofs.Common.{◌≡◌, arith, rules, refl}
use Rattle.std.specs.Prelude.{Some, None}
use Rattle.mz_operations.specs.Bounds.{union_from}
use Rattle.mz_operations.specs.RowBounds.{as_upper}
use Rattle.mz_eval_cells.specs.Views.{known_bound}
use Rattle.mz_eval_row_bounds.proofs.Listing.{fold_stops, fold_goes, fold_ends, none_united, one_united}
use Rattle.mz_eval_row_bounds.proofs.uppers.union_of.Goals as goal

pub returns-in_default : goal.returns-in_default
returns-in_default c =
    let missing : as_upper (known_bound c.b-item.result) ≡ None = search rules in
    fold_stops as_upper known_bound union_from _ c.args.all.now c.loop-b.b-index c.b-item.result _ _ (omega arith) c.b-item.is missing refl c.loop-b.invariant

pub loop-b-preserved : goal.loop-b-preserved
loop-b-preserved c =
    let there : as_upper (known_bound c.b-item.result) ≡ Some c.in-Some.u.now = search rules in
    fold_goes as_upper known_bound union_from _ _ c.args.all.now c.loop-b.b-index c.b-item.result _ c.in-Some.u.now (one_united _ _ _ (search rules)) (omega arith) c.b-item.is there c.loop-b.invariant

pub returns : goal.returns
returns c = fold_ends as_upper known_bound union_from _ c.args.all.now c.loop-b.b-index _ (none_united _) (omega arith) c.loop-b.invariant
