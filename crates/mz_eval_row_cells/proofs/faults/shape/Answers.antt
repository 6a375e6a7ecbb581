use Rattle.std.proofs.Common.{◌≡◌, arith, rules}
use Rattle.std.specs.Prelude.{None, Some}
use Rattle.mz_operations.specs.Arguments.{set_at}
use Rattle.mz_eval_row_cells.specs.Steps.{all_known}
use Rattle.mz_builtin_values.proofs.Places.{shape_ends, shape_stops, shape_goes}
use Rattle.mz_eval_row_cells.proofs.faults.shape.Goals as goal

pub returns-in_default : goal.returns-in_default
returns-in_default c =
    let missing : set_at (all_known c.args.cells.now) c.loop-k.k ≡ None = search rules in
    shape_stops c.args.d c.loop-k.k (all_known c.args.cells.now) _ _ (omega arith) missing c.loop-k.invariant.1

pub loop-k-preserved : goal.loop-k-preserved
loop-k-preserved c =
    let there : set_at (all_known c.args.cells.now) c.loop-k.k ≡ Some c.in-Some.s.now = search rules in
    (omega arith, shape_goes c.args.d c.loop-k.k (all_known c.args.cells.now) _ _ c.in-Some.s.now _ (omega arith) there c.in_ok-w.ensures c.loop-k.invariant.1)

pub returns : goal.returns
returns c = shape_ends c.args.d c.loop-k.k (all_known c.args.cells.now) _ _ c.loop-k.invariant.0 (omega arith) c.loop-k.invariant.1
