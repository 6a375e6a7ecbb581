use Rattle.std.proofs.Common.{◌≡◌, arith, rules}
use Rattle.std.specs.Prelude.{Some, None, false}
use Rattle.mz_value.specs.Contents.{content}
use Rattle.mz_operations.specs.Numbers.{counted}
use Rattle.mz_operations.specs.Arrays.{truth_or}
use Rattle.mz_builtin_values.proofs.Turns.{turn_stops, turn_made, turn_ends}
use Rattle.mz_builtin_values.proofs.fold.fold_count.Goals as goal

pub returns-in_err-b : goal.returns-in_err-b
returns-in_err-b c =
    let missing : (truth_or false) (content c.x-item.result) ≡ None = search rules in
    let stops : c.from_residual.result ≡ None = search rules in
    turn_stops (truth_or false) counted _ c.args.items.now c.loop-x.x-index c.x-item.result _ _ (omega arith) c.x-item.is missing stops c.loop-x.invariant.1

pub loop-x-preserved : goal.loop-x-preserved
loop-x-preserved c =
    let there : (truth_or false) (content c.x-item.result) ≡ Some c.in_ok-b.b = search rules in (
      omega (arith, c.counted-acc.ensures.bound),
      turn_made (truth_or false) counted _ _ c.args.items.now c.loop-x.x-index c.x-item.result _ c.in_ok-b.b (omega arith) c.x-item.is there c.loop-x.invariant.1 c.counted-acc.ensures.value,
    )

pub returns : goal.returns
returns c = turn_ends (truth_or false) counted _ c.args.items.now c.loop-x.x-index _ (omega arith) c.loop-x.invariant.1
