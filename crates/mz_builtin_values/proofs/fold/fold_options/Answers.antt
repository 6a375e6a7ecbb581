use Rattle.std.proofs.Common.{◌≡◌, arith, rules}
use Rattle.std.specs.Prelude.{Some, None}
use Rattle.mz_value.specs.Contents.{content}
use Rattle.mz_operations.specs.Numbers.{quantified}
use Rattle.mz_operations.specs.Arrays.{instance}
use Rattle.mz_builtin_values.proofs.Turns.{turn_stops, turn_made}
use Rattle.mz_builtin_values.proofs.fold.fold_options.Goals as goal

pub returns-in_err-b : goal.returns-in_err-b
returns-in_err-b c =
    let missing : (instance c.args.op) (content c.x-item.result) ≡ None = search rules in
    let stops : c.from_residual.result ≡ None = search rules in
    turn_stops (instance c.args.op) (quantified c.args.op) _ c.args.items.now c.loop-x.x-index c.x-item.result _ _ (omega arith) c.x-item.is missing stops c.loop-x.invariant

pub loop-x-preserved : goal.loop-x-preserved
loop-x-preserved c =
    let there : (instance c.args.op) (content c.x-item.result) ≡ Some c.in_ok-b.b = search rules in
    turn_made (instance c.args.op) (quantified c.args.op) _ _ c.args.items.now c.loop-x.x-index c.x-item.result _ c.in_ok-b.b (omega arith) c.x-item.is there c.loop-x.invariant c.quantified-acc.ensures
