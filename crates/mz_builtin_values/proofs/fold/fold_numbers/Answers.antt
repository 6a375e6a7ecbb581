use Rattle.std.proofs.Common.{◌≡◌, arith, rules}
use Rattle.std.proofs.lemmas.Int.{ints}
use Rattle.std.specs.Prelude.{Some, None}
use Rattle.mz_value.specs.Contents.{content}
use Rattle.mz_operations.specs.Numbers.{folded}
use Rattle.mz_operations.specs.Arrays.{summand}
use Rattle.mz_builtin_values.proofs.Turns.{turn_stops, turn_read}
use Rattle.mz_builtin_values.proofs.fold.fold_numbers.Goals as goal

pub returns-in_err-n : goal.returns-in_err-n
returns-in_err-n c =
    let missing : (summand c.args.op) (content c.x-item.result) ≡ None = search rules in
    let stops : c.from_residual.result ≡ None = search rules in
    turn_stops (summand c.args.op) (folded c.args.op) _ c.args.items.now c.loop-x.x-index c.x-item.result _ _ (omega arith) c.x-item.is missing stops c.loop-x.invariant

pub loop-x-preserved : goal.loop-x-preserved
loop-x-preserved c =
    let there : (summand c.args.op) (content c.x-item.result) ≡ Some c.in_ok-n.n = search rules in
    turn_read (summand c.args.op) (folded c.args.op) _ _ c.folded-acc.result c.args.items.now c.loop-x.x-index c.x-item.result _ c.in_ok-n.n _ (omega arith) c.x-item.is there c.loop-x.invariant c.folded-acc.ensures (omega (arith, ints)) (omega (arith, ints))
