use Rattle.std.proofs.Common.{◌≡◌, arith, rules, refl}
use Rattle.std.proofs.lemmas.Int.{ints}
use Rattle.std.specs.Prelude.{Some, None}
use Rattle.mz_value.specs.Contents.{content}
use Rattle.mz_operations.specs.Views.{as_int}
use Rattle.mz_operations.specs.Numbers.{nearer}
use Rattle.mz_builtin_values.proofs.Turns.{turn_stops, turn_read}
use Rattle.mz_builtin_values.proofs.fold.extreme.Goals as goal

pub returns-in_err-n : goal.returns-in_err-n
returns-in_err-n c =
    let missing : as_int (content c.x-item.result) ≡ None = search rules in
    let stops : c.from_residual.result ≡ None = search rules in
    turn_stops as_int (nearer c.args.side) _ c.args.items.now c.loop-x.x-index c.x-item.result _ _ (omega arith) c.x-item.is missing stops c.loop-x.invariant

pub loop-x-preserved : goal.loop-x-preserved
loop-x-preserved c =
    let there : as_int (content c.x-item.result) ≡ Some c.in_ok-n.n = search rules in
    turn_read as_int (nearer c.args.side) _ _ _ c.args.items.now c.loop-x.x-index c.x-item.result _ c.in_ok-n.n _ (omega arith) c.x-item.is there c.loop-x.invariant c.nearer-acc.ensures (omega (arith, ints)) refl
