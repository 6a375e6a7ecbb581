use Rattle.std.proofs.Common.{◌≡◌, arith, rules, refl}
use Rattle.std.specs.Prelude.{Some, None}
use Rattle.mz_value.specs.Contents.{content}
use Rattle.mz_operations.specs.Views.{as_set}
use Rattle.mz_operations.specs.Sets.{union}
use Rattle.mz_builtin_values.proofs.Turns.{turn_stops, turn_made}
use Rattle.mz_builtin_values.proofs.operations.union_of.Goals as goal

pub returns-in_default : goal.returns-in_default
returns-in_default c =
    let missing : as_set (content c.x-item.result) ≡ None = search rules in
    turn_stops as_set union _ c.args.items.now c.loop-x.x-index c.x-item.result _ _ (omega arith) c.x-item.is missing refl c.loop-x.invariant

pub loop-x-preserved : goal.loop-x-preserved
loop-x-preserved c =
    let there : as_set (content c.x-item.result) ≡ Some c.in-Some.s.now = search rules in
    turn_made as_set union _ _ c.args.items.now c.loop-x.x-index c.x-item.result _ c.in-Some.s.now (omega arith) c.x-item.is there c.loop-x.invariant (search rules)
