use Rattle.std.proofs.Common.{refl}
use Rattle.mz_eval_comprehensions.specs.Views.{value_cell}
use Rattle.mz_eval_comprehensions.proofs.GatherLaws.{seen_push}
use Rattle.mz_eval_comprehensions.proofs.gathering.with_value.Goals as goal

pub returns : goal.returns
returns c r = seen_push value_cell _ c.args.items.items c.args.v _ c.in_ok-push.ensures.items refl
