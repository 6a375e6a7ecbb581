use Rattle.std.proofs.Common.{arith, ap, min, ◌∙◌}
use Rattle.mz_builtin_values.specs.Shapes.{cap}
use Rattle.mz_operations.specs.Arrays.{place_count}
use Rattle.mz_eval_declared.proofs.Locals.{filled_is}
use Rattle.mz_eval_declared.proofs.local.filled.Goals as goal

pub returns : goal.returns
returns c = c.in_ok-k.ensures ∙ filled_is c.args.ranges.items _ _ c.place_count-count.result c.in_ok-all.ensures (c.place_count-count.ensures.value ∙ ap (λ rs. min cap (place_count rs)) c.as_slice.ensures.value) (omega arith)
