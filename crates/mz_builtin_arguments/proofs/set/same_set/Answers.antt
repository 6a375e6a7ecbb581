use Rattle.std.proofs.Common.{refl, ap, ◌∙◌}
use Rattle.mz_operations.specs.Sets.{same_set}
use Rattle.mz_builtin_arguments.proofs.Sets.{same_lists}
use Rattle.mz_builtin_arguments.proofs.set.same_set.Goals as goal

pub returns : goal.returns
returns c =
    c.eq.ensures ∙ same_lists _ (λ r s. refl) c.ranges-2.result.now c.ranges-3.result.now ∙ ap (λ s. same_set s c.ranges-3.result.now) c.ranges-2.ensures.ranges ∙ ap (same_set c.args.a.now) c.ranges-3.ensures.ranges
