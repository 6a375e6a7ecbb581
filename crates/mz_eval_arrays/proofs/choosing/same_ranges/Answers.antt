use Rattle.std.proofs.Common.{refl, ◌∙◌}
use Rattle.mz_builtin_arguments.proofs.Sets.{same_lists}
use Rattle.mz_eval_arrays.proofs.choosing.same_ranges.Goals as goal

pub returns : goal.returns
returns c = c.eq.ensures ∙ same_lists _ (λ r s. refl) c.args.a.now c.args.b.now
