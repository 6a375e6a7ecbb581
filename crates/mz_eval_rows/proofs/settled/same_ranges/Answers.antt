use Rattle.std.proofs.Common.{◌∙◌, refl, sym}
use Rattle.mz_builtin_arguments.proofs.Sets.{same_lists}
use Rattle.mz_eval_rows.proofs.SettledLaws.{index_equal}
use Rattle.mz_eval_rows.proofs.settled.same_ranges.Goals as goal

pub returns : goal.returns
returns c h = index_equal c.args.a.now c.args.b.now (sym (c.eq.ensures ∙ same_lists _ (λ r s. refl) c.args.a.now c.args.b.now) ∙ h)
