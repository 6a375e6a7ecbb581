use Rattle.std.proofs.Common.{subst}
use Rattle.std.specs.Prelude.{Ok}
use Rattle.mz_meaning.specs.Lets.{contiguous}
use Rattle.mz_eval_cells.specs.Meets.{Tells}
use Rattle.mz_eval_declared.specs.declared.want.Want.TheVariants.{Missing}
use Rattle.mz_eval_declared.specs.Wants.{wanted}
use Rattle.mz_eval_declared.proofs.Told.{told_given}
use Rattle.mz_eval_declared.proofs.want.index_want.Goals as goal

pub returns-in-None : goal.returns-in-None
returns-in-None c = subst (λ o. Tells wanted (Ok Missing) (contiguous c.args.at o)) c.in-None.ensures (told_given wanted Missing)

pub returns-in-Some : goal.returns-in-Some
returns-in-Some c = subst (λ o. Tells wanted c.contiguous.result (contiguous c.args.at o)) c.in-Some.ensures c.contiguous.ensures
