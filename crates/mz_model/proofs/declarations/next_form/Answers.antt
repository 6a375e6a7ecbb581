use Rattle.mz_core.specs.TreeViews.{decl}
use Rattle.mz_eval_scopes.specs.Seen.{world_seen}
use Rattle.mz_model.proofs.Steps.{form_ends}
use Rattle.mz_model.proofs.declarations.next_form.Goals as goal

pub returns : goal.returns
returns c = form_ends c.args.task.now c.args.names.now (decl c.args.d.now) c.args.run.now c.form_of.new.run (λ r. world_seen r c.world_in-world.result) c.form_of.result c.world_in-world.ensures c.form_of.ensures.goes.back c.form_of.ensures.means
