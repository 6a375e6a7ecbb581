use Rattle.std.proofs.Common.{◌∙◌, sym, ap}
use Rattle.mz_model_unbounded.specs.Firsts.{first_place}
use Rattle.mz_model_unbounded.proofs.Firsts.{first_of_none}
use Rattle.mz_model_unbounded.proofs.Items.{no_goal, least_goal, greatest_goal}
use Rattle.mz_model_unbounded.proofs.program.in_goal.Goals as goal

pub returns-in-Satisfy : goal.returns-in-Satisfy
returns-in-Satisfy c = sym (first_of_none c.args.found.now) ∙ ap (first_place c.args.found.now) (sym (no_goal c.args.objective.now c.in-Satisfy.is))

pub returns-in-Minimize : goal.returns-in-Minimize
returns-in-Minimize c = c.in_tree.ensures ∙ ap (first_place c.args.found.now) (sym (least_goal c.args.objective.now c.in-Minimize.e c.in-Minimize.is))

pub returns-in-Maximize : goal.returns-in-Maximize
returns-in-Maximize c = c.in_tree-in-Maximize.ensures ∙ ap (first_place c.args.found.now) (sym (greatest_goal c.args.objective.now c.in-Maximize.e c.in-Maximize.is))
