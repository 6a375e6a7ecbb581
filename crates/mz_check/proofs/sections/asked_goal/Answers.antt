use Rattle.std.proofs.Common.{refl}
use Rattle.std.specs.Option.{option_map}
use Rattle.mz_tree.specs.Items.{goal as goal_of}
use Rattle.mz_check_context.specs.Known.{known}
use Rattle.mz_check.specs.StepsMeeting.{met_of}
use Rattle.mz_check.proofs.Keeping.{none_asked, one_asked}
use Rattle.mz_check.proofs.sections.asked_goal.Goals as goal

pub returns-in-None : goal.returns-in-None
returns-in-None c = none_asked (known c.args.context.now) (goal_of c.args.g.now) (option_map met_of c.args.first.now) (option_map met_of c.args.first.now) c.in-None.ensures refl

pub returns-in_ok-kept-in-Some : goal.returns-in_ok-kept-in-Some
returns-in_ok-kept-in-Some c =
    one_asked (known c.args.context.now) (goal_of c.args.g.now) (option_map met_of c.args.first.now) (option_map met_of c.kept_goal.new.first) c.in-Some.at c.goal-o.result c.in_ok-kept-in-Some.kept
    c.in-Some.ensures c.goal-o.ensures c.in_ok-kept-in-Some.ensures
