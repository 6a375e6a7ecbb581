use Rattle.flat_reif.specs.States.{state}
use Rattle.flat.proofs.Composing.{satisfied, minimized, maximized, least_root, greatest_root}
use Rattle.flat.proofs.goal.post_goal.Goals as goal

pub returns-in-Satisfy : goal.returns-in-Satisfy
returns-in-Satisfy c = satisfied (state c.args.flat.now) c.args.goal c.in-Satisfy.is c.requires.ready c.requires.choices

pub post_objective-requires-clause-whole : goal.post_objective-requires-clause-whole
post_objective-requires-clause-whole c = least_root (state c.args.flat.now).es c.args.goal c.in-Minimize.id c.in-Minimize.is c.requires.goal

pub post_objective-requires-in-Maximize-clause-whole : goal.post_objective-requires-in-Maximize-clause-whole
post_objective-requires-in-Maximize-clause-whole c = greatest_root (state c.args.flat.now).es c.args.goal c.in-Maximize.id c.in-Maximize.is c.requires.goal

pub returns-in-Ok : goal.returns-in-Ok
returns-in-Ok c = minimized (state c.args.flat.now) (state c.post_objective.new.flat) c.args.goal c.in-Minimize.id c.in-Ok.x c.in-Minimize.is c.in-Ok.ensures

pub returns-in-Ok-post_objective : goal.returns-in-Ok-post_objective
returns-in-Ok-post_objective c = maximized (state c.args.flat.now) (state c.post_objective-in-Maximize.new.flat) c.args.goal c.in-Maximize.id c.in-Ok-post_objective.x c.in-Maximize.is c.in-Ok-post_objective.ensures
