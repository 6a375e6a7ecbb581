use Rattle.flat_reif.specs.States.{state}
use Rattle.flat_root.proofs.Aiming.{total_ready, defined_root, term_total, term_whole, term_has, objective_posted, if_ok_each}
use Rattle.flat_root.proofs.objective.post_objective.Goals as goal

pub post_roots-requires-clause-ready : goal.post_roots-requires-clause-ready
post_roots-requires-clause-ready c = total_ready (state c.args.flat.now) (state c.total.new.self) c.args.id c.in-Ok.x c.requires.ready c.requires.whole c.in-Ok.ensures.totaled

pub post_roots-requires-clause-roots : goal.post_roots-requires-clause-roots
post_roots-requires-clause-roots c = defined_root (state c.args.flat.now) (state c.total.new.self) c.args.id c.in-Ok.x c.requires.ready c.requires.whole c.in-Ok.ensures.totaled

pub flatten_for-requires-clause-total : goal.flatten_for-requires-clause-total
flatten_for-requires-clause-total c = term_total (state c.args.flat.now) (state c.total.new.self) c.args.id c.in-Ok.x c.requires.ready c.requires.whole c.in-Ok.ensures.totaled (state c.post_roots.new.flat) c.in-Ok-post_roots.ensures.posted

pub variable-requires-clause-has : goal.variable-requires-clause-has
variable-requires-clause-has c = term_has (state c.args.flat.now) (state c.total.new.self) c.args.id c.in-Ok.x c.requires.ready c.requires.whole c.in-Ok.ensures.totaled (state c.post_roots.new.flat) c.in-Ok-post_roots.ensures.posted (state c.flatten_for.new.flat) c.in-Ok-flatten_for.ensures

pub variable-requires-clause-whole : goal.variable-requires-clause-whole
variable-requires-clause-whole c = term_whole (state c.args.flat.now) (state c.total.new.self) c.args.id c.in-Ok.x c.requires.ready c.requires.whole c.in-Ok.ensures.totaled (state c.post_roots.new.flat) c.in-Ok-post_roots.ensures.posted (state c.flatten_for.new.flat) c.in-Ok-flatten_for.ensures

pub returns : goal.returns
returns c =
    if_ok_each c.variable.result _ _
    (objective_posted (state c.args.flat.now) (state c.total.new.self) c.args.id c.in-Ok.x c.requires.ready c.requires.whole c.in-Ok.ensures.totaled (state c.post_roots.new.flat) c.in-Ok-post_roots.ensures.posted (state c.flatten_for.new.flat) c.in-Ok-flatten_for.ensures (state c.variable.new.self))
    c.variable.ensures
