use Rattle.std.proofs.Common.{sym, ◌∙◌, arith}
use Rattle.glob_order.specs.Views.{numbers_of}
use Rattle.glob_sched.proofs.Walks.{no_round}
use Rattle.glob_sched.proofs.of_values.graphs.is_circuit.Goals as goal

pub returns-in_default : goal.returns-in_default
returns-in_default c = no_round (numbers_of c.args.x.now) c.loop-step.path.items c.loop-step._step _ (omega arith) (sym c.element_at.ensures ∙ c.in_default.is) c.loop-step.invariant
