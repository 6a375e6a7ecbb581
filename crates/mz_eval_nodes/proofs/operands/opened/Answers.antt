use Rattle.std.proofs.Common.{subst}
use Rattle.mz_eval_nodes.specs.Numbers.{Opens}
use Rattle.mz_eval_nodes.proofs.NumberLaws.{opened_told}
use Rattle.mz_eval_nodes.proofs.operands.opened.Goals as goal

pub returns-then-opens : goal.returns-then-opens
returns-then-opens c = opened_told c.args.o.now.after c.args.o.now.step.now.right.items c.args.c.now c.integer_in.result c.in-None.is (subst Opens c.as_slice.ensures.value (c.opens.ensures c.if-opens.true)) c.integer_in.ensures
