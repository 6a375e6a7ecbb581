use Rattle.std.proofs.Common.{◌<◌, arith}
use Rattle.mz_arena.proofs.Folds.{get-below}
use Rattle.mz_model_state.proofs.Ends.{one_more}
use Rattle.mz_model_state.proofs.nodes.all_numbered.Goals as goal

pub loop-id-preserved : goal.loop-id-preserved
loop-id-preserved c = one_more c.loop-id.id c.args.arena.now c.args.vars.now c.args.choices.now c.node-n.result c.loop-id.invariant c.node-n.ensures (c.is_numbered.ensures c.if-not-is_numbered.false)

pub returns : goal.returns
returns c h = λ id e stands. c.loop-id.invariant id e (omega (arith, get-below c.args.arena.now id e stands, c.loop-id-test.false, c.len-count.ensures.count)) stands
