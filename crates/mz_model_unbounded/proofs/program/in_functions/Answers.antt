use Rattle.mz_core.specs.Program.{function}
use Rattle.mz_model_unbounded.specs.StepsLayers.{in_function}
use Rattle.mz_model_unbounded.proofs.Walking.{loop_more, loop_done}
use Rattle.mz_model_unbounded.proofs.program.in_functions.Goals as goal

pub loop-f-preserved : goal.loop-f-preserved
loop-f-preserved c =
    loop_more function in_function c.args.fs.now c.loop-f.f-index c.f-item.result c.args.found.now c.loop-f.found c.in_function.new.found c.loop-f-test.true c.f-item.is c.in_function.ensures c.loop-f.invariant

pub returns : goal.returns
returns c =
    loop_done function in_function c.args.fs.now c.loop-f.f-index c.args.found.now c.loop-f.found c.loop-f-test.false c.loop-f.invariant
