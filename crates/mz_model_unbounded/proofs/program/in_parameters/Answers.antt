use Rattle.mz_core.specs.TreeViews.{decl}
use Rattle.mz_model_unbounded.specs.StepsLayers.{in_param}
use Rattle.mz_model_unbounded.proofs.Walking.{loop_more, loop_done}
use Rattle.mz_model_unbounded.proofs.program.in_parameters.Goals as goal

pub loop-d-preserved : goal.loop-d-preserved
loop-d-preserved c =
    loop_more decl in_param c.args.ds.now c.loop-d.d-index c.d-item.result c.args.found.now c.loop-d.found c.in_parameter.new.found c.loop-d-test.true c.d-item.is c.in_parameter.ensures c.loop-d.invariant

pub returns : goal.returns
returns c =
    loop_done decl in_param c.args.ds.now c.loop-d.d-index c.args.found.now c.loop-d.found c.loop-d-test.false c.loop-d.invariant
