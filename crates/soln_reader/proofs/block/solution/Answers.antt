use Rattle.std.proofs.Common.{ap, ◌∙◌, map}
use Rattle.std.proofs.lemmas.List.{map_push}
use Rattle.mz_value.specs.Contents.{content}
use Rattle.fz_items.specs.Forms.{form}
use Rattle.soln_reader.specs.Views.{given}
use Rattle.fz_items.proofs.IntLists.{fails_along}
use Rattle.soln_reader.proofs.Solutions.{solution_step, solution_fails, solution_done, solution_lacks}
use Rattle.soln_reader.proofs.block.solution.Goals as goal

pub returns-then-gs-k : goal.returns-then-gs-k
returns-then-gs-k c =
    solution_lacks form given c.args.shapes.now c.args.gs.now c.loop-k.k (map content c.loop-k.values.items) _ c.loop-k-test.true c.if-gs-k.true c.loop-k.invariant

pub returns-in-Err : goal.returns-in-Err
returns-in-Err c =
    fails_along c.in-Err.miss _ _ c.in-Err.ensures
    (solution_fails form given c.args.shapes.now c.args.gs.now c.loop-k.k c.index-shapes-k.result c.index-gs-k.result (map content c.loop-k.values.items) _ c.loop-k-test.true c.if-gs-k.false c.index-shapes-k.is c.index-gs-k.is c.loop-k.invariant)

pub loop-k-preserved : goal.loop-k-preserved
loop-k-preserved c =
    solution_step form given c.args.shapes.now c.args.gs.now c.loop-k.k c.index-shapes-k.result c.index-gs-k.result (map content c.loop-k.values.items) _ (content c.in-Ok.v) _ c.loop-k-test.true c.if-gs-k.false c.index-shapes-k.is c.index-gs-k.is c.in-Ok.ensures
    (ap (map content) c.in_ok-push-in-Ok.ensures.items ∙ map_push content c.loop-k.values.items c.in-Ok.v) c.loop-k.invariant

pub returns : goal.returns
returns c =
    solution_done form c.args.shapes.now _ c.loop-k.k (map content c.loop-k.values.items) _ c.loop-k-test.false c.loop-k.invariant
