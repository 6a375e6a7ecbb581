use Rattle.std.proofs.Common.{ap, ◌∙◌, map}
use Rattle.std.proofs.lemmas.List.{map_push}
use Rattle.mz_value.specs.Contents.{content}
use Rattle.fz_items.specs.Contents.{content_of}
use Rattle.soln_reader.proofs.Solutions.{copied_step_at}
use Rattle.soln_reader.proofs.block.copied_all.Goals as goal

pub loop-x-preserved : goal.loop-x-preserved
loop-x-preserved c =
    copied_step_at content_of c.args.items.now c.loop-x.x-index c.x-item.result (map content c.loop-x.values.items) (map content c.push.new.self.items) (content c.in-Ok.v) c.loop-x-test.true c.x-item.is c.in-Ok.ensures
    (ap (map content) c.in_ok-push-in-Ok.ensures.items ∙ map_push content c.loop-x.values.items c.in-Ok.v) c.loop-x.invariant
