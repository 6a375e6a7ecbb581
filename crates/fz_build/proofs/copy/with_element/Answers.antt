use Rattle.std.proofs.Common.{ap, ◌∙◌}
use Rattle.fz_program.specs.Arguments.{array}
use Rattle.fz_build.proofs.Copies.{pushed_plains, array_opened}
use Rattle.fz_build.proofs.copy.with_element.Goals as goal

pub returns : goal.returns
returns c = array_opened c.push.new.self ∙ ap array (pushed_plains c.in_ok-all.all.items c.push.new.self.items c.args.items.now c.args.last c.in_ok-push.ensures.items c.in_ok-all.ensures)
