use Rattle.std.proofs.Common.{sym, ◌∙◌}
use Rattle.fz_program.specs.Arguments.{plain}
use Rattle.flat_reif.specs.States.{state}
use Rattle.flat_reif.proofs.Objective.{argument_for, place_is}
use Rattle.flat_reif.proofs.flat.Flat.variable.Goals as goal

pub returns-in-Some : goal.returns-in-Some
returns-in-Some c = argument_for (state c.args.self.now) c.requires.state c.args.id (plain c.in-Ok.x) c.in-Ok.ensures c.requires.whole c.in-Some.k (place_is (plain c.in-Ok.x) c.in-Some.k (sym c.place_of.ensures ∙ c.in-Some.is))
