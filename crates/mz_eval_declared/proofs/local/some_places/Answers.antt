use Rattle.mz_core.specs.Types.{plain_type}
use Rattle.mz_eval_declared.proofs.Locals.{no_domain, each_place}
use Rattle.mz_eval_declared.proofs.local.some_places.Goals as goal

pub returns-in-None : goal.returns-in-None
returns-in-None c = rw c.in-None.is (no_domain (plain_type c.args.t.now) c.args.ranges.items c.no_choices.result c.requires c.no_choices.ensures)

pub returns-in-Some : goal.returns-in-Some
returns-in-Some c = rw c.in-Some.is (each_place (plain_type c.args.t.now) c.args.ranges.items c.in-Some.values c.chosen_places.result c.requires c.chosen_places.ensures)
