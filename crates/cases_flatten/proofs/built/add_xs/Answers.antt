use Rattle.fz_program.specs.Flat.{array_item}
use Rattle.cases_flatten.proofs.Allowed.{may_add}
use Rattle.cases_flatten.proofs.built.add_xs.Goals as goal

pub array-requires : goal.array-requires
array-requires c = may_add c.args.build.now (array_item c.in_ok-a.a) c.requires c.in_ok-a.ensures
