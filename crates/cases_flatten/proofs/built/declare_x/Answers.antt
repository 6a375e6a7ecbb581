use Rattle.fz_program.specs.Flat.{variable}
use Rattle.cases_flatten.proofs.Allowed.{may_declare}
use Rattle.cases_flatten.proofs.built.declare_x.Goals as goal

pub declare-requires : goal.declare-requires
declare-requires c = may_declare c.args.build.now (variable c.in_ok-v.v) c.requires c.in_ok-v.ensures
