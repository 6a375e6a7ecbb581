use Rattle.fz_program.specs.Arguments.{plain}
use Rattle.fz_build.specs.Bounds.{ends_of}
use Rattle.flat_reif.specs.States.{state}
use Rattle.flat_reif.proofs.Given.{have_two}
use Rattle.flat_reif.proofs.Lacking.{division_unmet, divides_lacks, may_divisor}
use Rattle.flat_reif.proofs.flat.Flat.flatten_division.Goals as goal

pub argument-requires : goal.argument-requires
argument-requires c = (have_two (state c.args.self.now) c.args.id c.args.n.now c.requires.state c.requires.ready c.args.name c.requires.row).a

pub argument-requires-2 : goal.argument-requires-2
argument-requires-2 c = (have_two (state c.args.self.now) c.args.id c.args.n.now c.requires.state c.requires.ready c.args.name c.requires.row).b

pub give_two-requires-clause-divisor : goal.give_two-requires-clause-divisor
give_two-requires-clause-divisor c = may_divisor c.args.n.now.kind (ends_of c.args.self.now.build.vars (plain c.in-Ok-argument.x)) (c.may_divide.ensures.yes c.if-may_divide.true)

pub give_any-requires-clause-kind : goal.give_any-requires-clause-kind
give_any-requires-clause-kind c = divides_lacks c.args.n.now.kind c.requires.kind

pub give_any-requires-clause-unmet : goal.give_any-requires-clause-unmet
give_any-requires-clause-unmet c = division_unmet (state c.args.self.now) c.args.id c.args.n.now c.requires.state c.requires.ready c.args.name (plain c.in-Ok.x) (plain c.in-Ok-argument.x) c.requires.row c.requires.kind c.in-Ok.ensures c.in-Ok-argument.ensures (c.may_divide.ensures.no c.if-may_divide.false) c.may_divide.ensures.encloses
