use Rattle.std.proofs.Common.{subst, sym}
use Rattle.flat_reif.specs.States.{state}
use Rattle.flat.specs.Declaring.{MayDeclareOne, IsOneDeclared}
use Rattle.flat.proofs.variables.declare_value.Goals as goal

pub declare_one-requires-clause-may : goal.declare_one-requires-clause-may
declare_one-requires-clause-may c = subst (MayDeclareOne (state c.args.flat.now) c.args.c.now.term) (sym c.in-Ok.ensures) c.requires.may

pub returns : goal.returns
returns c = subst (IsOneDeclared (state c.args.flat.now) (state c.declare_one.new.flat) c.args.c.now.term) c.in-Ok.ensures c.in-Ok-declare_one.ensures
