use Rattle.std.proofs.Common.{subst}
use Rattle.fz_program.specs.Arguments.{plain}
use Rattle.flat_reif_rows.specs.Folds.{IsFold}
use Rattle.flat_reif.specs.States.{state, plain_args}
use Rattle.flat_reif.proofs.Given.{have_two, operands_two, divisor_of, on_ok}
use Rattle.flat_reif.proofs.Folding.{first_given, second_given, constant_given}
use Rattle.flat_reif.proofs.flat.Flat.flatten_two.Goals as goal

pub argument-requires : goal.argument-requires
argument-requires c = (have_two (state c.args.self.now) c.args.id c.args.n.now c.requires.state c.requires.ready c.args.name c.requires.row).a

pub argument-requires-2 : goal.argument-requires-2
argument-requires-2 c = (have_two (state c.args.self.now) c.args.id c.args.n.now c.requires.state c.requires.ready c.args.name c.requires.row).b

pub fold_of_two-requires : goal.fold_of_two-requires
fold_of_two-requires c = operands_two (state c.args.self.now) c.args.id c.args.n.now c.requires.state c.requires.ready c.args.name (plain c.in-Ok.x) (plain c.in-Ok-argument.x) c.requires.row c.in-Ok.ensures c.in-Ok-argument.ensures

pub returns-in-Truth : goal.returns-in-Truth
returns-in-Truth c = on_ok c.put.result _ _ (constant_given (state c.args.self.now) c.args.id c.args.n.now c.requires.state c.requires.ready c.args.name c.requires.row (plain c.in-Ok.x) (plain c.in-Ok-argument.x) (plain c.truth.result) c.in-Truth.b (plain_args c.put.new.args.items) c.truth.ensures c.in-Ok.ensures c.in-Ok-argument.ensures (subst (IsFold c.args.self.now.build.vars c.args.n.now.kind (plain c.in-Ok.x) (plain c.in-Ok-argument.x)) c.in-Truth.is c.fold_of_two.ensures)) c.put.ensures

pub returns-in-First : goal.returns-in-First
returns-in-First c = on_ok c.put-in-First.result _ _ (first_given (state c.args.self.now) c.args.id c.args.n.now c.requires.state c.requires.ready c.args.name c.requires.row (plain c.in-Ok.x) (plain c.in-Ok-argument.x) (plain_args c.put-in-First.new.args.items) c.in-Ok.ensures c.in-Ok-argument.ensures (subst (IsFold c.args.self.now.build.vars c.args.n.now.kind (plain c.in-Ok.x) (plain c.in-Ok-argument.x)) c.in-First.is c.fold_of_two.ensures)) c.put-in-First.ensures

pub returns-in-Second : goal.returns-in-Second
returns-in-Second c = on_ok c.put-in-Second.result _ _ (second_given (state c.args.self.now) c.args.id c.args.n.now c.requires.state c.requires.ready c.args.name c.requires.row (plain c.in-Ok.x) (plain c.in-Ok-argument.x) (plain_args c.put-in-Second.new.args.items) c.in-Ok.ensures c.in-Ok-argument.ensures (subst (IsFold c.args.self.now.build.vars c.args.n.now.kind (plain c.in-Ok.x) (plain c.in-Ok-argument.x)) c.in-Second.is c.fold_of_two.ensures)) c.put-in-Second.ensures

pub give_two-requires-clause-divisor : goal.give_two-requires-clause-divisor
give_two-requires-clause-divisor c = divisor_of c.args.self.now.build.vars c.args.n.now.kind (plain c.in-Ok-argument.x) c.requires.whole
