use Rattle.std.proofs.Common.{map, ap, subst, sym, ◌∙◌}
use Rattle.fz_program.specs.declared.row_name.RowName.TheVariants.{IntLinEq}
use Rattle.fz_program.specs.Arguments.{argument, plain}
use Rattle.flat_reif_rows.specs.Making.{MayGive, Gives}
use Rattle.flat_reif.specs.States.{state}
use Rattle.flat_reif.proofs.Objective.{may_add_nothing, fresh_given, no_place}
use Rattle.flat_reif.proofs.flat.Flat.fresh.Goals as goal

pub defined-requires : goal.defined-requires
defined-requires c = subst (MayGive c.args.self.now.build IntLinEq) (sym (ap (map argument) c.deref.ensures.value ∙ c.in-Ok.ensures)) (may_add_nothing (state c.args.self.now) c.requires.state c.args.id (argument c.args.a) c.requires.arg c.requires.whole)

pub unreachable-requires : goal.unreachable-requires
unreachable-requires c = no_place (plain c.in-Ok-defined.x) c.in-Ok-defined.ensures.gives.typed.place c.in-Ok-defined.ensures.gives.typed.is (sym c.place_of.ensures ∙ c.in-None.is)

pub returns : goal.returns
returns c =
    fresh_given (state c.args.self.now) c.requires.state c.args.id (argument c.args.a) c.defined.new.build (argument c.in-Ok-defined.x) c.in-Some.k c.requires.arg c.requires.whole
    (subst (λ is. Gives c.args.self.now.build c.defined.new.build IntLinEq is (plain c.in-Ok-defined.x)) (ap (map argument) c.deref.ensures.value ∙ c.in-Ok.ensures) c.in-Ok-defined.ensures.gives)
    (sym c.place_of.ensures ∙ c.in-Some.is)
