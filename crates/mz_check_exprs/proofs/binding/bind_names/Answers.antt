use Rattle.std.proofs.Common.{rules, ◌∙◌, sym, subst}
use Rattle.mz_core.specs.Types.{plain_type}
use Rattle.mz_check_meaning.specs.Comprehensions.{bind_next}
use Rattle.mz_check_context.specs.Extending.{Extends, itself, one_more}
use Rattle.mz_check_exprs.specs.Views.{bound}
use Rattle.mz_check_exprs.proofs.Turns.{loop_turn}
use Rattle.mz_check_exprs.proofs.binding.bind_names.Goals as goal

pub loop-n-init : goal.loop-n-init
loop-n-init c = record { built = search rules; extends = itself }

pub loop-n-preserved : goal.loop-n-preserved
loop-n-preserved c = record {
  built = c.loop-n.invariant.built ∙ loop_turn (bind_next c.args.start (plain_type c.args.ty.now)) (bound c.loop-n.slots.items c.loop-n.scope) (bound c.bind_next.new.slots.items c.bind_next.new.scope) c.args.names.now c.loop-n.n-index c.n-item.result c.loop-n-test.true c.n-item.is c.in_ok-bind_next.ensures.passes;
  extends = subst (Extends c.args.scope.now) (sym c.in_ok-bind_next.ensures.binds) (one_more _ _ c.loop-n.invariant.extends);
}
