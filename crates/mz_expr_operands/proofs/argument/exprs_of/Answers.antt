use Rattle.mz_expr_operands.proofs.ArgumentsOfCode.{exprs_of-unguarded, exprs_of-other}
use Rattle.mz_expr_operands.proofs.argument.exprs_of.Goals as goal

pub loop-arg-preserved-in_ok-push-in-Some-unguarded_of :
    goal.loop-arg-preserved-in_ok-push-in-Some-unguarded_of
loop-arg-preserved-in_ok-push-in-Some-unguarded_of c =
    exprs_of-unguarded c.loop-arg.yielded c.in-Some.arg c.in-Some-unguarded_of.x c.loop-arg.fit c.loop-arg.all.items c.push.new.self.items
    c.in_ok-into_expr-in-Some-unguarded_of.field-0 c.in-Some-unguarded_of.ensures c.in_ok-into_expr-in-Some-unguarded_of.ensures
    c.in_ok-push-in-Some-unguarded_of.ensures.items c.loop-arg.invariant

pub loop-arg-preserved : goal.loop-arg-preserved
loop-arg-preserved c = exprs_of-other c.loop-arg.yielded c.in-Some.arg c.loop-arg.fit c.loop-arg.all.items c.in-None-unguarded_of.ensures c.loop-arg.invariant
