use Rattle.std.proofs.Common.{List, ℕ, map, length, sym, subst, arith}
use Rattle.mz_scope_order.specs.Scoped.{scoped_tree}
use Rattle.mz_scope_order.specs.Subjects.{subject}
use Rattle.mz_check_context.specs.Known.{known}
use Rattle.mz_check_exprs.specs.NamedModels.{AreNamed}
use Rattle.mz_check_exprs.proofs.New.{none_typed, next_typed, there_left, end_typed}
use Rattle.mz_check_exprs.proofs.types.with_types.Goals as goal

pub loop-k-init : goal.loop-k-init
loop-k-init c = none_typed (scoped_tree c.args.scoped.now) (known c.args.context.now) (map subject c.args.order.now) c.requires.counted c.requires.new

pub add_at-requires-clause-counted : goal.add_at-requires-clause-counted
add_at-requires-clause-counted c = (there_left (scoped_tree c.args.scoped.now) (known c.args.context.now) (known c.loop-k.context) c.args.order.now c.loop-k.k c.loop-k.invariant (omega arith)).0

pub add_at-requires-clause-named : goal.add_at-requires-clause-named
add_at-requires-clause-named c = subst (λ (ts : List (List ℕ)). AreNamed (length ts) (scoped_tree c.args.scoped.now)) (sym c.loop-k.invariant.texts) c.requires.named

pub add_at-requires-clause-new : goal.add_at-requires-clause-new
add_at-requires-clause-new c = (there_left (scoped_tree c.args.scoped.now) (known c.args.context.now) (known c.loop-k.context) c.args.order.now c.loop-k.k c.loop-k.invariant (omega arith)).1

pub loop-k-preserved : goal.loop-k-preserved
loop-k-preserved c = next_typed (scoped_tree c.args.scoped.now) (known c.args.context.now) (known c.loop-k.context) (known c.add_at.new.context) c.args.order.now c.loop-k.k c.loop-k.invariant (omega arith) c.in_ok-add_at.ensures

pub returns : goal.returns
returns c = end_typed (scoped_tree c.args.scoped.now) (known c.args.context.now) (known c.loop-k.context) c.args.order.now c.loop-k.k c.loop-k.invariant (omega arith)
