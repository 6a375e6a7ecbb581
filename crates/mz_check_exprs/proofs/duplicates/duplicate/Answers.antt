use Rattle.std.proofs.Common.{◌∙◌, length, Some, ap}
use Rattle.mz_base.specs.declared.fault.Span.{Span}
use Rattle.mz_base.specs.declared.fault.Fault.{Fault}
use Rattle.mz_base.specs.declared.kind.Kind.TheVariants as kind
use Rattle.mz_base.specs.Faults.{fault_at}
use Rattle.mz_scope_order.specs.Scoped.{scoped_tree}
use Rattle.mz_check_context.specs.Known.{known}
use Rattle.mz_check_exprs.proofs.Overloads.{counted_item}
use Rattle.mz_check_exprs.proofs.Taken.{none_passed, one_passed, one_taken, all_passed}
use Rattle.mz_check_exprs.proofs.duplicates.duplicate.Goals as goal

pub loop-f-init : goal.loop-f-init
loop-f-init c = none_passed (scoped_tree c.args.scoped.now) (known c.args.context.now) c.functions-functions.result.now c.new-before.result c.new-before.ensures

pub taken_at-requires : goal.taken_at-requires
taken_at-requires c = (counted_item (length (known c.args.context.now).texts) (scoped_tree c.args.scoped.now) c.functions-functions.result.now c.loop-f.f-index c.f-item.result c.requires.named (c.functions-functions.ensures ∙ c.requires.functions) c.loop-f-test.true c.f-item.is).name

pub returns-then-taken : goal.returns-then-taken
returns-then-taken c =
    ap (λ (f : Fault). Some f) (c.at.ensures ∙ ap (λ (s : Span). fault_at kind.DuplicateName s) c.function_place.ensures)
    ∙ one_taken (scoped_tree c.args.scoped.now) (known c.args.context.now) c.functions-functions.result.now c.loop-f.f-index c.f-item.result c.loop-f.before c.in_ok-taken.taken c.numbers.result.now c.loop-f.invariant c.loop-f-test.true c.f-item.is c.numbers.ensures c.in_ok-taken.ensures c.if-taken.true c.functions-functions.ensures

pub loop-f-preserved : goal.loop-f-preserved
loop-f-preserved c = one_passed (scoped_tree c.args.scoped.now) (known c.args.context.now) c.functions-functions.result.now c.loop-f.f-index c.f-item.result c.loop-f.before c.add.new.self c.in_ok-taken.taken c.numbers.result.now c.loop-f.invariant c.loop-f-test.true c.f-item.is c.numbers.ensures c.in_ok-taken.ensures c.if-taken.false c.in_ok-add.ensures

pub returns : goal.returns
returns c = all_passed (scoped_tree c.args.scoped.now) (known c.args.context.now) c.functions-functions.result.now c.loop-f.f-index c.loop-f.before c.loop-f.invariant c.loop-f-test.false c.functions-functions.ensures
