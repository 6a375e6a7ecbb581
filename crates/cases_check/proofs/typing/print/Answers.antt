use Rattle.std.proofs.Common.{map, sym, subst}
use Rattle.mz_scope_order.specs.Scoped.{scoped_tree}
use Rattle.mz_scope_order.specs.Subjects.{subject, IsOrderOf}
use Rattle.mz_check_context.specs.Known.{known}
use Rattle.cases_check.proofs.Contexts.{order_new, named_at_first, named_then}
use Rattle.cases_check.proofs.typing.print.Goals as goal

pub with_types-requires : goal.with_types-requires
with_types-requires c =
    let s = scoped_tree c.args.scoped.now in
    let m = known c.in_ok-context.context in
    let o = subst (λ xs. IsOrderOf s (map subject xs)) (sym c.as_slice.ensures.value) c.requires.ordered in
    record {
      counted = o.among;
      named = named_at_first c.args.names.now s m c.in_ok-context.ensures c.requires.named;
      new = order_new c.args.names.now s m (map subject c.as_slice.result.now) c.in_ok-context.ensures o;
    }

pub print_constraint-requires : goal.print_constraint-requires
print_constraint-requires c =
    let s = scoped_tree c.args.scoped.now in
    let m = known c.in_ok-context.context in
    named_then s m (known c.with_types.new.context) (map subject c.as_slice.result.now) c.in_ok-with_types.ensures (named_at_first c.args.names.now s m c.in_ok-context.ensures c.requires.named)

pub print_constraint-requires-in-Output : goal.print_constraint-requires-in-Output
print_constraint-requires-in-Output c =
    let s = scoped_tree c.args.scoped.now in
    let m = known c.in_ok-context.context in
    named_then s m (known c.with_types.new.context) (map subject c.as_slice.result.now) c.in_ok-with_types.ensures (named_at_first c.args.names.now s m c.in_ok-context.ensures c.requires.named)

pub print_result-requires : goal.print_result-requires
print_result-requires c =
    let s = scoped_tree c.args.scoped.now in
    let m = known c.in_ok-context.context in
    named_then s m (known c.with_types.new.context) (map subject c.as_slice.result.now) c.in_ok-with_types.ensures (named_at_first c.args.names.now s m c.in_ok-context.ensures c.requires.named)
