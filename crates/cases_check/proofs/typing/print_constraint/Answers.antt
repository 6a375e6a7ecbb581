use Rattle.std.proofs.Common.{rules, arith, length}
use Rattle.mz_scope_order.specs.Scoped.{lent_tree}
use Rattle.mz_check_context.specs.Known.{known}
use Rattle.mz_check_exprs.specs.Naming.{IsNamed}
use Rattle.cases_check.proofs.Contexts.{at_place}
use Rattle.cases_check.proofs.typing.print_constraint.Goals as goal

pub print_expression-requires : goal.print_expression-requires
print_expression-requires c = at_place (IsNamed (length (known c.args.context.now).texts)) lent_tree c.as_slice-all.result.now c.args.scoped.now.constraints.items _ c.index-all-last.result c.index-all-last.is c.as_slice-all.ensures.value c.requires.constraints (search (rules, arith))
