use Rattle.std.proofs.Common.{◌-◌, rules, arith, length}
use Rattle.mz_scope_order.specs.Scoped.{lent_function}
use Rattle.mz_check_context.specs.Known.{known}
use Rattle.mz_check_exprs.specs.NamedModels.{IsNamedFunction}
use Rattle.cases_check.proofs.Contexts.{last_in}
use Rattle.cases_check.proofs.typing.print_result.Goals as goal

pub print_written-requires : goal.print_written-requires
print_written-requires c =
    let f = last_in (IsNamedFunction (length (known c.args.context.now).texts)) lent_function c.as_slice-all.result.now c.args.scoped.now.functions.items (length c.as_slice-all.result.now - 1) c.index-all-last.result c.as_slice-all.ensures.value c.requires.functions (search (rules, arith)) in
    f.result
