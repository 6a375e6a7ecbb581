use Rattle.std.proofs.Common.{map, ap}
use Rattle.mz_core.specs.TreeViews.{decl, declared_type}
use Rattle.mz_core.specs.Program.{function}
use Rattle.mz_scope_order.specs.Scoped.{scoped_decl, lent_function, scoped_tree}
use Rattle.mz_check_context.specs.Headings.{heading}
use Rattle.mz_check_context.specs.Known.{answers, known}
use Rattle.mz_check.specs.StepsParts.{parts}
use Rattle.mz_check.proofs.Assembling.{assembled_is}
use Rattle.mz_check.proofs.assemble.assembled.Goals as goal

pub returns : goal.returns
returns c =
    assembled_is (scoped_tree c.args.scoped.now) (known c.args.context) (parts c.args.items) (answers declared_type c.into_tables-types.result.types.entries) (answers heading c.into_tables-types.result.headings.entries)
    (map scoped_decl c.as_slice.result.now) (map lent_function c.as_slice-2.result.now) (map decl c.in_ok-decls.decls.items) (map function c.in_ok-functions.functions.items)
    c.requires c.into_tables-types.ensures.types c.into_tables-types.ensures.headings (ap (map scoped_decl) c.as_slice.ensures.value) (ap (map lent_function) c.as_slice-2.ensures.value) c.in_ok-decls.ensures c.in_ok-functions.ensures
