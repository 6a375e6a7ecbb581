use Rattle.std.proofs.Common.{map}
use Rattle.std.specs.Option.{option_map}
use Rattle.mz_core.specs.TreeViews.{tree, decl, declared_type}
use Rattle.mz_scope_order.specs.Scoped.{scoped_decl}
use Rattle.mz_check_context.specs.Known.{answers}
use Rattle.mz_check.specs.StepsTaking.{decl_by}
use Rattle.mz_check.proofs.Taking.{none_lent, nothing_added}
use Rattle.mz_check.proofs.assemble.add_decl_at.Goals as goal

pub returns-in-None-clause-made : goal.returns-in-None-clause-made
returns-in-None-clause-made c = nothing_added decl_by (answers declared_type c.args.types.now.entries) c.args.number _ (option_map tree c.args.value) (map decl c.args.all.now.items) (none_lent scoped_decl c.args.decls.now c.args.number c.get.result c.get.ensures.lookup c.in-None.is)
