use Rattle.std.proofs.Common.{map}
use Rattle.std.specs.Option.{option_map}
use Rattle.std.specs.Vec.Iter.{into_iter_items}
use Rattle.mz_core.specs.TreeViews.{tree, decl, declared_type}
use Rattle.mz_scope_order.specs.Scoped.{scoped_decl}
use Rattle.mz_check_context.specs.Known.{answers}
use Rattle.mz_check.specs.StepsTaking.{decl_by}
use Rattle.mz_check.proofs.Taking.{AreMade}
use Rattle.mz_check.proofs.assemble.made_decls.Given as goal

abbrev pub invariant-loop-value : goal.invariant-loop-value
invariant-loop-value l = AreMade decl_by (answers declared_type l.fn.types.entries) (answers declared_type l.types.entries) (map scoped_decl l.decls) (map (option_map tree) l.fn.values.items) (map (option_map tree) (into_iter_items l.value-iterator)) l.number (map decl l.all.items)
