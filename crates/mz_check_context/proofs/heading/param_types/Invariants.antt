use Rattle.std.proofs.Common.{◌≡◌, ◌++◌, map, drop}
use Rattle.mz_core.specs.Types.{plain_type}
use Rattle.mz_core.specs.TreeViews.{decl}
use Rattle.mz_check_context.proofs.heading.param_types.Given as goal

abbrev pub invariant-loop-d : goal.invariant-loop-d
invariant-loop-d l = map plain_type l.types.items ++ map (λ d. d.ty.ty) (map decl (drop l.d-index l.params)) ≡ map (λ d. d.ty.ty) (map decl l.params)
