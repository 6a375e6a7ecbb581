use Rattle.std.proofs.Common.{◌≡◌, map, drop}
use Rattle.mz_core.specs.TreeViews.{decl}
use Rattle.mz_check_context.specs.Known.{known}
use Rattle.mz_check_exprs.specs.StepsDuplicates.{is_taken_before}
use Rattle.mz_check_exprs.proofs.duplicates.is_taken_before.Given as goal

abbrev pub invariant-loop-k : goal.invariant-loop-k
invariant-loop-k l = is_taken_before (known l.context) l.numbers (map (λ d. d.ty.ty) (map decl l.params)) ≡ is_taken_before (known l.context) (drop l.k-index l.numbers) (map (λ d. d.ty.ty) (map decl l.params))
