use Rattle.std.proofs.Common.{◌≡◌, ◌++◌, map, drop}
use Rattle.mz_check_context.specs.Views.{typed_index}
use Rattle.mz_check_context.proofs.written.types_of.Given as goal

abbrev pub invariant-loop-i : goal.invariant-loop-i
invariant-loop-i l = map (λ i. i.ty) (map typed_index l.indices) ≡ l.all.items ++ map (λ i. i.ty) (map typed_index (drop l.i-index l.indices))
