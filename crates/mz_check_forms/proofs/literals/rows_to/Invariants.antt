use Rattle.std.proofs.Common.{◌≡◌, ◌++◌, map}
use Rattle.std.specs.Vec.Iter.{into_iter_items}
use Rattle.mz_core.specs.Types.{plain_type}
use Rattle.mz_core.specs.TreeViews.{tree}
use Rattle.mz_check_meaning.specs.Arrays.{each_to}
use Rattle.mz_check_forms.proofs.literals.rows_to.Given as goal

abbrev pub invariant-loop-line : goal.invariant-loop-line
invariant-loop-line l = map (each_to (plain_type l.t)) (map (λ r. map tree r.items) l.fn.lines.items) ≡ map (λ r. map tree r.items) l.all.items ++ map (each_to (plain_type l.t)) (map (λ r. map tree r.items) (into_iter_items l.line-iterator))
