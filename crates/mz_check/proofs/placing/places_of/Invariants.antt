use Rattle.std.proofs.Common.{map}
use Rattle.mz_core.specs.TreeViews.{decl}
use Rattle.mz_check.specs.StepsPlacing.{HoldPlaces}
use Rattle.mz_check.proofs.placing.places_of.Given as goal

abbrev pub invariant-loop-k : goal.invariant-loop-k
invariant-loop-k l = HoldPlaces (map decl l.decls) l.k l.places.items
