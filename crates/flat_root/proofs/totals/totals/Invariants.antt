use Rattle.std.proofs.Common.{◌++◌, take}
use Rattle.mz_partial.specs.Totals.{AreParts}
use Rattle.flat_reif.specs.States.{state}
use Rattle.flat_root.specs.Totals.{Totals}
use Rattle.flat_root.proofs.totals.totals.Given as goal

abbrev pub invariant-roots : goal.invariant-roots
invariant-roots l = Totals (state l.fn.flat) (state l.flat) (take l.id-index l.roots) (l.defined.items ++ l.terms.items) × AreParts l.flat.arena l.memo
