use Rattle.std.proofs.Common.{Some, ap, ◌∙◌}
use Rattle.mz_arena.specs.Extents.{extent}
use Rattle.flat_reif.specs.States.{state}
use Rattle.flat_reif.proofs.Lacking.{integer_ends}
use Rattle.flat_reif.proofs.Folding.{if_fixed}
use Rattle.flat_reif.proofs.flat.Flat.fixed.Goals as goal

pub bounds-requires : goal.bounds-requires
bounds-requires c = integer_ends (extent (state c.args.self.now).es c.args.id) (c.sort.ensures ∙ ap (λ s. Some s) c.in-Integer.is)

pub returns-in-Integer : goal.returns-in-Integer
returns-in-Integer c = if_fixed c.alone.result (extent (state c.args.self.now).es c.args.id) c.bounds.result (c.sort.ensures ∙ ap (λ s. Some s) c.in-Integer.is) c.bounds.ensures c.alone.ensures
