use Rattle.std.proofs.Common.{Some, ap, ◌∙◌}
use Rattle.mz_arena.specs.Extents.{extent}
use Rattle.fz_program.specs.Arguments.{plain}
use Rattle.flat_reif.specs.States.{state}
use Rattle.flat_reif.proofs.Lacking.{integer_ends, any_integer, any_truth, if_any_set}
use Rattle.flat_reif.proofs.flat.Flat.any.Goals as goal

pub bounds-requires : goal.bounds-requires
bounds-requires c = integer_ends (extent (state c.args.self.now).es c.args.id) (c.sort.ensures ∙ ap (λ s. Some s) c.in-Integer.is)

pub returns-in-Integer : goal.returns-in-Integer
returns-in-Integer c = any_integer (extent (state c.args.self.now).es c.args.id) c.bounds.result (plain c.least.result) (c.sort.ensures ∙ ap (λ s. Some s) c.in-Integer.is) c.bounds.ensures c.least.ensures

pub returns-in-Boolean : goal.returns-in-Boolean
returns-in-Boolean c = any_truth (extent (state c.args.self.now).es c.args.id) (plain c.falsity.result) (c.sort.ensures ∙ ap (λ s. Some s) c.in-Boolean.is) c.falsity.ensures

pub returns-in-Set : goal.returns-in-Set
returns-in-Set c = if_any_set c.empty_set.result (extent (state c.args.self.now).es c.args.id) (c.sort.ensures ∙ ap (λ s. Some s) c.in-Set.is) c.empty_set.ensures
