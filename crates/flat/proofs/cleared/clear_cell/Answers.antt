use Rattle.std.proofs.Common.{sym, ◌∙◌}
use Rattle.mz_arena.specs.Instances.{model_var, var_cell}
use Rattle.mz_instance.specs.Parts.{value_part}
use Rattle.flat_reif.specs.States.{state}
use Rattle.flat.proofs.Clearing.{set_cleared, empty_cleared, has_cleared, no_ranges, some_ranges}
use Rattle.flat.proofs.cleared.clear_cell.Goals as goal

pub returns-then-has_sets : goal.returns-then-has_sets
returns-then-has_sets c = set_cleared (state c.args.flat.now) (value_part (model_var c.args.m.now) (var_cell c.args.c.now)) c.requires.ready (sym c.has_sets.ensures ∙ c.if-has_sets.true)

pub returns-in-Ok : goal.returns-in-Ok
returns-in-Ok c = empty_cleared (state c.args.flat.now) (state c.post_false.new.self) (value_part (model_var c.args.m.now) (var_cell c.args.c.now)) c.requires.ready c.requires.bound (sym c.has_sets.ensures ∙ c.if-has_sets.false) (no_ranges c.is_empty.result c.ranges-2.result.now c.args.c.now.domain c.ranges-2.ensures.ranges c.is_empty.ensures c.if-is_empty.true) c.in-Ok.ensures.posted c.in-Ok.ensures.none

pub returns-else-is_empty : goal.returns-else-is_empty
returns-else-is_empty c = has_cleared (state c.args.flat.now) (value_part (model_var c.args.m.now) (var_cell c.args.c.now)) c.requires.ready (λ n. some_ranges c.is_empty.result c.ranges-2.result.now c.args.c.now.domain c.ranges-2.ensures.ranges c.is_empty.ensures c.if-is_empty.false)
