use Rattle.std.proofs.Common.{sym, ap, ◌∙◌, option_map}
use Rattle.mz_interval.specs.Interval.{ends}
use Rattle.mz_arena_blocks.specs.Lists.{list_at}
use Rattle.mz_arena_blocks.proofs.Instances.{hull_of_part}
use Rattle.mz_arena_blocks.proofs.hulls.Blocks+Interval.hull_between.Goals as goal

pub returns-in-Some : goal.returns-in-Some
returns-in-Some c = hull_of_part (ends c.in-Some.hull) c.args.count c.args.skipped (list_at c.args.self.now c.args.list) (ap (option_map ends) (sym c.in-Some.is) ∙ c.in_ok-hull.ensures)
