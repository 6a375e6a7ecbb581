use Rattle.std.proofs.Common.{◌∙◌, ap, Some}
use Rattle.mz_arena.specs.Extents.{extent}
use Rattle.cases_instances.proofs.Standing.{whole_known}
use Rattle.cases_instances.proofs.nodes.is_whole.Goals as goal

pub returns-in-Integer : goal.returns-in-Integer
returns-in-Integer c = λ t. whole_known (extent c.args.arena.now c.args.id) (c.sort.ensures ∙ ap (λ s. Some s) c.in-Integer.is)
