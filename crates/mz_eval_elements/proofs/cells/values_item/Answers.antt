use Rattle.std.proofs.Common.{◌∙◌}
use Rattle.mz_eval_elements.proofs.CellLaws.{no_place, some_place}
use Rattle.mz_eval_elements.proofs.cells.values_item.Goals as goal

pub returns-in_ok-none-in-None-clause-seen : goal.returns-in_ok-none-in-None-clause-seen
returns-in_ok-none-in-None-clause-seen c r = c.in_ok-none-in-None.ensures.seen r ∙ no_place r.mode c.args.cast c.args.items.now c.args.n c.in-None.ensures

pub returns-in_ok-k-in-Some-clause-seen : goal.returns-in_ok-k-in-Some-clause-seen
returns-in_ok-k-in-Some-clause-seen c r = c.in_ok-k-in-Some.ensures.seen r ∙ some_place r.mode c.args.cast c.args.items.now c.args.n c.in-Some.v.now c.in-Some.ensures
