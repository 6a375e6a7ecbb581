use Rattle.mz_symbol_arrays.proofs.SeenLaws.{seen_plain}
use Rattle.mz_symbol_arrays.proofs.lines.seen.seen_truth.Goals as goal

pub returns-in-None-clause-seen : goal.returns-in-None-clause-seen
returns-in-None-clause-seen c r h = seen_plain r c.args.run.now c.args.walk c.args.item c.requires c.in-None.is
