use Rattle.mz_symbol_arrays.proofs.SeenLaws.{there_seen}
use Rattle.mz_symbol_arrays.proofs.lines.seen.true_and_there.Goals as goal

pub returns-clause-seen : goal.returns-clause-seen
returns-clause-seen c r h = there_seen r c.args.run.now c.deopt.new.run c.args.item c.in_ok-there.there c.requires (c.in_ok-there.ensures.means r h)
