use Rattle.mz_symbol_arrays.proofs.SeenLaws.{absent_seen}
use Rattle.mz_symbol_arrays.proofs.lines.seen.true_or_absent.Goals as goal

pub returns-clause-seen : goal.returns-clause-seen
returns-clause-seen c r h =
    let back = c.in_ok-either.ensures.goes.back r h in
    absent_seen r c.args.run.now c.absent.new.run c.deopt.new.run c.logic.new.run c.args.item c.in_ok-gone.gone c.in_ok-there.there c.in_ok-either.either c.requires
    (c.in_ok-gone.ensures.means r (c.in_ok-there.ensures.goes.back r back)) (c.in_ok-there.ensures.means r back) (c.in_ok-either.ensures.means r h)
