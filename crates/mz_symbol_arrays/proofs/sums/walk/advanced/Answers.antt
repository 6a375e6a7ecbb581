use Rattle.mz_symbol_arrays.proofs.SumWalkLaws.{advances}
use Rattle.mz_symbol_arrays.proofs.sums.walk.advanced.Goals as goal

pub returns-clause-advances : goal.returns-clause-advances
returns-clause-advances c r h =
    let back = c.in_ok-all.ensures.goes.back r h in
    advances r c.args.run.now c.counted.new.run c.joined.new.run c.args.op c.args.line c.args.i c.args.acc c.in-Some.item c.in_ok-number.number c.in_ok-all.all c.in-Some.ensures (c.in_ok-number.ensures.goes.back r back) (c.in_ok-number.ensures.counts r back) (c.in_ok-all.ensures.joins r h)
