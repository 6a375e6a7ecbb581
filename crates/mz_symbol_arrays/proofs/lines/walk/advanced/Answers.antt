use Rattle.mz_symbol_arrays.proofs.LineLaws.{advances}
use Rattle.mz_symbol_arrays.proofs.lines.walk.advanced.Goals as goal

pub returns-clause-advances : goal.returns-clause-advances
returns-clause-advances c r h =
    let back = c.in_ok-all.ensures.goes.back r h in
    advances r c.args.run.now c.seen.new.run c.joined.new.run c.args.walk c.args.line c.args.i c.args.acc c.in-Some.item c.in_ok-truth.truth c.in_ok-all.all c.in-Some.ensures (c.in_ok-truth.ensures.goes.back r back) (c.in_ok-truth.ensures.seen r back) (c.in_ok-all.ensures.joined r h)
