use Rattle.mz_symbol_arrays.proofs.UnionWalkLaws.{advances}
use Rattle.mz_symbol_arrays.proofs.unions.walk.advanced.Goals as goal

pub returns-clause-advances : goal.returns-clause-advances
returns-clause-advances c r h = advances r c.args.run.now c.joined.new.run c.args.op c.args.line c.args.i c.args.acc c.in_ok-set.set c.in_ok-all.all c.in-Some.item c.in-Some.ensures (c.in_ok-all.ensures.goes.back r h) c.in_ok-set.ensures (c.in_ok-all.ensures.means r h)
