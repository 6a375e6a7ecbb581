use Rattle.std.proofs.Common.{refl}
use Rattle.mz_symbol.proofs.LineLaws.{lined_goes, lined_means}
use Rattle.mz_symbol.proofs.run.Run.push_line.Goals as goal

pub returns-clause-goes : goal.returns-clause-goes
returns-clause-goes c = lined_goes c.args.self.now c.keep.new.self _ c.in_ok-number.ensures.kept refl

pub returns-clause-means : goal.returns-clause-means
returns-clause-means c r h = lined_means c.args.self.now c.keep.new.self _ r c.in_ok-number.number c.in_ok-number.ensures.kept c.in_ok-number.ensures.number h
