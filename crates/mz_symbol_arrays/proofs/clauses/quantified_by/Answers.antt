use Rattle.std.proofs.Common.{[]}
use Rattle.mz_symbol_arrays.proofs.TruthLaws.{asks}
use Rattle.mz_symbol_arrays.proofs.clauses.quantified_by.Goals as goal

pub returns-clause-asks : goal.returns-clause-asks
returns-clause-asks c r h = asks r c.args.run.now c.quantified.new.run c.args.op c.args.line c.in-Ok.all (c.in-Ok.ensures.means [] r h)
