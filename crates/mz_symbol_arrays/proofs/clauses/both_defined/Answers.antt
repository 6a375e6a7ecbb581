use Rattle.mz_symbol_arrays.proofs.ClauseLaws.{are_true}
use Rattle.mz_symbol_arrays.proofs.clauses.both_defined.Goals as goal

pub returns-clause-both : goal.returns-clause-both
returns-clause-both c r h = are_true r c.args.run.now c.and_node.new.run c.args.d c.args.e c.in_ok-id.id c.truth.result (c.in_ok-id.ensures.means r h) c.truth.ensures
