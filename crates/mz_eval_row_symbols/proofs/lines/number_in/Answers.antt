use Rattle.mz_eval_row_symbols.proofs.LineLaws.{number_told}
use Rattle.mz_eval_row_symbols.proofs.lines.number_in.Goals as goal

pub returns-in-None : goal.returns-in-None
returns-in-None c = number_told c.args.ix.now.value.items c.args.xs.now c.number_of.result c.in-None.is c.number_of.ensures
