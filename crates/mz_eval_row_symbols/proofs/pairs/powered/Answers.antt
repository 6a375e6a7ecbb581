use Rattle.mz_eval_row_symbols.proofs.pairs.powered.Goals as goal

pub returns-clause-goes : goal.returns-clause-goes
returns-clause-goes c = c.power.ensures.goes 14 c.requires
