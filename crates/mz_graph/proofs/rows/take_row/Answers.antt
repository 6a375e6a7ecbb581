use Rattle.std.proofs.Common.{ap, ◌∙◌}
use Rattle.mz_graph.proofs.Tables.{written}
use Rattle.mz_graph.proofs.rows.take_row.Goals as goal

pub returns-clause-rest : goal.returns-clause-rest
returns-clause-rest c = written c.args.rows.now.items c.args.at c.replace.new.dest _ (ap (λ v. v.items) c.replace.ensures.after ∙ c.new.ensures.items)
