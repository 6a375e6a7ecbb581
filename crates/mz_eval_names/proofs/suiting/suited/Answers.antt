use Rattle.mz_symbol.specs.Readings.{state_of}
use Rattle.mz_eval_cells.specs.Views.{seen}
use Rattle.mz_eval_declared.specs.Wants.{wanted, wants_of}
use Rattle.mz_eval_names.proofs.ResultLaws.{suited_means}
use Rattle.mz_eval_names.proofs.suiting.suited.Goals as goal

pub returns-clause-means : goal.returns-clause-means
returns-clause-means c r h = suited_means c.args.var c.args.of_var r c.args.at (wants_of c.args.index.now) (wanted c.args.set.now) (seen r c.args.c) c.in_ok-f.f c.in_ok-g.g (state_of r c.args.run.now) (state_of r c.all_suited.new.run) (λ s. (c.in_ok-f.ensures.seen r).by s) (c.in_ok-g.ensures.guards.is r h) (c.in_ok-g.ensures.guards.same r h)
