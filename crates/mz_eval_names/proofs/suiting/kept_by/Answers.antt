use Rattle.mz_symbol.specs.Readings.{state_of}
use Rattle.mz_eval_cells.specs.Views.{seen}
use Rattle.mz_eval_declared.specs.Wants.{wanted, wants_of}
use Rattle.mz_eval_declared.proofs.SuitingLaws.{kept_means}
use Rattle.mz_eval_names.proofs.suiting.kept_by.Goals as goal

pub returns-clause-means : goal.returns-clause-means
returns-clause-means c r h = kept_means c.args.run.now c.all_suit.new.run r c.args.at (wants_of c.args.index.now) (wanted c.args.set.now) (seen r c.args.c) c.in_ok-f.f c.in_ok-g.g (state_of r c.args.run.now) (state_of r c.all_suit.new.run) (λ s. (c.in_ok-f.ensures.seen r).by s) (c.in_ok-g.ensures.guards.is r h) (c.in_ok-g.ensures.guards.same r h)
