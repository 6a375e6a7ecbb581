use Rattle.mz_symbol.specs.Readings.{state_of}
use Rattle.mz_eval_cells.specs.Views.{seen}
use Rattle.mz_eval_declared.specs.Wants.{wanted, wants_of}
use Rattle.mz_eval_declared.proofs.SuitingLaws.{kept_goes, kept_means}
use Rattle.mz_eval_declared.proofs.sets.kept_in.Goals as goal

pub returns-in_err-g-clause-goes : goal.returns-in_err-g-clause-goes
returns-in_err-g-clause-goes c = kept_goes c.args.at (wants_of c.args.ws.now) c.args.k c.in_ok-f.f _ _ (λ s. c.in_ok-f.ensures.of.by s) c.suited_in.ensures.goes

pub returns-clause-goes : goal.returns-clause-goes
returns-clause-goes c = kept_goes c.args.at (wants_of c.args.ws.now) c.args.k c.in_ok-f.f _ _ (λ s. c.in_ok-f.ensures.of.by s) c.in_ok-g.ensures.goes

pub returns-clause-means : goal.returns-clause-means
returns-clause-means c r h = kept_means c.args.run.now c.suited_in.new.run r c.args.at (wants_of c.args.ws.now) (wanted c.args.w.now) (seen r c.args.k) c.in_ok-f.f c.in_ok-g.g (state_of r c.args.run.now) (state_of r c.suited_in.new.run) (λ s. (c.in_ok-f.ensures.seen r).by s) (c.in_ok-g.ensures.guards.is r h) (c.in_ok-g.ensures.guards.same r h)
