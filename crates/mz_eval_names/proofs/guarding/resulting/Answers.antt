use Rattle.mz_core.specs.Types.{plain_type}
use Rattle.mz_meaning.specs.Arrays.{suits}
use Rattle.mz_meaning.specs.Cells.{both_sure}
use Rattle.mz_meaning.specs.Lets.{all_have_sets}
use Rattle.mz_eval_cells.specs.Views.{seen}
use Rattle.mz_eval_declared.specs.Wants.{wanted, wants_of}
use Rattle.mz_eval_names.proofs.ResultLaws.{result_means}
use Rattle.mz_eval_names.proofs.guarding.resulting.Goals as goal

pub returns-clause-means : goal.returns-clause-means
returns-clause-means c r h = result_means c.args.run.now c.all_suit.new.run c.both_of.new.run c.guarded_by.new.run (plain_type c.args.t.now) c.args.holds c.in_ok-own.own c.in_ok-all.all c.args.c c.in_ok-x.x (λ r. both_sure (all_have_sets (wants_of c.args.index.now)) (suits (wanted c.args.set.now) (seen r c.args.c))) r c.in_ok-own.ensures.guards c.in_ok-all.ensures.goes c.in_ok-all.ensures.guards c.in_ok-x.ensures.goes c.in_ok-x.ensures.cell h
