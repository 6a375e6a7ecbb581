use Rattle.mz_meaning.specs.Calls.{argument_suits}
use Rattle.mz_meaning.specs.Lets as lets
use Rattle.mz_eval_cells.specs.Views.{seen}
use Rattle.mz_eval_declared.specs.Wants.{wanted, wants_of}
use Rattle.mz_eval_declared.proofs.SuitingLaws.{both_guards}
use Rattle.mz_eval_names.proofs.suiting.all_suited.Goals as goal

pub returns-clause-guards : goal.returns-clause-guards
returns-clause-guards c = both_guards 0 c.args.run.now c.parameter_suits.new.run c.both_of.new.run (lets.all_have_sets (wants_of c.args.index.now)) (λ r. argument_suits c.args.var c.args.of_var (wanted c.args.set.now) (seen r c.args.k.now)) c.sets_there-sets.result c.in_ok-s.s c.in_ok-g.g c.sets_there-sets.ensures c.in_ok-s.ensures.guards c.in_ok-g.ensures.goes c.in_ok-g.ensures.guards
