use Rattle.std.proofs.Common.{◌*◌, subst}
use Rattle.mz_globals.specs.Lists.{pairwise}
use Rattle.mz_symbol.specs.Makes.{GoesOnBy}
use Rattle.glob_nodes.specs.Says.{Tells, pair_count}
use Rattle.glob_nodes.proofs.Saying.{ok_so}
use Rattle.glob_sets.specs.Senses.{are_apart}
use Rattle.glob_sets.proofs.disjoint.all_apart.Goals as goal

pub returns-clause-goes : goal.returns-clause-goes
returns-clause-goes c = subst (λ ids. GoesOnBy (16 * pair_count ids) c.args.run.now c.each_apart.new.run) c.deref.ensures.value c.each_apart.ensures.goes

pub returns-clause-tells : goal.returns-clause-tells
returns-clause-tells c = ok_so c.each_apart.result c.each_apart.ensures.tells (λ id t. subst (λ ids. Tells c.args.run.now c.each_apart.new.run (λ r. pairwise (are_apart r c.args.none) ids) id) c.deref.ensures.value t)
