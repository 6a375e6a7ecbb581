use Rattle.std.proofs.Common.{◌*◌, arith, length, subst}
use Rattle.mz_symbol.specs.Makes.{GoesOnBy}
use Rattle.glob_nodes.specs.Says.{Gives}
use Rattle.glob_nodes.proofs.Saying.{ok_so}
use Rattle.glob_nodes.proofs.Telling.{goes_less, goes_more}
use Rattle.glob_sets.specs.Senses.{united_from}
use Rattle.glob_sets.proofs.Together.{whole_says}
use Rattle.glob_sets.proofs.partition.are_whole.Goals as goal

pub returns-in_err-union-clause-goes : goal.returns-in_err-union-clause-goes
returns-in_err-union-clause-goes c = goes_less _ _ c.args.run.now c.united.new.run (omega arith) (subst (λ ids. GoesOnBy (4 * length ids) c.args.run.now c.united.new.run) c.deref.ensures.value c.united.ensures.goes)

pub returns-clause-goes : goal.returns-clause-goes
returns-clause-goes c = goes_more _ 6 _ c.args.run.now c.united.new.run c.equal.new.run (omega arith) (subst (λ ids. GoesOnBy (4 * length ids) c.args.run.now c.united.new.run) c.deref.ensures.value c.in_ok-union.ensures.goes) c.equal.ensures.goes

pub returns-clause-says : goal.returns-clause-says
returns-clause-says c = ok_so c.equal.result c.equal.ensures.says (λ id s. whole_says c.args.run.now c.united.new.run c.equal.new.run c.args.none c.args.u c.in_ok-union.union id 6 c.args.ss.now.items.items
    (subst (λ ids. Gives c.args.run.now c.united.new.run (λ r. united_from r (r.term c.args.none) ids) c.in_ok-union.union) c.deref.ensures.value c.in_ok-union.ensures.gives) c.equal.ensures.goes s)
