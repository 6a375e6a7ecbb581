use Rattle.mz_core.specs.Types.{plain_type}
use Rattle.mz_meaning.specs.Domains.{domain_over}
use Rattle.mz_symbol.proofs.ConstantLaws.{out_state}
use Rattle.mz_eval_declared.proofs.Taking.{takes_all, takes_more, takes_none, takes_some}
use Rattle.mz_eval_declared.proofs.arrays.take_each.Goals as goal

pub loop-i-init : goal.loop-i-init
loop-i-init c = takes_none (domain_over (plain_type c.args.t.now) c.args.set.now) c.args.run.now

pub loop-i-preserved : goal.loop-i-preserved
unfolding plain_type
loop-i-preserved c = takes_more c.loop-i._i (domain_over (plain_type c.args.t.now) c.args.set.now) c.args.run.now c.loop-i.run c.take.new.self c.loop-i.invariant c.in-Ok.ensures.goes (λ r h. out_state (c.in-Ok.ensures.means r h))

pub returns-in_default-clause-goes : goal.returns-in_default-clause-goes
returns-in_default-clause-goes c = takes_some c.loop-i._i c.args.count (domain_over (plain_type c.args.t.now) c.args.set.now) c.args.run.now c.loop-i.run c.take.new.self c.loop-i-test.true c.loop-i.invariant c.take.ensures.goes

pub returns-clause-goes : goal.returns-clause-goes
returns-clause-goes c = (takes_all c.loop-i._i c.args.count (domain_over (plain_type c.args.t.now) c.args.set.now) c.args.run.now c.loop-i.run c.loop-i-test.false c.loop-i.auto._i-end c.loop-i.invariant).goes

pub returns-clause-takes : goal.returns-clause-takes
returns-clause-takes c = takes_all c.loop-i._i c.args.count (domain_over (plain_type c.args.t.now) c.args.set.now) c.args.run.now c.loop-i.run c.loop-i-test.false c.loop-i.auto._i-end c.loop-i.invariant
