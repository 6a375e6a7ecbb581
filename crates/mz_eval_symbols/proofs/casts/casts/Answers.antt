use Rattle.std.proofs.Common.{◌≡◌, ◌+◌, ap, length, subst, arith}
use Rattle.mz_symbol_arrays.proofs.LineLaws.{goes_none}
use Rattle.mz_eval_symbols.specs.Steps.{AreCasts}
use Rattle.mz_eval_symbols.proofs.Lists.{casts_none, casts_more, goes_more, goes_same}
use Rattle.mz_eval_symbols.proofs.casts.casts.Goals as goal

pub loop-i-init : goal.loop-i-init
loop-i-init c = (goes_none c.args.run.now, (λ r h. casts_none r c.args.run.now c.args.b c.args.items.now c.new-all.result.items c.new-all.ensures.items, ap length c.new-all.ensures.items))

pub loop-i-preserved : goal.loop-i-preserved
loop-i-preserved c =
    let a = c.in_ok-all.ensures in (
      goes_more c.loop-i.i (c.loop-i.i + 1) c.args.run.now c.loop-i.run c.with_cast.new.run (omega arith) c.loop-i.invariant.0 a.goes,
      (
        λ r h. casts_more r c.args.run.now c.loop-i.run c.with_cast.new.run c.args.b c.args.items.now c.loop-i.i (c.loop-i.i + 1) c.loop-i.all.items c.in_ok-all.all.items (omega arith) (c.loop-i.invariant.1.0 r (a.goes.back r h)) (a.more r h),
        omega (arith, a.count, c.loop-i.invariant.1.1),
      ),
    )

pub returns-in_err-all-clause-goes : goal.returns-in_err-all-clause-goes
returns-in_err-all-clause-goes c = goes_more c.loop-i.i c.args.count c.args.run.now c.loop-i.run c.with_cast.new.run (omega (arith, c.loop-i-test.true)) c.loop-i.invariant.0 c.with_cast.ensures.goes

pub returns-clause-goes : goal.returns-clause-goes
returns-clause-goes c = goes_same c.loop-i.i c.args.count c.args.run.now c.loop-i.run (omega (arith, c.loop-i-test.false, c.loop-i.auto.i-end)) c.loop-i.invariant.0

pub returns-clause-made : goal.returns-clause-made
returns-clause-made c =
    let last : c.loop-i.i ≡ c.args.count = omega (arith, c.loop-i-test.false, c.loop-i.auto.i-end) in
    λ r h. subst (λ n. AreCasts r c.args.run.now c.loop-i.run c.args.b c.args.items.now n c.loop-i.all.items) last (c.loop-i.invariant.1.0 r h)

pub returns-clause-count : goal.returns-clause-count
returns-clause-count c = omega (arith, c.loop-i-test.false, c.loop-i.auto.i-end, c.loop-i.invariant.1.1)
