use Rattle.std.proofs.Common.{◌≡◌, ◌+◌, map, ap, length, subst, arith}
use Rattle.mz_value.specs.Contents.{content}
use Rattle.mz_symbol.proofs.RunLaws.{goes_on}
use Rattle.mz_symbol_arrays.proofs.LineLaws.{goes_none}
use Rattle.mz_eval_symbols.specs.Steps.{AreConstants, item_cast}
use Rattle.mz_eval_symbols.proofs.Lists.{constants_none, constants_more}
use Rattle.mz_eval_symbols.proofs.constants.constants.Goals as goal

pub loop-i-init : goal.loop-i-init
loop-i-init c = (goes_none c.args.run.now, (λ r h. constants_none r c.args.run.now (map (item_cast c.args.cast) (map content c.args.items.now)) c.new-all.result.items c.new-all.ensures.items, ap length c.new-all.ensures.items))

pub loop-i-preserved : goal.loop-i-preserved
loop-i-preserved c =
    let a = c.in_ok-all.ensures in (
      goes_on c.args.run.now c.loop-i.run c.with_constant.new.run c.loop-i.invariant.0 a.goes,
      (
        λ r h. constants_more r c.args.run.now c.loop-i.run c.with_constant.new.run (map (item_cast c.args.cast) (map content c.args.items.now)) c.loop-i.i (c.loop-i.i + 1) c.loop-i.all.items c.in_ok-all.all.items (omega arith) (c.loop-i.invariant.1.0 r (a.goes.back r h)) (a.more r h),
        omega (arith, a.count, c.loop-i.invariant.1.1),
      ),
    )

pub returns-in_err-all-clause-goes : goal.returns-in_err-all-clause-goes
returns-in_err-all-clause-goes c = goes_on c.args.run.now c.loop-i.run c.with_constant.new.run c.loop-i.invariant.0 c.with_constant.ensures.goes

pub returns-clause-goes : goal.returns-clause-goes
returns-clause-goes c = c.loop-i.invariant.0

pub returns-clause-made : goal.returns-clause-made
returns-clause-made c =
    let last : c.loop-i.i ≡ c.args.count = omega (arith, c.loop-i-test.false, c.loop-i.auto.i-end) in
    λ r h. subst (λ n. AreConstants r c.args.run.now c.loop-i.run (map (item_cast c.args.cast) (map content c.args.items.now)) n c.loop-i.all.items) last (c.loop-i.invariant.1.0 r h)

pub returns-clause-count : goal.returns-clause-count
returns-clause-count c = omega (arith, c.loop-i-test.false, c.loop-i.auto.i-end, c.loop-i.invariant.1.1)
