use Rattle.std.proofs.Common.{◌≡◌, ◌+◌, ap, length, arith}
use Rattle.mz_symbol.proofs.ConstantLaws.{out_value, out_state}
use Rattle.mz_symbol_arrays.proofs.ArrayLaws.{makes_none, makes_more, goes_start, goes_more, goes_same}
use Rattle.mz_symbol_arrays.proofs.arrays.made_items.Goals as goal

pub loop-i-init : goal.loop-i-init
loop-i-init c = (
  goes_start c.args.run.now c.truth_node.new.self c.in_ok-yes.ensures.goes,
  (
    λ r h.
        let e = c.in_ok-yes.ensures.means r h in
        makes_none r c.args.run.now c.truth_node.new.self c.args.items.now c.new-none.result.items c.in_ok-yes.yes (out_state e) (out_value e) c.new-none.ensures.items,
    ap length c.new-none.ensures.items,
  ),
)

pub loop-i-preserved : goal.loop-i-preserved
loop-i-preserved c =
    let a = c.in_ok-made.ensures in (
      goes_more c.loop-i.i (c.loop-i.i + 1) c.args.run.now c.loop-i.run c.with_item.new.run (omega arith) c.loop-i.invariant.0 a.goes,
      (
        λ r h. makes_more r c.args.run.now c.loop-i.run c.with_item.new.run c.args.items.now c.loop-i.made.all.items c.in_ok-made.made.all.items c.loop-i.made.defined c.in_ok-made.made.defined c.loop-i.i c.loop-i.invariant.1.1 (c.loop-i.invariant.1.0 r (a.goes.back r h)) (a.more r h),
        omega (arith, a.count, c.loop-i.invariant.1.1),
      ),
    )

pub returns-in_err-made-clause-goes : goal.returns-in_err-made-clause-goes
returns-in_err-made-clause-goes c = goes_more c.loop-i.i c.args.count c.args.run.now c.loop-i.run c.with_item.new.run (omega (arith, c.loop-i-test.true)) c.loop-i.invariant.0 c.with_item.ensures.goes

pub returns-clause-goes : goal.returns-clause-goes
returns-clause-goes c = goes_same c.loop-i.i c.args.count c.args.run.now c.loop-i.run (omega (arith, c.loop-i-test.false, c.loop-i.auto.i-end)) c.loop-i.invariant.0

pub returns-clause-made : goal.returns-clause-made
returns-clause-made c = c.loop-i.invariant.1.0

pub returns-clause-count : goal.returns-clause-count
returns-clause-count c = omega (arith, c.loop-i-test.false, c.loop-i.auto.i-end, c.loop-i.invariant.1.1)
