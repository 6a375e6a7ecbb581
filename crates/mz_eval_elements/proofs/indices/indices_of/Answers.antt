use Rattle.std.proofs.Common.{◌≡◌, ◌+◌, ap, length, arith}
use Rattle.mz_symbol.specs.Readings.{symbol_seen}
use Rattle.mz_eval_arrays.proofs.Seeing.{symbols_none, symbols_more, symbols_all, goes_none, goes_more, goes_same}
use Rattle.mz_eval_elements.proofs.indices.indices_of.Goals as goal

pub loop-k-init : goal.loop-k-init
loop-k-init c = (goes_none c.args.run.now, (λ r h. symbols_none symbol_seen r c.args.run.now c.new-made.result.items c.new-made.ensures.items, ap length c.new-made.ensures.items))

pub loop-k-preserved : goal.loop-k-preserved
loop-k-preserved c =
    let a = c.in_ok-made.ensures in (
      goes_more c.loop-k.k-index (c.loop-k.k-index + 1) c.args.run.now c.loop-k.run c.with_index.new.run (omega arith) c.loop-k.invariant.0 a.goes,
      (
        λ r h. symbols_more symbol_seen r c.args.run.now c.loop-k.run c.with_index.new.run c.args.at.now c.loop-k.k-index c.k-item.result c.loop-k.made.items c.in_ok-made.made.items c.loop-k-test.true c.k-item.is (c.loop-k.invariant.1.0 r (a.goes.back r h)) (a.more r h),
        omega (arith, a.count, c.loop-k.invariant.1.1),
      ),
    )

pub returns-in_err-made-clause-goes : goal.returns-in_err-made-clause-goes
returns-in_err-made-clause-goes c = goes_more c.loop-k.k-index (length c.args.at.now) c.args.run.now c.loop-k.run c.with_index.new.run (omega (arith, c.loop-k-test.true)) c.loop-k.invariant.0 c.with_index.ensures.goes

pub returns-clause-goes : goal.returns-clause-goes
returns-clause-goes c = goes_same c.loop-k.k-index (length c.args.at.now) c.args.run.now c.loop-k.run (omega (arith, c.loop-k-test.false, c.loop-k.auto.k-index-end)) c.loop-k.invariant.0

pub returns-clause-made : goal.returns-clause-made
returns-clause-made c =
    let last : c.loop-k.k-index ≡ length c.args.at.now = omega (arith, c.loop-k-test.false, c.loop-k.auto.k-index-end) in
    λ r h. symbols_all symbol_seen r c.args.run.now c.loop-k.run c.args.at.now c.loop-k.k-index c.loop-k.made.items last (c.loop-k.invariant.1.0 r h)

pub returns-clause-count : goal.returns-clause-count
returns-clause-count c = omega (arith, c.loop-k-test.false, c.loop-k.auto.k-index-end, c.loop-k.invariant.1.1)
