use Rattle.std.proofs.Common.{◌≡◌, ◌+◌, ap, length, subst, arith}
use Rattle.mz_core.specs.declared.types.Base.TheVariants as base
use Rattle.mz_eval_symbols.specs.Steps.{AreMade, IsCast}
use Rattle.mz_eval_symbols.proofs.Lists.{made_none, made_more}
use Rattle.mz_eval_symbols.proofs.casts.all_fitted.Goals as goal

pub loop-i-init : goal.loop-i-init
loop-i-init c = (λ t h. made_none (IsCast t base.Bottom) c.args.items.now c.new-all.result.items c.new-all.ensures.items, ap length c.new-all.ensures.items)

pub loop-i-preserved : goal.loop-i-preserved
loop-i-preserved c =
    let a = c.in_ok-all.ensures in
    (λ t h. made_more (IsCast t base.Bottom) c.args.items.now c.loop-i.i (c.loop-i.i + 1) c.loop-i.all.items c.in_ok-all.all.items (omega arith) (c.loop-i.invariant.0 t h) (a.more t h), omega (arith, a.count, c.loop-i.invariant.1))

pub returns-clause-made : goal.returns-clause-made
returns-clause-made c =
    let last : c.loop-i.i ≡ c.args.count = omega (arith, c.loop-i-test.false, c.loop-i.auto.i-end) in
    λ t h. subst (λ n. AreMade (IsCast t base.Bottom) c.args.items.now n c.loop-i.all.items) last (c.loop-i.invariant.0 t h)

pub returns-clause-count : goal.returns-clause-count
returns-clause-count c = omega (arith, c.loop-i-test.false, c.loop-i.auto.i-end, c.loop-i.invariant.1)
