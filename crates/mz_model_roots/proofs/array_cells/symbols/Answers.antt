use Rattle.std.proofs.Common.{◌+◌, List, sym, subst}
use Rattle.mz_symbol.specs.declared.types.Symbol.{Symbol}
use Rattle.mz_model_roots.specs.StepsPlaces.{AreWholeSoFar}
use Rattle.mz_model_roots.proofs.WholeItems.{wholes_more, wholes_all}
use Rattle.mz_model_roots.proofs.array_cells.symbols.Goals as goal

pub loop-f-preserved : goal.loop-f-preserved
loop-f-preserved c =
    subst (λ (xs : List Symbol). AreWholeSoFar c.args.run.now c.with_whole_value.new.run c.args.places.now (c.loop-f.f-index + 1) xs) (sym c.in_ok-push.ensures.items)
    (wholes_more c.args.run.now c.loop-f.run c.with_whole_value.new.run c.args.places.now c.loop-f.f-index c.loop-f.all.items c.f-item.result c.in_ok-s.s c.loop-f-test.true c.f-item.is c.loop-f.invariant c.with_whole_value.ensures.goes c.in_ok-s.ensures.same c.in_ok-s.ensures.whole)

pub returns-clause-whole : goal.returns-clause-whole
returns-clause-whole c = wholes_all c.args.run.now c.loop-f.run c.args.places.now c.loop-f.f-index c.loop-f.all.items c.loop-f-test.false c.loop-f.invariant
