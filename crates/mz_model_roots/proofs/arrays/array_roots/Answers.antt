use Rattle.mz_model_roots.proofs.ShapedRoots.{shaped_roots}
use Rattle.mz_model_roots.proofs.arrays.array_roots.Goals as goal

pub returns-clause-roots : goal.returns-clause-roots
returns-clause-roots c = λ ix has. shaped_roots c.line_roots.new.run c.args.places.now c.args.value.now c.in_ok-ids-2.ids.items ix (c.is_undefined.ensures.shaped c.if-is_undefined.false) c.in_ok-ids-2.ensures.roots has
