use Rattle.std.proofs.Common.{refl}
use Rattle.mz_model_state.specs.Hands.{ManyPlaces}
use Rattle.mz_model_names.proofs.Rooted.{rooted_if}
use Rattle.mz_model_names.proofs.roots.array_value_roots.Goals as goal

pub returns-clause-roots : goal.returns-clause-roots
returns-clause-roots c = rooted_if c.array_roots.new.run (ManyPlaces c.args.ix.now c.args.places.now) c.args.k.now c.in-Ok.ids.items c.in-Ok.ids.items refl (c.in-Ok.ensures.roots c.args.ix.now (c.has_ranges.ensures c.if-not-has_ranges.false))
