use Rattle.std.proofs.Common.{ap, slice_index_or, ◌∙◌}
use Rattle.flat_reif.specs.States.{state}
use Rattle.flat.specs.Arrays.{place_at}
use Rattle.flat.proofs.Stepping.{have_at, places_next, places_all}
use Rattle.flat.proofs.arrays.places.Goals as goal

pub place-requires : goal.place-requires
place-requires c = have_at (state c.args.flat.now).args c.args.ids.now c.ids.id-index c.requires c.ids-test.true

pub ids-preserved : goal.ids-preserved
ids-preserved c = places_next (state c.args.flat.now).args c.args.ids.now c.ids.id-index c.ids.all.items c.push.new.self.items c.in-Ok.x c.ids-test.true c.ids.invariant c.in-Ok.ensures c.in_ok-push.ensures.items

pub returns : goal.returns
returns c = c.ids.invariant ∙ places_all (state c.args.flat.now).args c.args.ids.now c.ids.id-index c.ids-test.false
