use Rattle.std.proofs.Common.{ap, slice_index_or, ◌∙◌}
use Rattle.flat_root.specs.Posts.{all_seeds}
use Rattle.flat_root.proofs.Marking.{take_whole, index_there}
use Rattle.flat_root.proofs.Seeding.{seeds_next, root_place}
use Rattle.flat_root.proofs.posts.all_seeds.Goals as goal

pub add_seeds-requires : goal.add_seeds-requires
add_seeds-requires c = root_place c.args.arena.now c.args.ids.now c.ids.id-index (slice_index_or c.args.ids.now c.ids.id-index 0) (index_there c.args.ids.now c.ids.id-index c.ids-test.true) c.requires

pub ids-preserved : goal.ids-preserved
ids-preserved c = seeds_next c.args.arena.now c.args.ids.now c.ids.id-index (slice_index_or c.args.ids.now c.ids.id-index 0) c.ids.seeds.items c.add_seeds.new.seeds.items (index_there c.args.ids.now c.ids.id-index c.ids-test.true) c.ids.invariant c.in-Ok.ensures

pub returns : goal.returns
returns c = c.ids.invariant ∙ ap (all_seeds c.args.arena.now) (take_whole c.args.ids.now c.ids.id-index c.ids-test.false)
