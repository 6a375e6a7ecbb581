use Rattle.std.proofs.Common.{◌≡◌, take}
use Rattle.flat_root.specs.Posts.{all_seeds}
use Rattle.flat_root.proofs.posts.all_seeds.Given as goal

abbrev pub invariant-ids : goal.invariant-ids
invariant-ids l = l.seeds.items ≡ all_seeds l.arena (take l.id-index l.ids)
