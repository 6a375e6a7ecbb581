use Rattle.std.proofs.Common.{pos, List, map, get_or, ap, arith, rules, w64}
use Rattle.std.proofs.lemmas.Int.{ints, to_z-of_z}
use Rattle.std.specs.Int.{w128}
use Rattle.std.specs.List.{list_all}
use mir.Val.{to_z}
use Rattle.mz_globals.specs.Lists.{numbered}
use Rattle.mz_globals.specs.Counting.{is_channel}
use Rattle.glob_order.specs.Views.{sets_of}
use Rattle.glob_order.proofs.Numbered.{numbered_more, as_read}
use Rattle.glob_count.proofs.of_values.sets.all_channel.Goals as goal

pub loop-x-preserved : goal.loop-x-preserved
loop-x-preserved c =
    let x = get_or c.args.xs.now c.loop-x.x-index (pos 0) in
    let first = c.args.sets.now.indices.0 in
    let sets = (sets_of c.args.sets.now).items in
    let here = as_read (λ n. is_channel (to_z w128 c.loop-x.i-bits, n)) x _ first _ sets _ c.channels_to.result (to_z-of_z w64 x (search rules)) (to_z-of_z w64 first (search rules)) (ap (map (λ s. s.now)) c.deref.ensures.value) c.channels_to.ensures c.if-not-channels_to.false in
    numbered_more (λ p. list_all (is_channel p) (numbered first sets)) c.args.xs.now c.loop-x.x-index (pos 0) _ _ _ _ (omega arith) c.loop-x.invariant.0 (grind (arith, ints, to_z-of_z)) here c.loop-x.invariant.1
