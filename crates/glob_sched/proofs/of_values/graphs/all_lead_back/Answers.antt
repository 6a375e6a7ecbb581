use Rattle.std.proofs.Common.{pos, get_or, arith, rules, w64}
use Rattle.std.proofs.lemmas.Int.{ints, to_z-of_z}
use Rattle.std.specs.Int.{w128}
use Rattle.std.specs.List.{list_all}
use mir.Val.{to_z}
use Rattle.mz_globals.specs.Lists.{numbered}
use Rattle.mz_globals.specs.Graphs.{is_two_way}
use Rattle.glob_order.proofs.Numbered.{numbered_more, as_read}
use Rattle.glob_sched.proofs.of_values.graphs.all_lead_back.Goals as goal

pub loop-x-preserved : goal.loop-x-preserved
loop-x-preserved c =
    let x = get_or c.args.xs.now c.loop-x.x-index (pos 0) in
    let first = c.args.g.now.indices.0 in
    let here = as_read (λ n. is_two_way (to_z w128 c.loop-x.i-bits, n)) x _ first _ c.args.g.now.items.items _ c.leads_back.result (to_z-of_z w64 x (search rules)) (to_z-of_z w64 first (search rules)) c.deref.ensures.value c.leads_back.ensures c.if-not-leads_back.false in
    numbered_more (λ p. list_all (is_two_way p) (numbered first c.args.g.now.items.items)) c.args.xs.now c.loop-x.x-index (pos 0) _ _ _ _ (omega arith) c.loop-x.invariant.0 (grind (arith, ints, to_z-of_z)) here c.loop-x.invariant.1
