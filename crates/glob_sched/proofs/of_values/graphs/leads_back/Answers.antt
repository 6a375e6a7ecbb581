use Rattle.std.proofs.Common.{pos, get_or, sym, ap, ◌∙◌, arith, rules, w64}
use Rattle.std.proofs.lemmas.Int.{ints, to_z-of_z}
use Rattle.std.specs.Int.{w128}
use mir.Val.{to_z}
use Rattle.mz_globals.specs.Graphs.{is_two_way}
use Rattle.glob_order.proofs.Numbered.{numbered_more}
use Rattle.glob_sched.proofs.of_values.graphs.leads_back.Goals as goal

pub loop-y-preserved : goal.loop-y-preserved
loop-y-preserved c =
    let y = get_or c.args.ys.now c.loop-y.y-index (pos 0) in
    let read = to_z-of_z w64 y (search rules) in
    let here = sym (ap (λ n. is_two_way c.args.p.now (to_z w128 c.loop-y.j-bits, n)) read) ∙ sym c.is_two_way.ensures ∙ c.if-not-is_two_way.false in
    numbered_more (is_two_way c.args.p.now) c.args.ys.now c.loop-y.y-index (pos 0) _ _ _ _ (omega arith) c.loop-y.invariant.0 (grind (arith, ints, to_z-of_z)) here c.loop-y.invariant.1
