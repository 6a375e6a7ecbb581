use Rattle.std.proofs.Common.{pos, get_or, sym, ap, ◌∙◌, arith, rules, w64}
use Rattle.std.proofs.lemmas.Int.{ints, to_z-of_z}
use Rattle.std.specs.Int.{w128}
use mir.Val.{to_z}
use Rattle.mz_globals.specs.Scheduling.{is_load}
use Rattle.glob_order.proofs.Numbered.{numbered_more}
use Rattle.glob_sched.proofs.of_values.packing.all_loads.Goals as goal

pub loop-n-preserved : goal.loop-n-preserved
loop-n-preserved c =
    let n = get_or c.args.loads.now c.loop-n.n-index (pos 0) in
    let read = to_z-of_z w64 n (search rules) in
    let here = sym (ap (λ m. is_load c.args.things.now (to_z w128 c.loop-n.bin-bits, m)) read) ∙ sym c.is_load.ensures ∙ c.if-not-is_load.false in
    numbered_more (is_load c.args.things.now) c.args.loads.now c.loop-n.n-index (pos 0) _ _ _ _ (omega arith) c.loop-n.invariant.0 (grind (arith, ints, to_z-of_z)) here c.loop-n.invariant.1
