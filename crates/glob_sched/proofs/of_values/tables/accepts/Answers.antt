use Rattle.std.proofs.Common.{◌&&◌, pos, get_or, sym, ap, ◌∙◌, arith, rules, w64}
use Rattle.std.proofs.lemmas.Int.{ints, to_z-of_z}
use mir.Val.{to_z}
use Rattle.mz_globals.specs.Graphs.{is_up_to, next_state}
use Rattle.glob_sched.specs.Machines.{machine}
use Rattle.glob_sched.proofs.Steps.{accepts_more}
use Rattle.glob_sched.proofs.of_values.tables.accepts.Goals as goal

pub loop-x-preserved : goal.loop-x-preserved
loop-x-preserved c =
    let m = machine c.args.m.now in
    let q = to_z w64 c.loop-x.q-bits in
    let x = get_or c.args.xs.now c.loop-x.x-index (pos 0) in
    let read = to_z-of_z w64 x (search rules) in
    let may = sym (ap (λ y. is_up_to m.states q && is_up_to m.letters y) read) ∙ sym c.may_step.ensures ∙ c.if-not-may_step.false in
    let next = to_z-of_z w64 c.next_state-q.result (search rules) ∙ c.next_state-q.ensures ∙ ap (λ y. next_state m q y) read in
    accepts_more m c.args.xs.now c.loop-x.x-index q _ _ (omega arith) may next c.loop-x.invariant
