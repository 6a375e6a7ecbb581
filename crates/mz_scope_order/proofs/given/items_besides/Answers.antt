use Rattle.std.proofs.Common.{ap, sym, ◌∙◌, map}
use Rattle.mz_tree.specs.Data.{given}
use Rattle.mz_scope_names.specs.Sets.{holds}
use Rattle.mz_scope_order.specs.Parts.{unless}
use Rattle.mz_scope_order.specs.Scoped.{lent_given}
use Rattle.mz_scope_order.proofs.NameTables.{all_done}
use Rattle.mz_scope_order.proofs.Picking.{one_picked, picked, passed}
use Rattle.mz_scope_order.proofs.given.items_besides.Goals as goal
use Rattle.mz_scope_order.proofs.given.items_besides.Goals.{then-not-has+in_ok-push, else-not-has}

pub loop-d-preserved : goal.loop-d-preserved
loop-d-preserved c =
    let d = c.d-item.result in
    let done = map lent_given c.loop-d.out.items in
    let now = map lent_given c.if-not-has.out.items in
    let gives = unless (holds d.name c.args.names.now) (given d) in
    sym (one_picked (λ x. unless (holds x.name c.args.names.now) (given x)) c.args.items.now c.loop-d.d-index d _ done now (sym c.loop-d.invariant) c.loop-d-test.true c.d-item.is
    (elim c.if-not-has.branch [
      | then-not-has+in_ok-push w ↦ picked lent_given c.loop-d.out.items c.if-not-has.out.items _ gives (ap (λ v. v.items) w.out-is ∙ w.in_ok-push.ensures.items) (ap (λ b. unless b (given d)) (sym c.has.ensures ∙ w.if-not-has.true))
      | else-not-has w ↦ passed done now gives (ap (λ v. map lent_given v.items) w.out-is) (ap (λ b. unless b (given d)) (sym c.has.ensures ∙ w.if-not-has.false))
    ]))

pub returns : goal.returns
returns c = all_done (λ x. unless (holds x.name c.args.names.now) (given x)) c.args.items.now c.loop-d.d-index (map lent_given c.loop-d.out.items) c.loop-d.invariant c.loop-d-test.false
