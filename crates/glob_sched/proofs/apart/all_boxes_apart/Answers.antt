use Rattle.std.proofs.Common.{◌≡◌, ◌∙◌, ◌*◌, zip, subst}
use Rattle.mz_globals.specs.Lists.{pairwise}
use Rattle.mz_symbol.specs.Makes.{GoesOnBy}
use Rattle.glob_nodes.specs.Says.{Tells, pair_count}
use Rattle.glob_nodes.proofs.Saying.{ok_so}
use Rattle.glob_nodes.proofs.IntegerNodes.{stays}
use Rattle.glob_nodes.proofs.Several.{same_two}
use Rattle.glob_sched.specs.Senses.{are_boxes_apart}
use Rattle.glob_sched.proofs.apart.all_boxes_apart.Goals as goal

pub returns-in_err-in_x-clause-goes : goal.returns-in_err-in_x-clause-goes
returns-in_err-in_x-clause-goes c = stays _ c.args.run.now

pub returns-in_err-in_y-clause-goes : goal.returns-in_err-in_y-clause-goes
returns-in_err-in_y-clause-goes c = stays _ c.args.run.now

pub returns-in_err-boxes-clause-goes : goal.returns-in_err-boxes-clause-goes
returns-in_err-boxes-clause-goes c = stays _ c.args.run.now

pub returns-clause-goes : goal.returns-clause-goes
returns-clause-goes c =
    let first : c.deref-5.result.now ≡ zip c.args.x.now.items.items c.args.dx.now.items.items = c.deref-5.ensures.value ∙ c.in_ok-in_x.ensures ∙ same_two zip c.deref.result.now c.args.x.now.items.items c.deref-2.result.now c.args.dx.now.items.items c.deref.ensures.value c.deref-2.ensures.value in
    let second : c.deref-6.result.now ≡ zip c.args.y.now.items.items c.args.dy.now.items.items = c.deref-6.ensures.value ∙ c.in_ok-in_y.ensures ∙ same_two zip c.deref-3.result.now c.args.y.now.items.items c.deref-4.result.now c.args.dy.now.items.items c.deref-3.ensures.value c.deref-4.ensures.value in
    subst (λ ts. GoesOnBy (64 * pair_count ts) c.args.run.now c.each_two.new.run) (c.deref-7.ensures.value ∙ c.in_ok-boxes.ensures ∙ same_two zip c.deref-5.result.now (zip c.args.x.now.items.items c.args.dx.now.items.items) c.deref-6.result.now (zip c.args.y.now.items.items c.args.dy.now.items.items) first second) c.each_two.ensures.goes

pub returns-clause-tells : goal.returns-clause-tells
returns-clause-tells c =
    let first : c.deref-5.result.now ≡ zip c.args.x.now.items.items c.args.dx.now.items.items = c.deref-5.ensures.value ∙ c.in_ok-in_x.ensures ∙ same_two zip c.deref.result.now c.args.x.now.items.items c.deref-2.result.now c.args.dx.now.items.items c.deref.ensures.value c.deref-2.ensures.value in
    let second : c.deref-6.result.now ≡ zip c.args.y.now.items.items c.args.dy.now.items.items = c.deref-6.ensures.value ∙ c.in_ok-in_y.ensures ∙ same_two zip c.deref-3.result.now c.args.y.now.items.items c.deref-4.result.now c.args.dy.now.items.items c.deref-3.ensures.value c.deref-4.ensures.value in
    ok_so c.each_two.result c.each_two.ensures.tells (λ id t. subst (λ ts. Tells c.args.run.now c.each_two.new.run (λ r. pairwise (are_boxes_apart r) ts) id) (c.deref-7.ensures.value ∙ c.in_ok-boxes.ensures ∙ same_two zip c.deref-5.result.now (zip c.args.x.now.items.items c.args.dx.now.items.items) c.deref-6.result.now (zip c.args.y.now.items.items c.args.dy.now.items.items) first second) t)
