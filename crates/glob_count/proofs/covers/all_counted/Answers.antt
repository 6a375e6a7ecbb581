use Rattle.std.proofs.Common.{◌≡◌, ◌∙◌, ◌+◌, ◌*◌, length, zip, subst}
use Rattle.std.specs.List.{list_all}
use Rattle.mz_symbol.specs.Makes.{GoesOnBy}
use Rattle.glob_nodes.specs.Says.{Tells}
use Rattle.glob_nodes.proofs.Saying.{ok_so}
use Rattle.glob_nodes.proofs.IntegerNodes.{stays}
use Rattle.glob_nodes.proofs.Several.{same_two}
use Rattle.glob_count.specs.Senses.{is_count}
use Rattle.glob_count.proofs.covers.all_counted.Goals as goal

pub returns-in_err-pairs-clause-goes : goal.returns-in_err-pairs-clause-goes
returns-in_err-pairs-clause-goes c = stays _ c.args.run.now

pub returns-clause-goes : goal.returns-clause-goes
returns-clause-goes c =
    let pairs : c.deref-4.result.now ≡ zip c.args.cover.now.items.items c.args.counts.now.items.items = c.deref-4.ensures.value ∙ c.in_ok-pairs.ensures ∙ same_two zip c.deref.result.now c.args.cover.now.items.items c.deref-2.result.now c.args.counts.now.items.items c.deref.ensures.value c.deref-2.ensures.value in
    subst (λ ps. GoesOnBy ((14 * length c.args.xs.now.items.items + 6 + 6) * length ps) c.args.run.now c.each_counted.new.run) pairs
    (subst (λ ids. GoesOnBy ((14 * length ids + 6 + 6) * length c.deref-4.result.now) c.args.run.now c.each_counted.new.run) c.deref-3.ensures.value c.each_counted.ensures.goes)

pub returns-clause-tells : goal.returns-clause-tells
returns-clause-tells c =
    let pairs : c.deref-4.result.now ≡ zip c.args.cover.now.items.items c.args.counts.now.items.items = c.deref-4.ensures.value ∙ c.in_ok-pairs.ensures ∙ same_two zip c.deref.result.now c.args.cover.now.items.items c.deref-2.result.now c.args.counts.now.items.items c.deref.ensures.value c.deref-2.ensures.value in
    ok_so c.each_counted.result c.each_counted.ensures.tells (λ id t. subst (λ ps. Tells c.args.run.now c.each_counted.new.run (λ r. list_all (λ p. is_count r c.args.xs.now.items.items p) ps) id) pairs
    (subst (λ ids. Tells c.args.run.now c.each_counted.new.run (λ r. list_all (λ p. is_count r ids p) c.deref-4.result.now) id) c.deref-3.ensures.value t))
