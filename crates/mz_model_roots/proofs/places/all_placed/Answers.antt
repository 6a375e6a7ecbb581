use Rattle.std.proofs.Common.{◌≡◌, ◌∙◌, [], List, refl, sym, ap, subst}
use Rattle.std.proofs.lemmas.List.{nil_from_length}
use Rattle.std.specs.Vec.Iter.{into_iter_items}
use Rattle.mz_value.specs.Ranges.{Range}
use Rattle.mz_model_roots.specs.StepsPlaces.{AreSoFar}
use Rattle.mz_model_roots.proofs.NextPlaces.{places_more, makes_some, places_all, makes_all}
use Rattle.mz_model_roots.proofs.places.all_placed.Goals as goal

pub loop-set-preserved : goal.loop-set-preserved
loop-set-preserved c =
    let before = subst (λ (us : List (List Range)). AreSoFar c.args.run.now c.loop-set.run c.args.number c.loop-set.next c.args.base c.args.opt c.args.sets.items us c.loop-set.all.items) c.in-Some.ensures.steps.0 c.loop-set.invariant in
    subst (λ fs. AreSoFar c.args.run.now c.placed.new.run c.args.number c.in_ok-next.next c.args.base c.args.opt c.args.sets.items (into_iter_items c.next.new.self) fs) (sym c.in_ok-push.ensures.items)
    (places_more c.args.run.now c.loop-set.run c.placed.new.run c.args.number c.loop-set.next c.in_ok-next.next c.args.base c.args.opt c.args.sets.items (into_iter_items c.next.new.self) c.in-Some.set c.loop-set.all.items c.in_ok-place.place before c.in_ok-place.ensures.makes c.in_ok-place.ensures.place c.in_ok-next.ensures)
