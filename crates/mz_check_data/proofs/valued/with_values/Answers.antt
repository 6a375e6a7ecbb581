use Rattle.std.proofs.Common.{◌≡◌, ◌∙◌, List, [], ◌∷◌, map, ap, sym, subst}
use Rattle.std.proofs.lemmas.List.{nil_from_length}
use Rattle.std.specs.Vec.Iter.{into_iter_items}
use Rattle.mz_core.specs.Tree.{Decl}
use Rattle.mz_core.specs.TreeViews.{decl}
use Rattle.mz_check_data.specs.Views.{typed_item}
use Rattle.mz_check_data.specs.WithData.{with_value, AreNumbered}
use Rattle.mz_check_data.proofs.Slots.{values_later, numbered_stays, all_stay}
use Rattle.mz_check_data.proofs.valued.with_values.Goals as goal

pub loop-v-preserved : goal.loop-v-preserved
loop-v-preserved c =
    let ds = map decl c.loop-v.all.items in
    let rest = map typed_item (into_iter_items c.next.new.self) in (
      subst (λ (es : List Decl). AreNumbered es) (sym c.give_to.ensures) (numbered_stays (typed_item c.in-Some.v ∷ []) ds c.loop-v.invariant.0),
      c.loop-v.invariant.1
          ∙ ap (λ vs. map (with_value (map typed_item vs)) ds) c.in-Some.ensures.steps.0
          ∙ values_later (typed_item c.in-Some.v) rest ds
          ∙ ap (map (with_value rest)) (sym c.give_to.ensures),
    )

pub returns : goal.returns
returns c =
    let ds = map decl c.loop-v.all.items in
    let none : into_iter_items c.loop-v.v-iterator ≡ [] = nil_from_length c.loop-v.v-iterator.rest.items (sym c.loop-v.v-iterator.rest.ok.0 ∙ c.in-None.ensures.steps.0) in
    sym (c.loop-v.invariant.1 ∙ ap (λ vs. map (with_value (map typed_item vs)) ds) none ∙ all_stay ds)
