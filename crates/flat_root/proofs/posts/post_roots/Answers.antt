use Rattle.std.proofs.Common.{◌≡◌, subst, sym, ◌∙◌}
use Rattle.flat_reif.specs.States.{state}
use Rattle.flat_root.specs.Keeps.{Leads, AllTrue}
use Rattle.flat_root.specs.Marks.{AreTotalIds}
use Rattle.flat_root.specs.Totals.{AreRoots}
use Rattle.flat_root.specs.Posts.{ArePostable, all_seeds}
use Rattle.flat_root.proofs.Seeding.{all_seeds_total, roots_of, same_seeds_as}
use Rattle.flat_root.proofs.Rooting.{choices_later, flat_ready, parts_postable, roots_posted, memo_later, if_ok_weaker, if_on_ok}
use Rattle.flat_root.proofs.posts.post_roots.Goals as goal

pub all_seeds-requires : goal.all_seeds-requires
all_seeds-requires c = subst (AreRoots c.arena.result.now) (sym c.as_slice.ensures.value) (subst (λ es. AreRoots es c.in-Ok.x.items) (sym c.arena.ensures) (roots_of c.all_parts.new.flat.arena c.in-Ok.x.items c.in-Ok.ensures.totals.each))

pub flatten_for-requires-clause-ready : goal.flatten_for-requires-clause-ready
flatten_for-requires-clause-ready c = c.in-Ok.ensures.totals.ready

pub flatten_for-requires-clause-total : goal.flatten_for-requires-clause-total
flatten_for-requires-clause-total c =
    let seeds : c.in-Ok-all_seeds.x.items ≡ all_seeds c.all_parts.new.flat.arena c.in-Ok.x.items = same_seeds_as c.arena.result.now c.all_parts.new.flat.arena c.as_slice.result.now c.in-Ok.x.items c.in-Ok-all_seeds.x.items c.in-Ok-all_seeds.ensures c.arena.ensures c.as_slice.ensures.value in
    subst (AreTotalIds c.all_parts.new.flat.arena) (sym (c.as_slice-2.ensures.value ∙ seeds)) (all_seeds_total c.all_parts.new.flat.arena c.in-Ok.x.items c.in-Ok.ensures.totals.each)

pub post_parts-requires-clause-ready : goal.post_parts-requires-clause-ready
post_parts-requires-clause-ready c = flat_ready (state c.all_parts.new.flat) (state c.flatten_for.new.flat) c.in-Ok.ensures.totals.ready c.in-Ok-flatten_for.ensures.flattened

pub post_parts-requires-clause-parts : goal.post_parts-requires-clause-parts
post_parts-requires-clause-parts c =
    let seeds : c.in-Ok-all_seeds.x.items ≡ all_seeds c.all_parts.new.flat.arena c.in-Ok.x.items = same_seeds_as c.arena.result.now c.all_parts.new.flat.arena c.as_slice.result.now c.in-Ok.x.items c.in-Ok-all_seeds.x.items c.in-Ok-all_seeds.ensures c.arena.ensures c.as_slice.ensures.value in
    subst (ArePostable (state c.flatten_for.new.flat)) (sym c.as_slice-3.ensures.value)
    (parts_postable (state c.all_parts.new.flat) (state c.flatten_for.new.flat) c.in-Ok.x.items c.as_slice-2.result.now c.in-Ok.ensures.totals.each (c.as_slice-2.ensures.value ∙ seeds) c.in-Ok-flatten_for.ensures)

pub returns-clause-posted : goal.returns-clause-posted
returns-clause-posted c =
    if_ok_weaker c.post_parts.result _ _
    (λ h. roots_posted (state c.args.flat.now) (state c.all_parts.new.flat) (state c.flatten_for.new.flat) (state c.post_parts.new.flat) c.args.roots.now c.in-Ok.x.items c.in-Ok.ensures.totals c.in-Ok-flatten_for.ensures.flattened
    (subst (λ is. Leads (state c.flatten_for.new.flat) (state c.post_parts.new.flat) (AllTrue (state c.flatten_for.new.flat).es is)) c.as_slice-3.ensures.value h))
    c.post_parts.ensures

pub returns-clause-choices : goal.returns-clause-choices
returns-clause-choices c =
    if_ok_weaker c.post_parts.result _ _
    (choices_later (state c.flatten_for.new.flat) (state c.post_parts.new.flat) (AllTrue (state c.flatten_for.new.flat).es c.as_slice-3.result.now) c.in-Ok-flatten_for.ensures.choices)
    c.post_parts.ensures

pub returns-clause-memo : goal.returns-clause-memo
returns-clause-memo c =
    if_on_ok c.post_parts.result _ _
    (λ h. memo_later (state c.all_parts.new.flat) (state c.flatten_for.new.flat) (state c.post_parts.new.flat) (AllTrue (state c.flatten_for.new.flat).es c.as_slice-3.result.now) c.all_parts.new.memo c.in-Ok.ensures.totals.ready c.in-Ok-flatten_for.ensures.flattened h c.in-Ok.ensures.memo)
    c.post_parts.ensures
