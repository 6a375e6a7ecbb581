use Rattle.std.proofs.Common.{◌∷◌, Some, sym, ap, ◌∙◌}
use Rattle.mz_arena_blocks.specs.Lists.{list_at}
use Rattle.mz_arena.proofs.Kept.{set_read}
use Rattle.mz_arena.proofs.Placing.{list_pushed, place_pushed, cons_subsets, cons_no_subset}
use Rattle.mz_arena.proofs.table.Table.add_subsets.Goals as goal

pub unreachable-requires : goal.unreachable-requires
unreachable-requires c = cons_no_subset c.args.self.now c.args.n.now c.requires.cons c.requires.told c.in-None.ensures

pub returns-clause-place : goal.returns-clause-place
returns-clause-place c =
    let old = c.args.self.now.subsets in
    let head = c.in_ok-head-in-Some.head in
    let list = head ∷ list_at old c.subsets_place-tail.result in
    let put = c.in_ok-place-in-Some in
    let read = c.in_ok-head-in-Some.ensures ∙ set_read c.args.self.now.sets.items c.in-Some.at c.index.result.now c.in-Some.ensures.0 c.index.ensures in
    record {
      within = place_pushed old c.push.new.self list put.place put.ensures.pushed put.ensures.place;
      is = list_pushed old c.push.new.self list put.place put.ensures.pushed put.ensures.place ∙ ap (λ us. head ∷ us) c.subsets_place-tail.ensures.is ∙ cons_subsets c.args.self.now c.args.n.now head c.requires.cons c.requires.told (c.in-Some.ensures.1 ∙ ap (λ u. Some u) (sym read));
    }
