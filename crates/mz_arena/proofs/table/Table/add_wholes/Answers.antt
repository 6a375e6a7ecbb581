use Rattle.std.proofs.Common.{◌∷◌, map, ap, ◌∙◌}
use Rattle.mz_interval.specs.Interval.{ends}
use Rattle.mz_arena_blocks.specs.Lists.{list_at}
use Rattle.mz_arena.proofs.Placing.{list_pushed, place_pushed, cons_wholes, cons_no_whole}
use Rattle.mz_arena.proofs.table.Table.add_wholes.Goals as goal

pub unreachable-requires : goal.unreachable-requires
unreachable-requires c = cons_no_whole c.args.self.now c.args.n.now c.requires.cons c.requires.told c.in-None.ensures

pub returns-clause-place : goal.returns-clause-place
returns-clause-place c =
    let old = c.args.self.now.wholes in
    let list = c.in-Some.head ∷ list_at old c.wholes_place-tail.result in
    let put = c.in_ok-place-in-Some in
    record {
      within = place_pushed old c.push.new.self list put.place put.ensures.pushed put.ensures.place;
      is = ap (map ends) (list_pushed old c.push.new.self list put.place put.ensures.pushed put.ensures.place) ∙ ap (λ es. ends c.in-Some.head ∷ es) c.wholes_place-tail.ensures.is ∙ cons_wholes c.args.self.now c.args.n.now (ends c.in-Some.head) c.requires.cons c.requires.told c.in-Some.ensures;
    }
