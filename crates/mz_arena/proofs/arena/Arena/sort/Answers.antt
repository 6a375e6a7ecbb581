use Rattle.std.proofs.Common.{List, subst, sym, ap, ◌∙◌, IsSome}
use Rattle.mz_arena.specs.Entries.{Entry}
use Rattle.mz_arena.specs.Extents.{extent, sort_of}
use Rattle.mz_arena.specs.Arenas.{IsArena}
use Rattle.mz_arena.specs.Tables.{known}
use Rattle.mz_arena.proofs.Telling.{sort_told, has_sort}
use Rattle.mz_arena.proofs.Growing.{extent_there}
use Rattle.mz_arena.proofs.arena.Arena.sort.Goals as goal

pub unreachable-requires : goal.unreachable-requires
unreachable-requires c =
    let table = c.self.inside.table in
    let arena = subst (λ (es : List Entry). IsArena es) c.self.view_is c.self.invariant.table.arena in
    let there = subst (λ (es : List Entry). IsSome (extent es c.args.id)) (sym c.self.view_is) (extent_there c.args.self.now c.args.id arena c.requires) in
    has_sort (known table c.args.id) there (sym (sort_told table.sets.items c.reach.result (known table c.args.id) c.reach.ensures) ∙ sym c.sort_in.ensures ∙ c.in-None.is)

pub returns : goal.returns
returns c =
    let table = c.self.inside.table in
    ap (λ (es : List Entry). sort_of (extent es c.args.id)) (sym c.self.view_is) ∙ sym (sort_told table.sets.items c.reach.result (known table c.args.id) c.reach.ensures) ∙ sym c.sort_in.ensures ∙ c.in-Some.is
