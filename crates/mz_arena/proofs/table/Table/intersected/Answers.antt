use Rattle.mz_operations.specs.declared.row.SetOp.TheVariants.{Intersect}
use Rattle.mz_operations.specs.Sets.{intersection}
use Rattle.mz_operations.specs.Bounds.{combined_upper}
use Rattle.mz_arena.specs.Tables.{known, set_at}
use Rattle.mz_arena.proofs.Kept.{set_extent_of, put_told}
use Rattle.mz_arena.proofs.table.Table.intersected.Goals as goal

pub returns-clause-told : goal.returns-clause-told
unfolding combined_upper
returns-clause-told c =
    let u = set_at c.args.self.now.sets.items c.in-Some.k in
    let w = set_at c.args.self.now.sets.items c.in-Some.m in
    put_told c.shared.new.self c.in_ok-place.place (intersection u w) _ c.in_ok-place.ensures.put
    (set_extent_of Intersect (known c.args.self.now c.args.a) (known c.args.self.now c.args.b) u w c.in-Some.ensures.is_first c.in-Some.ensures.is_second)
