use Rattle.mz_operations.specs.declared.row.SetOp.TheVariants.{Diff}
use Rattle.mz_operations.specs.Bounds.{combined_upper}
use Rattle.mz_arena.specs.Tables.{known, set_at}
use Rattle.mz_arena.proofs.Kept.{set_extent_of}
use Rattle.mz_arena.proofs.table.Table.diff.Goals as goal

pub returns-clause-told : goal.returns-clause-told
unfolding combined_upper
returns-clause-told c =
    let p = c.in_ok-k.ensures in
    record {
      within = p.first;
      is = set_extent_of Diff (known c.args.self.now c.args.a) (known c.args.self.now c.args.b) (set_at c.args.self.now.sets.items c.in_ok-k.k) (set_at c.args.self.now.sets.items c.in_ok-k.field-0-1) p.is_first p.is_second;
    }
