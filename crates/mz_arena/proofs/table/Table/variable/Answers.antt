use Rattle.std.proofs.Common.{ap, sym, ◌∙◌, subst}
use Rattle.mz_operations.specs.Bounds.{hull_of_set}
use Rattle.mz_arena.specs.Extents.{Known, marked}
use Rattle.mz_arena.specs.Tables.{known, set_at, TellsIn}
use Rattle.mz_arena.proofs.Kept.{variable_extent_of, no_variable, set_read}
use Rattle.mz_arena.proofs.table.Table.variable.Goals as goal

pub returns-in_err-k-clause-told : goal.returns-in_err-k-clause-told
returns-in_err-k-clause-told c = rw c.from_residual.ensures (no_variable c.args.mark (known c.args.self.now c.args.a) c.in_err-k.ensures)

pub returns-clause-told : goal.returns-clause-told
returns-clause-told c =
    let read = set_read c.args.self.now.sets.items c.in_ok-k.k c.index.result.now c.in_ok-k.ensures.0 c.index.ensures in
    let same = variable_extent_of c.args.mark (known c.args.self.now c.args.a) (set_at c.args.self.now.sets.items c.in_ok-k.k) c.in_ok-k.ensures.1 in
    subst (λ (x : Known). TellsIn c.args.self.now c.marked.result x) (sym (same ∙ ap (λ u. marked c.args.mark (hull_of_set u)) (sym read) ∙ ap (marked c.args.mark) (sym c.hull.ensures))) (c.marked.ensures.told c.args.self.now.sets.items)
