use Rattle.std.proofs.Common.{ap, sym, ◌∙◌}
use Rattle.std.specs.Ordering.{int_eq}
use Rattle.std.specs.Prelude.{pos}
use Rattle.mz_arena.proofs.Pushed.{length_seen}
use Rattle.mz_arena.proofs.arena.Arena.is_own.Goals as goal

pub returns : goal.returns
returns c =
    let h = length_seen c.self.inside.table.sets.items c.self.inside.table.stored.items c.args.self.now c.self.view_is in
    c.is_id.ensures ∙ ap (λ k. int_eq c.args.n.now.number (pos k)) (c.len.ensures ∙ c.self.inside.table.stored.ok.0 ∙ sym h)
