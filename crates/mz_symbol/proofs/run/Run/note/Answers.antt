use Rattle.std.proofs.Common.{◌+◌, ap}
use Rattle.mz_symbol.proofs.ChoiceLaws.{counted_noted}
use Rattle.mz_symbol.proofs.run.Run.note.Goals as goal

pub invariant_of-self-2 : goal.invariant_of-self-2
invariant_of-self-2 c =
    counted_noted c.self.inside.work c.self.inside.weight c.self.inside.saved c.self.inside.arena c.self.inside.choices.items _ c.self.inside.lines.items c.args.self.now c.args.symbol c.args.set.now c.in_ok-copy.copy c.self.inside.parts _ c.self.view_is c.in_ok-copy.ensures c.in_ok-push.ensures.items c.self.invariant c.requires.nodes c.requires.domain
    (ap (λ k. c.self.inside.parts + k) c.id_count-count.ensures)
