use Rattle.mz_symbol.proofs.RunLaws.{counted_later}
use Rattle.mz_symbol.proofs.run.Run.set_node.Goals as goal

pub invariant_of-self : goal.invariant_of-self
invariant_of-self c = counted_later c.self.inside.arena _ c.self.inside.choices.items c.self.inside.lines.items c.self.inside.parts c.set_const-made.ensures.extends.grew c.len-count.ensures.arena c.self.invariant
