use Rattle.mz_symbol.proofs.ConsLaws.{mark_counted, mark_marked}
use Rattle.mz_symbol.proofs.run.Run.mark.Goals as goal

pub invariant_of-self : goal.invariant_of-self
invariant_of-self c = mark_counted c.self.inside.work c.self.inside.weight c.self.inside.saved c.self.inside.arena c.self.inside.choices.items c.self.inside.lines.items c.args.self.now c.args.line c.self.inside.parts c.args.listing c.index_mut.result.now c.self.view_is c.requires.listed c.index_mut.ensures.value c.self.invariant

pub returns : goal.returns
returns c = mark_marked c.self.inside.work c.self.inside.weight c.self.inside.saved c.self.inside.arena c.self.inside.choices.items c.self.inside.lines.items c.args.self.now c.args.line c.args.listing c.index_mut.result.now c.self.view_is c.index_mut.ensures.value
