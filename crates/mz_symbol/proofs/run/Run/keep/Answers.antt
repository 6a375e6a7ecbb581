use Rattle.mz_symbol.proofs.LineLaws.{counted_line}
use Rattle.mz_symbol.proofs.run.Run.keep.Goals as goal

pub invariant_of-self-2 : goal.invariant_of-self-2
invariant_of-self-2 c = counted_line c.self.inside.work c.self.inside.weight c.self.inside.saved c.self.inside.arena c.self.inside.choices.items c.self.inside.lines.items _ c.args.self.now c.args.line c.self.inside.parts c.self.view_is c.in_ok-push.ensures.items c.requires c.self.invariant
