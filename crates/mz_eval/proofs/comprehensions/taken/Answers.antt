use Rattle.mz_eval.proofs.Left.{fewer}
use Rattle.mz_eval.proofs.comprehensions.taken.Goals as goal

pub returns-clause-fewer : goal.returns-clause-fewer
returns-clause-fewer c = fewer c.args.run.now c.next_turn-o.new.run c.args.t.now c.next_turn-o.new.t c.next_turn-o.result c.sound.ensures.arena c.next_turn-o.ensures.next
