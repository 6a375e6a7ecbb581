use Rattle.mz_eval_symbols.specs.StepsLacking.{AllHold, Lacks}
use Rattle.mz_eval_symbols.proofs.lacking.lacks.Given as goal

abbrev pub invariant-loop-turn : goal.invariant-loop-turn
invariant-loop-turn l = AllHold l.nodes l.claims.items → Lacks l.nodes l.o l.x
