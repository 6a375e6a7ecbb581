use Rattle.std.proofs.Common.{◌≡◌, length}
use Rattle.mz_eval_symbols.proofs.lines.repeated.Given as goal

abbrev pub invariant-loop-turn : goal.invariant-loop-turn
invariant-loop-turn l = length l.all.items ≡ l._turn
