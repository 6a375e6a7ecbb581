use Rattle.std.proofs.Common.{◌≡◌, ◌++◌, drop}
use Rattle.mz_symbol.specs.Symbols.{free_ids}
use Rattle.mz_model_state.proofs.ids.choice_ids.Given as goal

abbrev pub invariant-loop-f : goal.invariant-loop-f
invariant-loop-f l = free_ids l.choices ≡ l.all.items ++ free_ids (drop l.f-index l.choices)
