use Rattle.std.proofs.Common.{◌≡◌, drop}
use Rattle.mz_scope_names.specs.Uses.{with_bound}
use Rattle.mz_scope_names.proofs.use_walk.hide_bound.Given as goal

abbrev pub invariant-loop-name : goal.invariant-loop-name
invariant-loop-name l = with_bound l.fn.hidden l.names ≡ with_bound l.hidden (drop l.name-index l.names)
