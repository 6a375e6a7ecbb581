use Rattle.std.proofs.Common.{◌≡◌, map, drop}
use Rattle.mz_core.specs.TreeViews.{decl}
use Rattle.mz_check_meaning.specs.Items.{with_params}
use Rattle.mz_check.proofs.items.bind_params.Given as goal

abbrev pub invariant-loop-d : goal.invariant-loop-d
invariant-loop-d l = with_params (map decl l.params) l.fn.scope ≡ with_params (map decl (drop l.d-index l.params)) l.scope
