use Rattle.std.proofs.Common.{◌≡◌, map, drop}
use Rattle.std.specs.List.{list_any}
use Rattle.mz_check_meaning.specs.Lets.{is_var_item}
use Rattle.mz_check_context.specs.Views.{typed_item}
use Rattle.mz_check_context.proofs.local.some_var_item.Given as goal

abbrev pub invariant-loop-i : goal.invariant-loop-i
invariant-loop-i l = list_any is_var_item (map typed_item l.is) ≡ list_any is_var_item (map typed_item (drop l.i-index l.is))
