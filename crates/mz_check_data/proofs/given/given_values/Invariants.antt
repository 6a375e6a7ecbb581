use Rattle.std.proofs.Common.{◌≡◌, [], map, drop}
use Rattle.mz_scope_order.specs.Scoped.{lent_given}
use Rattle.mz_check_meaning.specs.Tests.{loop, one_more}
use Rattle.mz_check_context.specs.Known.{known}
use Rattle.mz_check_data.specs.WithData.{given_value}
use Rattle.mz_check_data.specs.Views.{typed_item}
use Rattle.mz_check_data.proofs.given.given_values.Given as goal

abbrev pub invariant-loop-item : goal.invariant-loop-item
invariant-loop-item l = loop (one_more (given_value (known l.context))) [] (map lent_given l.items) ≡ loop (one_more (given_value (known l.context))) (map typed_item l.all.items) (map lent_given (drop l.item-index l.items))
