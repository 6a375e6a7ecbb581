use Rattle.std.proofs.Common.{◌∙◌, sym}
use Rattle.std.specs.Option.{option_map}
use Rattle.mz_scope_order.specs.Scoped.{scoped_tree}
use Rattle.mz_check_meaning.specs.Checks.{none_met, items_met}
use Rattle.mz_check_context.specs.Known.{known}
use Rattle.mz_check_forms.proofs.Passing.{stops}
use Rattle.mz_check.specs.declared.parts.TypedItems.{TypedItems}
use Rattle.mz_check.specs.StepsMeeting.{met_of, test_of}
use Rattle.mz_check.specs.StepsParts.{parts}
use Rattle.mz_check.proofs.Meeting.{test_passed}
use Rattle.mz_check.proofs.Parting.{items_tested}
use Rattle.mz_check.proofs.sections.typed_items.Goals as goal

pub returns-in_err-passed-clause-met : goal.returns-in_err-passed-clause-met
returns-in_err-passed-clause-met c =
    let last = option_map met_of c.all_items.new.first in
    let same = items_tested (scoped_tree c.args.scoped.now) (known c.args.context.now) last (parts c.in_ok-items.items) c.in_ok-items.ensures in
    stops (λ (u : Unit {0}). tt {0}) (λ (v : TypedItems). tt {0}) c.from_residual-in_err-passed.result c.in_err-passed.field-0.0 (test_of last) (none_met (items_met (scoped_tree c.args.scoped.now) (known c.args.context.now)))
    c.from_residual-in_err-passed.ensures.1 (λ f h. sym same ∙ h) c.in_err-passed.ensures

pub returns-clause-met : goal.returns-clause-met
returns-clause-met c = sym (items_tested (scoped_tree c.args.scoped.now) (known c.args.context.now) (option_map met_of c.all_items.new.first) (parts c.in_ok-items.items) c.in_ok-items.ensures) ∙ c.in_ok-passed.ensures

pub returns-clause-typed : goal.returns-clause-typed
returns-clause-typed c = c.in_ok-items.ensures.typed (test_passed (option_map met_of c.all_items.new.first) c.in_ok-passed.ensures)
