use Rattle.std.proofs.Common.{Bor, Option, ap, refl, sym}
use Rattle.std.specs.Option.{option_map}
use Rattle.mz_tree.specs.declared.item.Goal.{Goal}
use Rattle.mz_scope_order.specs.Scoped.{asked}
use Rattle.mz_check_meaning.specs.Checks.{goal_place}
use Rattle.mz_check_context.specs.Known.{known}
use Rattle.mz_check.specs.StepsMeeting.{met_of}
use Rattle.mz_check.proofs.Keeping.{none_asked}
use Rattle.mz_check.proofs.sections.objective.Goals as goal

pub returns-in-None : goal.returns-in-None
returns-in-None c =
    none_asked (known c.args.context.now) (asked c.args.g) (option_map met_of c.args.first.now) (option_map met_of c.args.first.now)
    (ap (λ (g : Option (Bor Goal)). goal_place (asked g)) (sym c.in-None.is)) refl
