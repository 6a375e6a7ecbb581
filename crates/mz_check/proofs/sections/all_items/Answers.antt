use Rattle.std.proofs.Common.{Bor, List, map, subst}
use Rattle.std.specs.Option.{option_map}
use Rattle.mz_core.specs.TreeViews.{tree}
use Rattle.mz_core.specs.Program.{goal as typed_goal}
use Rattle.mz_tree.specs.declared.expr.Expr.{Expr}
use Rattle.mz_tree.specs.declared.item.Function.{Function}
use Rattle.mz_scope_order.specs.declared.scoped.ScopedDecl.{ScopedDecl}
use Rattle.mz_scope_order.specs.Scoped.{scoped_decl, lent_function, lent_tree, scoped_tree}
use Rattle.mz_check_meaning.specs.Items.{constraint, output}
use Rattle.mz_check_meaning.specs.Checks.{numbered, tree_place}
use Rattle.mz_check_context.specs.Known.{known}
use Rattle.mz_check.specs.StepsMeeting.{met_of, AreTested}
use Rattle.mz_check.specs.StepsParts.{value_of_each, body_of_each, value_at, body_at}
use Rattle.mz_check.proofs.Parting as parting
use Rattle.mz_check.proofs.sections.all_items.Goals as goal

pub returns : goal.returns
returns c =
    let m = known c.args.context.now in
    let before = option_map met_of c.args.first.now in
    let first = option_map met_of c.values.new.first in
    let second = option_map met_of c.bodies.new.first in
    let third = option_map met_of c.constraints.new.first in
    let fourth = option_map met_of c.objective.new.first in
    let last = option_map met_of c.outputs.new.first in
    parting.all_tested (scoped_tree c.args.scoped.now) m
    (record { values = map (option_map tree) c.in_ok-values.values.items; bodies = map tree c.in_ok-bodies.bodies.items; constraints = map tree c.in_ok-constraints.constraints.items; goal = typed_goal c.in_ok-goal.goal; outputs = map tree c.in_ok-outputs.outputs.items })
    before first second third fourth last
    (subst (λ (ds : List ScopedDecl). AreTested value_at (value_of_each m) (numbered (map scoped_decl ds)) before first (map (option_map tree) c.in_ok-values.values.items)) c.as_slice.ensures.value c.in_ok-values.ensures)
    (subst (λ (fs : List (Bor Function)). AreTested body_at (body_of_each m) (numbered (map lent_function fs)) first second (map tree c.in_ok-bodies.bodies.items)) c.as_slice-2.ensures.value c.in_ok-bodies.ensures)
    (subst (λ (es : List (Bor Expr)). AreTested tree_place (constraint m) (map lent_tree es) second third (map tree c.in_ok-constraints.constraints.items)) c.as_slice-3.ensures.value c.in_ok-constraints.ensures)
    c.in_ok-goal.ensures
    (subst (λ (es : List (Bor Expr)). AreTested tree_place (output m) (map lent_tree es) fourth last (map tree c.in_ok-outputs.outputs.items)) c.as_slice-4.ensures.value c.in_ok-outputs.ensures)
