use Rattle.std.proofs.Common.{◌≡◌, Bor, List, None, map, subst}
use Rattle.std.specs.List.{flat_map}
use Rattle.std.specs.Option.{option_map}
use Rattle.mz_tree.specs.declared.item.Function.{Function}
use Rattle.mz_scope_order.specs.declared.scoped.ScopedDecl.{ScopedDecl}
use Rattle.mz_scope_order.specs.Scoped.{scoped_decl, lent_function, scoped_tree}
use Rattle.mz_check_meaning.specs.Passes.{Passes}
use Rattle.mz_check_meaning.specs.Checks.{numbered, type_met, heading_met}
use Rattle.mz_check_context.specs.Known.{known}
use Rattle.mz_check.specs.StepsMeeting.{met_of, after}
use Rattle.mz_check.proofs.Refused.{types_tested}
use Rattle.mz_check.proofs.testing.test_types.Goals as goal

pub returns : goal.returns
returns c =
    let m = known c.args.context.now in
    let first = option_map met_of c.test_decls.new.first in
    let last = option_map met_of c.test_functions.new.first in
    subst (Passes (λ (u : Unit {0}). tt {0}) c.passed.result)
    (types_tested (scoped_tree c.args.scoped.now) m first last
    (subst (λ (ds : List ScopedDecl). first ≡ after None (flat_map (type_met m) (numbered (map scoped_decl ds)))) c.as_slice.ensures.value c.in_ok-test_decls.ensures)
    (subst (λ (fs : List (Bor Function)). last ≡ after first (flat_map (heading_met m) (numbered (map lent_function fs)))) c.as_slice-2.ensures.value c.in_ok-test_functions.ensures))
    c.passed.ensures
