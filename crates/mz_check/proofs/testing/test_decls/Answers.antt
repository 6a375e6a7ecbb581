use Rattle.std.proofs.Common.{Bor}
use Rattle.std.specs.Option.{option_map}
use Rattle.mz_core.specs.declared.tree.CoreType.{CoreType}
use Rattle.mz_core.specs.TreeViews.{declared_type}
use Rattle.mz_scope_order.specs.Parts.{place_of}
use Rattle.mz_scope_order.specs.Scoped.{scoped_decl}
use Rattle.mz_check_meaning.specs.Models.{type_of_decl}
use Rattle.mz_check_meaning.specs.Checks.{type_met}
use Rattle.mz_check_context.specs.Known.{known}
use Rattle.mz_check.specs.StepsMeeting.{met_of}
use Rattle.mz_check.proofs.Refused.{one_met, next_met, all_met}
use Rattle.mz_check.proofs.testing.test_decls.Goals as goal

pub loop-k-preserved : goal.loop-k-preserved
loop-k-preserved c =
    let m = known c.args.context.now in
    let d = scoped_decl c.index-decls-k.result in
    let first = option_map met_of c.loop-k.first in
    let next = option_map met_of c.note_type.new.first in
    next_met (type_met m) scoped_decl c.args.decls.now c.loop-k.k c.index-decls-k.result _ first next c.loop-k.invariant c.loop-k-test.true c.index-decls-k.is
    (one_met (λ (t : Bor CoreType). declared_type t.now) c.type_of_decl-t.result (type_of_decl m (place_of d) c.loop-k.k) (place_of d) first next c.type_of_decl-t.ensures c.in_ok-note_type.ensures)

pub returns : goal.returns
returns c = all_met (type_met (known c.args.context.now)) scoped_decl c.args.decls.now c.loop-k.k _ (option_map met_of c.loop-k.first) c.loop-k.invariant c.loop-k-test.false
