use Rattle.std.proofs.Common.{List, map, sym, subst}
use Rattle.mz_scope_order.specs.declared.subject.Subject.{Subject}
use Rattle.mz_scope_order.specs.Scoped.{scoped_tree}
use Rattle.mz_scope_order.specs.Subjects.{subject, IsOrderOf}
use Rattle.mz_check.specs.StepsParts.{sections_of}
use Rattle.mz_check.proofs.Answered.{refused_by}
use Rattle.mz_check.proofs.Contexts.{checked_numbered, checked_named}
use Rattle.mz_check.proofs.top_call.check.Goals as goal

pub sections_in_order-requires-clause-order : goal.sections_in_order-requires-clause-order
sections_in_order-requires-clause-order c = subst (λ (xs : List Subject). IsOrderOf (scoped_tree c.args.scoped.now) (map subject xs)) (sym c.as_slice.ensures.value) c.requires.ordered

pub returns-in_err-sections-clause-refused : goal.returns-in_err-sections-clause-refused
returns-in_err-sections-clause-refused c =
    let order = subst (λ (xs : List Subject). IsOrderOf (scoped_tree c.args.scoped.now) (map subject xs)) (sym c.as_slice.ensures.value) c.requires.ordered in
    refused_by c.args.names.now (scoped_tree c.args.scoped.now) (map subject c.as_slice.result.now) c.from_residual.result c.in_err-sections.field-0.0 c.from_residual.ensures.1 order c.in_err-sections.ensures

pub program_of-requires-clause-texted : goal.program_of-requires-clause-texted
program_of-requires-clause-texted c =
    let order = subst (λ (xs : List Subject). IsOrderOf (scoped_tree c.args.scoped.now) (map subject xs)) (sym c.as_slice.ensures.value) c.requires.ordered in
    checked_named c.args.names.now (scoped_tree c.args.scoped.now) (map subject c.as_slice.result.now) (sections_of c.in_ok-sections.sections) c.requires.named order c.in_ok-sections.ensures

pub program_of-requires-clause-numbered : goal.program_of-requires-clause-numbered
program_of-requires-clause-numbered c = checked_numbered c.args.names.now (scoped_tree c.args.scoped.now) (map subject c.as_slice.result.now) (sections_of c.in_ok-sections.sections) c.in_ok-sections.ensures

pub returns-clause-checks : goal.returns-clause-checks
returns-clause-checks c =
    let order = subst (λ (xs : List Subject). IsOrderOf (scoped_tree c.args.scoped.now) (map subject xs)) (sym c.as_slice.ensures.value) c.requires.ordered in
    record { order = map subject c.as_slice.result.now; types = order.types; all = sections_of c.in_ok-sections.sections; are = c.in_ok-sections.ensures; program = c.in_ok-program.ensures }
