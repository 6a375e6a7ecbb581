use Rattle.std.proofs.Common.{map, sym, subst}
use Rattle.std.specs.List.{flat_map}
use Rattle.mz_scope_order.specs.Scoped.{scoped_tree}
use Rattle.mz_scope_order.specs.Subjects.{subject}
use Rattle.mz_check_meaning.specs.Checks.{numbered, with_parameters}
use Rattle.mz_check_meaning.specs.Passes.{Passes}
use Rattle.mz_check_context.specs.Known.{known}
use Rattle.mz_check.specs.StepsParts.{sections_of}
use Rattle.mz_check.proofs.Contexts.{typed_is, named_of, checked_is}
use Rattle.mz_check.proofs.top_call.sections_in_order.Goals as goal

pub checked_sections-requires-clause-named : goal.checked_sections-requires-clause-named
checked_sections-requires-clause-named c = named_of c.args.names.now (scoped_tree c.args.scoped.now) (known c.in_ok-context.context) (flat_map with_parameters (numbered (scoped_tree c.args.scoped.now).functions)) (typed_is c.args.names.now (scoped_tree c.args.scoped.now) (map subject c.args.order.now) (known c.in_ok-context.context) c.in_ok-context.ensures) c.requires.named

pub checked_sections-requires-clause-functions : goal.checked_sections-requires-clause-functions
checked_sections-requires-clause-functions c = (typed_is c.args.names.now (scoped_tree c.args.scoped.now) (map subject c.args.order.now) (known c.in_ok-context.context) c.in_ok-context.ensures).functions_are

pub returns : goal.returns
returns c = subst (Passes sections_of c.checked_sections.result) (sym (checked_is c.args.names.now (scoped_tree c.args.scoped.now) (map subject c.args.order.now) (known c.in_ok-context.context) c.in_ok-context.ensures)) c.checked_sections.ensures
