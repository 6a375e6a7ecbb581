use Rattle.std.proofs.Common.{map}
use Rattle.std.specs.List.{flat_map}
use Rattle.mz_scope_order.specs.Scoped.{scoped_tree}
use Rattle.mz_scope_order.specs.Subjects.{subject}
use Rattle.mz_check_meaning.specs.Checks.{numbered, with_parameters}
use Rattle.mz_check_context.specs.Known.{known}
use Rattle.mz_check.proofs.Contexts.{first_is, named_of, first_new}
use Rattle.mz_check.proofs.context.typed_context.Goals as goal

pub with_types-requires-clause-named : goal.with_types-requires-clause-named
with_types-requires-clause-named c = named_of c.args.names.now (scoped_tree c.args.scoped.now) (known c.in_ok-context.context) (flat_map with_parameters (numbered (scoped_tree c.args.scoped.now).functions)) (first_is c.args.names.now (scoped_tree c.args.scoped.now) (known c.in_ok-context.context) c.in_ok-context.ensures) c.requires.named

pub with_types-requires-clause-new : goal.with_types-requires-clause-new
with_types-requires-clause-new c = first_new c.args.names.now (scoped_tree c.args.scoped.now) (map subject c.args.order.now) (known c.in_ok-context.context) c.in_ok-context.ensures c.requires.order
