use Rattle.std.proofs.Common.{sym, subst, length}
use Rattle.mz_core.specs.TreeViews.{declared_type}
use Rattle.mz_check_meaning.specs.Passes.{Passes}
use Rattle.mz_check_context.specs.Known.{known}
use Rattle.mz_check_exprs.proofs.Layers.{type_is}
use Rattle.mz_check_exprs.proofs.NamingLaws.{type_named}
use Rattle.mz_check_exprs.proofs.written.check_written.Goals as goal

pub check_type-requires : goal.check_type-requires
check_type-requires c = type_named (length (known c.args.context.now).texts) c.args.t.now c.requires

pub returns-clause-passes : goal.returns-clause-passes
returns-clause-passes c = subst (Passes declared_type c.check_type.result) (sym (type_is (known c.args.context.now) c.args.t.now c.args.scope.now)) c.check_type.ensures.passes
