use Rattle.std.proofs.Common.{length, sym, ap, subst}
use Rattle.mz_tree.proofs.Looks.{declaration_is}
use Rattle.mz_check_meaning.specs.Headings.{param_next}
use Rattle.mz_check_meaning.specs.Passes.{Passes}
use Rattle.mz_check_context.specs.Known.{known}
use Rattle.mz_check_exprs.specs.StepsHeadings.{parameters}
use Rattle.mz_check_exprs.proofs.Named.{written_named}
use Rattle.mz_check_exprs.proofs.headings.next_param.Goals as goal

pub param_by-requires : goal.param_by-requires
param_by-requires c = written_named (length (known c.args.context.now).texts) c.args.p.now c.requires

pub returns : goal.returns
returns c = subst (Passes (λ (u : Unit {0}). parameters c.param_by.new.all.items c.param_by.new.scope) c.param_by.result) (sym (ap (param_next (known c.args.context.now) c.args.start (parameters c.args.all.now.items c.args.scope.now)) (declaration_is c.args.p.now))) c.param_by.ensures
