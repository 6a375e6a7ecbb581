use Rattle.std.proofs.Common.{◌∙◌, length}
use Rattle.mz_tree.specs.Views.{declaration}
use Rattle.mz_check_meaning.specs.Headings.{param_next}
use Rattle.mz_check_context.specs.Known.{known}
use Rattle.mz_check_exprs.specs.StepsHeadings.{parameters}
use Rattle.mz_check_exprs.specs.NamedModels.{IsNamedDeclaration}
use Rattle.mz_check_exprs.proofs.Named.{named_item}
use Rattle.mz_check_exprs.proofs.Turns.{mapped_turn}
use Rattle.mz_check_exprs.proofs.headings.all_params.Goals as goal

pub next_param-requires : goal.next_param-requires
next_param-requires c = named_item (IsNamedDeclaration (length (known c.args.context.now).texts)) declaration c.args.ps.now c.loop-p.p-index c.p-item.result c.requires c.loop-p-test.true c.p-item.is

pub loop-p-preserved : goal.loop-p-preserved
loop-p-preserved c = c.loop-p.invariant ∙ mapped_turn (param_next (known c.args.context.now) c.next-start.result) declaration (parameters c.loop-p.all.items c.loop-p.scope) (parameters c.next_param.new.all.items c.next_param.new.scope) c.args.ps.now c.loop-p.p-index c.p-item.result c.loop-p-test.true c.p-item.is c.in_ok-next_param.ensures
