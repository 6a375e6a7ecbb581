use Rattle.std.proofs.Common.{length}
use Rattle.std.specs.Option.{option_map}
use Rattle.mz_core.specs.TreeViews.{tree}
use Rattle.mz_scope_order.specs.Scoped.{lent_tree}
use Rattle.mz_check_meaning.specs.Items.{output}
use Rattle.mz_check_meaning.specs.Checks.{tree_place}
use Rattle.mz_check_context.specs.Known.{known}
use Rattle.mz_check_exprs.specs.Naming.{IsNamed}
use Rattle.mz_check_exprs.proofs.Named.{named_item}
use Rattle.mz_check.specs.StepsMeeting.{met_of}
use Rattle.mz_check.proofs.Keeping.{next_tested, end_tested}
use Rattle.mz_check.proofs.sections.outputs.Goals as goal

pub output-o-requires : goal.output-o-requires
output-o-requires c = named_item (IsNamed (length (known c.args.context.now).texts)) lent_tree c.args.es.now c.loop-e.e-index c.e-item.result c.requires c.loop-e-test.true c.e-item.is

pub loop-e-preserved : goal.loop-e-preserved
loop-e-preserved c =
    next_tested tree tree_place (output (known c.args.context.now)) lent_tree c.args.es.now c.loop-e.e-index c.e-item.result (option_map met_of c.args.first.now) (option_map met_of c.loop-e.first) (option_map met_of c.keep_tree.new.first) c.output-o.result c.expr_place.result c.loop-e.all.items c.keep_tree.new.all.items
    c.loop-e.invariant c.loop-e-test.true c.e-item.is c.output-o.ensures c.expr_place.ensures c.in_ok-keep_tree.ensures

pub returns : goal.returns
returns c = end_tested tree_place (output (known c.args.context.now)) lent_tree c.args.es.now c.loop-e.e-index (option_map met_of c.args.first.now) (option_map met_of c.loop-e.first) _ c.loop-e.invariant c.loop-e-test.false
