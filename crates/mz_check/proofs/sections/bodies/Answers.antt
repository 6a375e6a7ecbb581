use Rattle.std.proofs.Common.{length}
use Rattle.std.specs.Option.{option_map}
use Rattle.mz_core.specs.TreeViews.{tree}
use Rattle.mz_scope_order.specs.Scoped.{lent_function}
use Rattle.mz_check_context.specs.Known.{known}
use Rattle.mz_check_exprs.specs.NamedModels.{IsNamedFunction}
use Rattle.mz_check_exprs.proofs.Named.{named_item}
use Rattle.mz_check.specs.StepsMeeting.{met_of}
use Rattle.mz_check.specs.StepsParts.{body_of_each, body_at}
use Rattle.mz_check.proofs.Keeping.{next_numbered, end_numbered}
use Rattle.mz_check.proofs.sections.bodies.Goals as goal

pub body-b-requires : goal.body-b-requires
body-b-requires c = named_item (IsNamedFunction (length (known c.args.context.now).texts)) lent_function c.args.functions.now c.loop-k.k c.index-functions-k.result c.requires c.loop-k-test.true c.index-functions-k.is

pub loop-k-preserved : goal.loop-k-preserved
loop-k-preserved c =
    next_numbered tree body_at (body_of_each (known c.args.context.now)) lent_function c.args.functions.now c.loop-k.k c.index-functions-k.result (option_map met_of c.args.first.now) (option_map met_of c.loop-k.first) (option_map met_of c.keep_tree.new.first) c.body-b.result c.expr_place.result c.loop-k.all.items c.keep_tree.new.all.items
    c.loop-k.invariant c.loop-k-test.true c.index-functions-k.is c.body-b.ensures c.expr_place.ensures c.in_ok-keep_tree.ensures

pub returns : goal.returns
returns c = end_numbered body_at (body_of_each (known c.args.context.now)) lent_function c.args.functions.now c.loop-k.k (option_map met_of c.args.first.now) (option_map met_of c.loop-k.first) _ c.loop-k.invariant c.loop-k-test.false
