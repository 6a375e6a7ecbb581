use Rattle.std.proofs.Common.{length}
use Rattle.std.specs.Option.{option_map}
use Rattle.mz_core.specs.TreeViews.{tree}
use Rattle.mz_scope_order.specs.Scoped.{scoped_decl}
use Rattle.mz_check_context.specs.Known.{known}
use Rattle.mz_check_exprs.specs.NamedModels.{IsNamedDeclaration}
use Rattle.mz_check_exprs.proofs.Named.{named_item}
use Rattle.mz_check.specs.StepsMeeting.{met_of}
use Rattle.mz_check.specs.StepsParts.{value_of_each, value_at}
use Rattle.mz_check.proofs.Keeping.{next_numbered, end_numbered}
use Rattle.mz_check.proofs.sections.values.Goals as goal

pub value-v-requires : goal.value-v-requires
value-v-requires c = named_item (IsNamedDeclaration (length (known c.args.context.now).texts)) scoped_decl c.args.decls.now c.loop-k.k c.index-decls-k.result c.requires c.loop-k-test.true c.index-decls-k.is

pub loop-k-preserved : goal.loop-k-preserved
loop-k-preserved c =
    next_numbered (option_map tree) value_at (value_of_each (known c.args.context.now)) scoped_decl c.args.decls.now c.loop-k.k c.index-decls-k.result (option_map met_of c.args.first.now) (option_map met_of c.loop-k.first) (option_map met_of c.keep_value.new.first) c.value-v.result c.value_place.result c.loop-k.all.items c.keep_value.new.all.items
    c.loop-k.invariant c.loop-k-test.true c.index-decls-k.is c.value-v.ensures c.value_place.ensures c.in_ok-keep_value.ensures

pub returns : goal.returns
returns c = end_numbered value_at (value_of_each (known c.args.context.now)) scoped_decl c.args.decls.now c.loop-k.k (option_map met_of c.args.first.now) (option_map met_of c.loop-k.first) _ c.loop-k.invariant c.loop-k-test.false
