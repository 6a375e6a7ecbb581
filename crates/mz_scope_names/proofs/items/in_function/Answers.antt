use Rattle.std.proofs.Common.{map}
use Rattle.mz_tree.specs.Views.{tree, declaration, written}
use Rattle.mz_scope_names.specs.Occurrences.{in_tree, in_written, of_function}
use Rattle.mz_scope_names.proofs.Lists.{function_read}
use Rattle.mz_scope_names.proofs.items.in_function.Goals as goal

pub returns : goal.returns
returns c = function_read c.in_expression.result c.args.out.now.items c.in_type.new.out.items c.in_name.new.out.items c.in_parameters.new.out.items c.in_expression.new.out.items (in_written (written c.args.f.now.result)) (of_function c.args.f.now.name c.args.f.now.span (map declaration c.args.f.now.params.items)) (in_tree (tree c.args.f.now.body)) c.as_slice.result.now c.args.f.now.params.items
    c.in_ok-in_type.ensures c.in_ok-in_name.ensures c.in_ok-in_parameters.ensures c.as_slice.ensures.value c.in_expression.ensures
