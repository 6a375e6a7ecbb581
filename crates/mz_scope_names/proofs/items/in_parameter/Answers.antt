use Rattle.std.proofs.Common.{[], ◌∷◌}
use Rattle.mz_tree.specs.declared.expr.Form.TheViews.{out-Decl}
use Rattle.mz_tree.specs.Views.{tree, declaration, written}
use Rattle.mz_scope_names.specs.declared.occurrence.Role.TheVariants.{Local}
use Rattle.mz_scope_names.specs.Roles.{occurs}
use Rattle.mz_scope_names.specs.Occurrences.{in_tree, in_written, in_parameter}
use Rattle.mz_scope_names.proofs.Seen.{after_both, three_on_ok}
use Rattle.mz_scope_names.proofs.Declarations.{in_parameter_value, in_parameter_alone}
use Rattle.mz_scope_names.proofs.items.in_parameter.Goals as goal

pub returns-in-Some : goal.returns-in-Some
returns-in-Some c =
    let u = out-Decl c.args.d.now in
    three_on_ok c.in_expression.result c.args.out.now.items c.in_type.new.out.items c.note.new.out.items c.in_expression.new.out.items
    (in_written (written u.ty)) (occurs Local u.name u.span ∷ []) (in_tree (tree c.in-Some.value)) (in_parameter (declaration c.args.d.now))
    c.in_ok-in_type.ensures c.in_ok-note.ensures c.in_expression.ensures (in_parameter_value c.args.d.now c.in-Some.value c.in-Some.is)

pub returns-in-None : goal.returns-in-None
returns-in-None c =
    let u = out-Decl c.args.d.now in
    after_both c.args.out.now.items c.in_type.new.out.items c.note.new.out.items (in_written (written u.ty)) (occurs Local u.name u.span ∷ []) (in_parameter (declaration c.args.d.now))
    c.in_ok-in_type.ensures c.in_ok-note.ensures (in_parameter_alone c.args.d.now c.in-None.is)
