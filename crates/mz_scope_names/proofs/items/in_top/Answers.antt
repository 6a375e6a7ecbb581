use Rattle.std.proofs.Common.{[], ◌∷◌, ◌++◌, refl}
use Rattle.mz_tree.specs.declared.expr.Form.TheViews.{out-Decl}
use Rattle.mz_tree.specs.Views.{tree, declaration, written}
use Rattle.mz_scope_names.specs.declared.occurrence.Role.TheVariants.{Declared, Valued, Wanting}
use Rattle.mz_scope_names.specs.Roles.{occurs}
use Rattle.mz_scope_names.specs.Occurrences.{in_tree, in_written, in_top}
use Rattle.mz_scope_names.proofs.Seen.{after_both, both_on_ok, three_on_ok}
use Rattle.mz_scope_names.proofs.Declarations.{in_top_value, in_top_var, in_top_par}
use Rattle.mz_scope_names.proofs.items.in_top.Goals as goal

pub returns-in_ok-note-in-Some : goal.returns-in_ok-note-in-Some
returns-in_ok-note-in-Some c =
    let u = out-Decl c.args.d.now in
    let valued = occurs Valued u.name u.span ∷ [] in
    three_on_ok c.in_expression.result c.args.out.now.items c.in_type.new.out.items c.note.new.out.items c.in_expression.new.out.items
    (in_written (written u.ty)) (occurs Declared u.name u.span ∷ []) (valued ++ in_tree (tree c.in-Some.value)) (in_top (declaration c.args.d.now))
    c.in_ok-in_type.ensures c.in_ok-note.ensures
    (both_on_ok c.in_expression.result c.note.new.out.items c.note-in-Some.new.out.items c.in_expression.new.out.items valued (in_tree (tree c.in-Some.value)) _ c.in_ok-note-in-Some.ensures c.in_expression.ensures refl)
    (in_top_value c.args.d.now c.in-Some.value c.in-Some.is)

pub returns-then-d : goal.returns-then-d
returns-then-d c =
    let u = out-Decl c.args.d.now in
    after_both c.args.out.now.items c.in_type.new.out.items c.note.new.out.items (in_written (written u.ty)) (occurs Declared u.name u.span ∷ []) (in_top (declaration c.args.d.now))
    c.in_ok-in_type.ensures c.in_ok-note.ensures (in_top_var c.args.d.now c.in-None.is c.if-d.true)

pub returns-else-d : goal.returns-else-d
returns-else-d c =
    let u = out-Decl c.args.d.now in
    three_on_ok c.note-else-d.result c.args.out.now.items c.in_type.new.out.items c.note.new.out.items c.note-else-d.new.out.items
    (in_written (written u.ty)) (occurs Declared u.name u.span ∷ []) (occurs Wanting u.name u.span ∷ []) (in_top (declaration c.args.d.now))
    c.in_ok-in_type.ensures c.in_ok-note.ensures c.note-else-d.ensures (in_top_par c.args.d.now c.in-None.is c.if-d.false)
