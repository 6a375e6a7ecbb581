use Rattle.std.proofs.Common.{◌∙◌, List, false, map, ap, sym}
use Rattle.mz_base.specs.Names.{text_of}
use Rattle.mz_core.specs.Tree.{Decl}
use Rattle.mz_core.specs.declared.tree.CoreDecl.{CoreDecl}
use Rattle.mz_core.specs.TreeViews.{decl}
use Rattle.mz_check_context.specs.Known.{known}
use Rattle.mz_check_exprs.specs.StepsDuplicates.{is_row_with, is_taken_before}
use Rattle.mz_check_exprs.proofs.Taken.{or_later}
use Rattle.mz_check_exprs.proofs.duplicates.is_taken.Goals as goal

pub returns : goal.returns
returns c =
    let params : List CoreDecl = c.args.h.now.params.items in
    let same = ap (λ (ds : List CoreDecl). is_taken_before (known c.args.context.now) c.args.before.now (map (λ (d : Decl). d.ty.ty) (map decl ds))) c.as_slice.ensures.value in
    or_later (is_taken_before (known c.args.context.now) c.args.before.now (map (λ (d : Decl). d.ty.ty) (map decl params)))
    (is_row_with (text_of (known c.args.context.now).texts c.args.name) (map (λ (d : Decl). d.ty.ty) (map decl params)))
    c.in_ok-row.row (sym same ∙ sym c.in_ok-taken.ensures ∙ c.if-taken.false) c.in_ok-row.ensures
