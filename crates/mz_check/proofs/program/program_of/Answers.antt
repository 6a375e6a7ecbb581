use Rattle.std.proofs.Common.{◌∙◌, ℕ, List, [], map, length, refl, ap, sym, subst}
use Rattle.std.proofs.lemmas.List.Sorted.{IsPermutation-map}
use Rattle.mz_core.specs.declared.tree.CoreDecl.{CoreDecl}
use Rattle.mz_core.specs.TreeViews.{decl}
use Rattle.mz_core.specs.Program.{goal as typed_goal, plain_program}
use Rattle.mz_scope_order.specs.declared.scoped.ScopedEnum.{ScopedEnum}
use Rattle.mz_scope_order.specs.Scoped.{scoped_tree, enum_tree}
use Rattle.mz_check_meaning.specs.Texts.{once}
use Rattle.mz_check_meaning.specs.Checks.{text_entry}
use Rattle.mz_check.specs.StepsParts.{sections_of}
use Rattle.mz_check.specs.StepsPlacing.{ArePlaces}
use Rattle.mz_check.specs.StepsProgram.{case_texts, AreBelow}
use Rattle.mz_check.proofs.Programs.{all_named, same_names, program_is}
use Rattle.mz_check.proofs.program.program_of.Goals as goal

pub texts_of-requires : goal.texts_of-requires
texts_of-requires c =
    let all = c.args.sections in
    let sorted = c.in_source_order-decls.result in
    let moved = IsPermutation-map decl all.decls.items sorted.items c.in_source_order-decls.ensures.same in
    subst (AreBelow (length c.args.names.now))
    (sym (same_names sorted.items c.as_slice-3.result.now all.functions.items c.as_slice-4.result.now all.constraints.items c.as_slice-5.result.now all.outputs.items c.as_slice-6.result.now (typed_goal all.goal) c.as_slice-3.ensures.value c.as_slice-4.ensures.value c.as_slice-5.ensures.value c.as_slice-6.ensures.value))
    (all_named (length c.args.names.now) (sections_of all) (map decl sorted.items) c.requires.texted moved)

pub returns : goal.returns
unfolding plain_program
returns c =
    let all = c.args.sections in
    let sorted = c.in_source_order-decls.result in
    program_is c.args.names.now (scoped_tree c.args.scoped.now) (sections_of all) _ c.requires.numbered (record {
      moved = IsPermutation-map decl all.decls.items sorted.items c.in_source_order-decls.ensures.same;
      ascending = c.in_source_order-decls.ensures.sorted;
      placed = subst (λ (ds : List CoreDecl). ArePlaces (map decl ds) c.in_ok-order.order.items) c.as_slice.ensures.value c.in_ok-order.ensures;
      functions = refl;
      constraints = refl;
      goal = refl;
      outputs = refl;
      cases = c.in_ok-cases.ensures ∙ ap (λ (es : List ScopedEnum). map (case_texts c.args.names.now) (map enum_tree es)) c.as_slice-2.ensures.value;
      texts = c.in_ok-texts.ensures ∙ ap (λ (ns : List ℕ). map (text_entry c.args.names.now) (once [] ns))
          (same_names sorted.items c.as_slice-3.result.now all.functions.items c.as_slice-4.result.now all.constraints.items c.as_slice-5.result.now all.outputs.items c.as_slice-6.result.now (typed_goal all.goal) c.as_slice-3.ensures.value c.as_slice-4.ensures.value c.as_slice-5.ensures.value c.as_slice-6.ensures.value);
    })
