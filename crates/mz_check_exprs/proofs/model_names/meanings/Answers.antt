use Rattle.std.proofs.Common.{◌∙◌, ℕ, List, ◌++◌, map, ap, sym, subst}
use Rattle.std.specs.List.{flat_map}
use Rattle.mz_scope_order.specs.Scoped.{scoped_decl, lent_function, scoped_tree, enum_tree, AreDistinct}
use Rattle.mz_check_meaning.specs.declared.meaning.Meaning.{Meaning}
use Rattle.mz_check_meaning.specs.Checks.{numbered, enum_meanings, decl_meaning, bare_meaning}
use Rattle.mz_check_exprs.proofs.Apart.{names, all_named, all_added}
use Rattle.mz_check_exprs.proofs.model_names.meanings.Goals as goal

pub of-requires : goal.of-requires
of-requires c =
    let is = c.as_slice-4.ensures.value ∙ all_added (scoped_tree c.args.scoped.now) c.new-all.result.items c.add_enums.new.all.items c.add_decls.new.all.items c.add_all_bare.new.all.items c.new-all.ensures.items
    (c.in_ok-add_enums.ensures ∙ ap (λ es. c.new-all.result.items ++ flat_map enum_meanings (numbered (map enum_tree es))) c.as_slice.ensures.value)
    (c.in_ok-add_decls.ensures ∙ ap (λ ds. c.add_enums.new.all.items ++ map decl_meaning (numbered (map scoped_decl ds))) c.as_slice-2.ensures.value)
    (c.in_ok-add_all_bare.ensures ∙ ap (λ fs. c.add_decls.new.all.items ++ flat_map bare_meaning (numbered (map lent_function fs))) c.as_slice-3.ensures.value) in
    subst (λ (ns : List ℕ). AreDistinct ns) (sym (ap (λ (es : List (ℕ × Meaning)). names es) is ∙ all_named (scoped_tree c.args.scoped.now))) c.requires
