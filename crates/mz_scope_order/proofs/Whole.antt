-- All parts of a model with its data.
use Rattle.std.proofs.Common.{◌≡◌, List, map, refl, sym, ap, ◌∙◌}
use Rattle.std.specs.List.{flat_map}
use Rattle.mz_tree.specs.declared.source.SourceFile.{SourceFile}
use Rattle.mz_tree.specs.declared.data.DataItem.{DataItem}
use Rattle.mz_tree.specs.Items.{item}
use Rattle.mz_tree.specs.Data.{given}
use Rattle.mz_scope_names.specs.Sets.{holds}
use Rattle.mz_scope_names.specs.StepsWalk.{items_of}
use Rattle.mz_scope_names.proofs.Gathered.{files_flat}
use Rattle.mz_scope_order.specs.declared.parts.ModelParts.{ModelParts}
use Rattle.mz_scope_order.specs.declared.scoped.ScopedEnum.{ScopedEnum}
use Rattle.mz_scope_order.specs.Parts.{decls_of, function_in, functions_of, constraint_in, output_in, goal_of, enums_of, unless, given_of}
use Rattle.mz_scope_order.specs.Scoped.{enum_tree, scoped_decl, asked, lent_function, lent_tree, lent_given, parts_tree, source_parts}
use Rattle.mz_scope_order.proofs.GatheringItems.{given_are}

pub parts_are : (p : ModelParts) (fs gs : List SourceFile) (ds es : List DataItem) (ns : List ScopedEnum) → gs ≡ fs → es ≡ ds → ns ≡ p.enums.items
    → map enum_tree p.enums.items ≡ enums_of (items_of gs) (map given es)
    → map scoped_decl p.decls.items ≡ decls_of (items_of gs)
    → map lent_function p.functions.items ≡ flat_map (λ f. flat_map (λ i. function_in (item i)) f.items.items) gs
    → map lent_tree p.constraints.items ≡ flat_map (λ f. flat_map (λ i. constraint_in (item i)) f.items.items) gs
    → asked p.goal ≡ goal_of (items_of gs)
    → map lent_tree p.outputs.items ≡ flat_map (λ f. flat_map (λ i. output_in (item i)) f.items.items) gs
    → map lent_given p.given.items ≡ flat_map (λ d. unless (holds d.name (map (λ e. e.name) ns)) (given d)) es
    → parts_tree p ≡ source_parts (items_of fs) (map given ds)
parts_are p fs gs ds es ns a b n enums decls functions constraints goal_is outputs given_is =
    let e1 : map enum_tree p.enums.items ≡ enums_of (items_of fs) (map given ds) = enums ∙ ap (λ z. enums_of (items_of z) (map given es)) a ∙ ap (λ z. enums_of (items_of fs) (map given z)) b in
    let e2 : map scoped_decl p.decls.items ≡ decls_of (items_of fs) = decls ∙ ap (λ z. decls_of (items_of z)) a in
    let e3 : map lent_function p.functions.items ≡ functions_of (items_of fs) = functions ∙ sym (files_flat function_in gs) ∙ ap (λ z. functions_of (items_of z)) a in
    let e4 : map lent_tree p.constraints.items ≡ flat_map constraint_in (items_of fs) = constraints ∙ sym (files_flat constraint_in gs) ∙ ap (λ z. flat_map constraint_in (items_of z)) a in
    let e5 : asked p.goal ≡ goal_of (items_of fs) = goal_is ∙ ap (λ z. goal_of (items_of z)) a in
    let e6 : map lent_tree p.outputs.items ≡ flat_map output_in (items_of fs) = outputs ∙ sym (files_flat output_in gs) ∙ ap (λ z. flat_map output_in (items_of z)) a in
    let e7 : map lent_given p.given.items ≡ given_of (items_of fs) (map given ds) =
    given_is
    ∙ ap (λ (z : List DataItem). flat_map (λ d. unless (holds d.name (map (λ (e : ScopedEnum). e.name) ns)) (given d)) z) b
    ∙ ap (λ (z : List ScopedEnum). flat_map (λ d. unless (holds d.name (map (λ (e : ScopedEnum). e.name) z)) (given d)) ds) n
    ∙ given_are p.enums.items ds (items_of fs) (map given ds) e1 in
    rw (e1, e2, e3, e4, e5, e6, e7) refl
