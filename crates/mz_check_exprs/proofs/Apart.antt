-- The names of what names stand for are those of the shared space.
use Rattle.std.proofs.Common.{◌≡◌, ◌∙◌, ℕ, ◌+◌, Bool, true, false, List, [], ◌∷◌, ◌++◌, map, refl, ap, append_assoc}
use Rattle.std.specs.List.{flat_map, enumerate_from}
use Rattle.std.proofs.lemmas.List.{map-append}
use Rattle.mz_base.specs.declared.fault.Span.{Span}
use Rattle.mz_tree.specs.Tree.{Name, Declaration}
use Rattle.mz_tree.specs.Items.{FunctionTree}
use Rattle.mz_scope_names.specs.Sketches.{has_parameters}
use Rattle.mz_scope_order.specs.Parts.{EnumTree, name_of}
use Rattle.mz_scope_order.specs.Scoped.{ScopedTree, shared_names, enum_names, name_unless, bare_name}
use Rattle.mz_check_meaning.specs.declared.meaning.Meaning.{Meaning}
use Rattle.mz_check_meaning.specs.Checks.{numbered, case_meaning, enum_meanings, decl_meaning, function_meaning, bare_meaning}
use Rattle.mz_check_exprs.specs.Meanings.{meanings_of}

abbrev pub names : List (Name × Meaning) → List Name
names es = map (λ e. e.0) es

names_both : (xs ys : List (Name × Meaning)) → names (xs ++ ys) ≡ names xs ++ names ys
names_both xs ys = map-append (λ (e : Name × Meaning). e.0) xs ys

cases_named : (e k : ℕ) (cs : List (Name × Span)) → names (map (case_meaning e) (enumerate_from k cs)) ≡ map (λ c. c.0) cs
cases_named e k [] = refl
cases_named e k (c ∷ cs) = ap (λ (ns : List Name). c.0 ∷ ns) (cases_named e (k + 1) cs)

enums_named : (k : ℕ) (es : List EnumTree) → names (flat_map enum_meanings (enumerate_from k es)) ≡ flat_map enum_names es
enums_named k [] = refl
enums_named k (e ∷ es) =
    names_both (enum_meanings (k, e)) (flat_map enum_meanings (enumerate_from (k + 1) es))
    ∙ ap (λ (ns : List Name). (e.name ∷ ns) ++ names (flat_map enum_meanings (enumerate_from (k + 1) es))) (cases_named k 0 e.cases)
    ∙ ap (λ (ns : List Name). enum_names e ++ ns) (enums_named (k + 1) es)

decls_named : (k : ℕ) (ds : List Declaration) → names (map decl_meaning (enumerate_from k ds)) ≡ map name_of ds
decls_named k [] = refl
decls_named k (d ∷ ds) = ap (λ (ns : List Name). name_of d ∷ ns) (decls_named (k + 1) ds)

one_bare : (b : Bool) (f n : ℕ) → names (function_meaning b f n) ≡ name_unless b n
one_bare true f n = refl
one_bare false f n = refl

bare_named : (k : ℕ) (fs : List FunctionTree) → names (flat_map bare_meaning (enumerate_from k fs)) ≡ flat_map bare_name fs
bare_named k [] = refl
bare_named k (f ∷ fs) =
    names_both (bare_meaning (k, f)) (flat_map bare_meaning (enumerate_from (k + 1) fs))
    ∙ ap (λ (ns : List Name). ns ++ names (flat_map bare_meaning (enumerate_from (k + 1) fs))) (one_bare (has_parameters f.params) k f.name)
    ∙ ap (λ (ns : List Name). bare_name f ++ ns) (bare_named (k + 1) fs)

pub all_named : (s : ScopedTree) → names (meanings_of s) ≡ shared_names s
all_named s =
    let es = flat_map enum_meanings (numbered s.enums) in
    let ds = map decl_meaning (numbered s.decls) in
    let fs = flat_map bare_meaning (numbered s.functions) in
    names_both es (ds ++ fs)
    ∙ ap (λ (ns : List Name). ns ++ names (ds ++ fs)) (enums_named 0 s.enums)
    ∙ ap (λ (ns : List Name). flat_map enum_names s.enums ++ ns)
    (names_both ds fs ∙ ap (λ (ns : List Name). ns ++ names fs) (decls_named 0 s.decls) ∙ ap (λ (ns : List Name). map name_of s.decls ++ ns) (bare_named 0 s.functions))

-- one after the other
pub all_added : (s : ScopedTree) (none es ds fs : List (Name × Meaning)) → none ≡ [] → es ≡ none ++ flat_map enum_meanings (numbered s.enums) → ds ≡ es ++ map decl_meaning (numbered s.decls) → fs ≡ ds ++ flat_map bare_meaning (numbered s.functions) → fs ≡ meanings_of s
all_added s none es ds fs n e d f =
    let enums = flat_map enum_meanings (numbered s.enums) in
    let decls = map decl_meaning (numbered s.decls) in
    let bare = flat_map bare_meaning (numbered s.functions) in
    f
    ∙ ap (λ (xs : List (Name × Meaning)). xs ++ bare) (d ∙ ap (λ (xs : List (Name × Meaning)). xs ++ decls) (e ∙ ap (λ (xs : List (Name × Meaning)). xs ++ enums) n))
    ∙ append_assoc enums decls bare
