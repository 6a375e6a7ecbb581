-- The names of a typed program's declarations are identifiers, as those in its files are, and none begins with `X_`, as the tests say.
use Rattle.std.proofs.Common.{◌≡◌, ◌∙◌, ℕ, ◌<◌, Bool, true, false, List, [], ◌∷◌, ◌++◌, length, map, refl, ap}
use Rattle.std.specs.Prelude.{Option, Some, None, All, if◌then◌else◌}
use Rattle.std.specs.List.{flat_map}
use Rattle.std.proofs.lemmas.List.Elements.{All-nil, All-cons, All-head, All-tail, All-append, All-map, All-same, All-weaker}
use Rattle.mz_base.specs.declared.fault.Span.{Span}
use Rattle.mz_base.specs.declared.fault.Fault.{Fault}
use Rattle.mz_base.specs.declared.kind.Kind.{Kind}
use Rattle.mz_base.specs.declared.kind.Kind.TheVariants.{ReservedName}
use Rattle.mz_base.specs.Names.{text_of}
use Rattle.mz_io.specs.Files.{Texts}
use Rattle.mz_tree.specs.Tree as source
use Rattle.mz_tree.specs.Tree.{Declaration}
use Rattle.mz_tree.specs.Items.{ItemTree, include, declare, assign, constraint, solve, output, function, enum, annotation}
use Rattle.mz_tree.specs.Data.{Given}
use Rattle.mz_scope_names.specs.declared.occurrence.Occurrence.{Occurrence}
use Rattle.mz_scope_names.specs.declared.occurrence.Role.TheVariants.{Declared}
use Rattle.mz_scope_names.specs.Roles.{occurs}
use Rattle.mz_scope_names.specs.Given.{occurrences, in_given, enum_of}
use Rattle.mz_scope_names.specs.Occurrences.{in_item, in_top, in_written, in_maybe, value_of, is_par}
use Rattle.mz_scope_names.specs.Sets.{holds}
use Rattle.mz_scope.specs.Tests.{first, first_after, is_reserved, is_repeated, or_refused, solve_fault, solve_in, known_in, refusal_after_solves, refusal}
use Rattle.mz_scope_order.specs.Parts.{filled, declared_in, decls_of, name_of, decl_at}
use Rattle.mz_scope_order.specs.Scoped.{ScopedTree, IsScoped}
use Rattle.mz_core.specs.Program.{PlainProgram}
use Rattle.mz_include.specs.Trees.{DeclaresSpelled}
use Rattle.mz_include.specs.Naming.{File}
use Rattle.mz_include.specs.Sources.{IsSources}
use Rattle.mz_include.proofs.Spelled.{sources_spelled}
use Rattle.mz_analysis.specs.Analysis.{IsTypedModel, items_of, end_of, names_of}
use Rattle.mz_analysis.specs.Promise.{IsOwnIdentifier}
use Rattle.mz_analysis.proofs.Items.{all_mapped}
use Rattle.mz_analysis.proofs.Parts.{counted}
use Rattle.mz_analysis.proofs.Declared.{declared_named}

-- ---- a test that finds nothing

-- this occurrence isn't what is looked for, nor any later one
next_none : (test : Occurrence → Bool) (o : Occurrence) (os : List Occurrence) → first test (o ∷ os) ≡ None → (test o ≡ false) × (first test os ≡ None)
unfolding first
next_none test o os e = go (test o) e
  where
    go : (b : Bool) → (if b then Some o.span else first test os) ≡ None → (b ≡ false) × (first test os ≡ None)
    go true e = absurd (cc)
    go false e = (refl, e)

both_none : (test : Occurrence → Bool) (xs ys : List Occurrence) → first test (xs ++ ys) ≡ None → (first test xs ≡ None) × (first test ys ≡ None)
unfolding first
both_none test [] ys e = (refl, e)
both_none test (x ∷ xs) ys e =
    let one = next_none test x (xs ++ ys) e in
    let rest = both_none test xs ys one.1 in
    (ap (λ b. if b then Some x.span else first test xs) one.0 ∙ rest.0, rest.1)

later_none : (kind : Kind) (o : Option Span) (later : Option Fault) → or_refused kind o later ≡ None → o ≡ None
later_none kind None later e = refl
later_none kind (Some s) later e = absurd (cc)

-- ---- the names of the model's declarations

module _ (table : List (List ℕ)) where
  abbrev Own : Declaration → Type 0
  Own d = IsOwnIdentifier (text_of table (name_of d))

  abbrev none_reserved : List Occurrence → Option Span
  none_reserved os = first (is_reserved table) os

  declaration_own : (d : Declaration) → DeclaresSpelled table (declare d) → none_reserved (in_top d) ≡ None → Own d
  unfolding in_top
  declaration_own (source.declaration t n s e) h none =
      let here = (both_none (is_reserved table) (in_written t) (occurs Declared n s ∷ (value_of (is_par t) n s e ++ in_maybe e)) none).1 in
      (h, (next_none (is_reserved table) (occurs Declared n s) (value_of (is_par t) n s e ++ in_maybe e) here).0)

  item_own : (i : ItemTree) → DeclaresSpelled table i → none_reserved (in_item i) ≡ None → All Own (declared_in i)
  item_own (declare d) h none = All-cons Own d [] (declaration_own d h none) (All-nil Own)
  item_own (include m s) h none = All-nil Own
  item_own (assign m s e) h none = All-nil Own
  item_own (constraint e) h none = All-nil Own
  item_own (solve s g) h none = All-nil Own
  item_own (output e) h none = All-nil Own
  item_own (function f) h none = All-nil Own
  item_own (enum m s cs) h none = All-nil Own
  item_own (annotation m) h none = All-nil Own

  items_own : (is : List ItemTree) → All (DeclaresSpelled table) is → none_reserved (flat_map in_item is) ≡ None → All Own (flat_map declared_in is)
  items_own [] h none = All-nil Own
  items_own (i ∷ is) h none =
      let both = both_none (is_reserved table) (in_item i) (flat_map in_item is) none in
      All-append Own (declared_in i) (flat_map declared_in is) (item_own i (All-head (DeclaresSpelled table) i is h) both.0) (items_own is (All-tail (DeclaresSpelled table) i is h) both.1)

  filled_own : (is : List ItemTree) (d : Declaration) → Own d → Own (filled is d)
  filled_own is (source.declaration t n s e) h = h

  scoped_own : (is : List ItemTree) (gs : List Given) (s : ScopedTree) → All (DeclaresSpelled table) is → none_reserved (flat_map in_item is) ≡ None → IsScoped is gs s → All Own s.decls
  scoped_own is gs s h none scoped =
      let all : All Own (decls_of is) = all_mapped Own (filled is) (flat_map declared_in is) (All-weaker Own (λ d. Own (filled is d)) (filled_own is) (flat_map declared_in is) (items_own is h none)) in
      All-same Own s.decls (map (decl_at (decls_of is)) scoped.order) scoped.decls
      (all_mapped Own (decl_at (decls_of is)) scoped.order (All-weaker (λ k. k < length (decls_of is)) (λ k. Own (decl_at (decls_of is) k)) (λ k below. all k _ below) scoped.order (counted is gs scoped)))

-- ---- the law

pub names_own : (table : List (List ℕ)) (texts : Texts) (first : List ℕ) (files : List File) (items : List Given) (p : PlainProgram) → IsSources table texts first files → IsTypedModel table files items p → All (λ n. IsOwnIdentifier (text_of table n)) (names_of p.decls)
names_own table texts model files items p sources h =
    let os = occurrences (items_of files) items in
    let tested = later_none ReservedName (first (is_reserved table) os) _ h.is.tested in
    let here = (both_none (is_reserved table) (flat_map in_item (items_of files)) _ tested).0 in
    declared_named (λ n. IsOwnIdentifier (text_of table n)) h
    (All-map (λ n. IsOwnIdentifier (text_of table n)) name_of h.scoped.decls (scoped_own table (items_of files) items h.scoped (sources_spelled table texts model files sources) here h.is.scoped))
