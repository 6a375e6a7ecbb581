-- After the tests no name stands twice in the shared space, declarations have names of their own, and data is of declarations.
use Rattle.std.proofs.Common.{◌≡◌, ℕ, zero, suc, ◌≤◌, Bool, true, false, List, [], ◌∷◌, ◌++◌, refl, ap, sym, ◌∙◌, subst, map, length, get_or, None, arith}
use Rattle.std.specs.Prelude.{All}
use Rattle.std.specs.List.{flat_map}
use Rattle.std.proofs.lemmas.List.{length-map}
use Rattle.std.proofs.lemmas.List.Elements.{All-nil, All-cons}
use Rattle.mz_base.specs.declared.fault.Span.{Span}
use Rattle.mz_base.specs.declared.kind.Kind.TheVariants.{ReservedName, DuplicateName, SolveItems, UnknownName, DataForm, MissingData}
use Rattle.mz_tree.specs.Tree as pure
use Rattle.mz_tree.specs.Tree.{Declaration}
use Rattle.mz_tree.specs.Items.{ItemTree}
use Rattle.mz_tree.specs.Data.{Given}
use Rattle.mz_graph.specs.Order.{IsOrder, IsComplete}
use Rattle.mz_scope_names.specs.declared.occurrence.Occurrence.{Occurrence}
use Rattle.mz_scope_names.specs.Given.{enum_of, occurrences}
use Rattle.mz_scope_names.specs.Sets.{holds}
use Rattle.mz_scope_names.specs.Sketches.{decl_sketch}
use Rattle.mz_scope_order.specs.Dependencies.{sketch_at, AreDeclarations}
use Rattle.mz_scope_order.specs.Parts.{filled, declared_in, decls_of, function_in, functions_of, enums_of, unless, given_of, name_of, decl_at}
use Rattle.mz_scope_order.specs.Scoped.{AreDistinct, enum_names, bare_name}
use Rattle.mz_scope.specs.Spaces.{declares, binds, names_with}
use Rattle.mz_scope.specs.Tests.{is_reserved, is_repeated, is_misfit, first, first_after, solve_fault, or_refused, first_unknown_of, first_missing_of, refusal_after_solves, refusal}
use Rattle.mz_scope.proofs.Counting.{count, total, counted_both, counted_flat, one_here, none_counted, some_counted, some_held, distinct_once, one_place, mapped_flat, flat_flat}
use Rattle.mz_scope.proofs.Turned.{turned_most, turned_there}
use Rattle.mz_scope.proofs.Scanning.{passes, declared_once, given_once, given_declared}
use Rattle.mz_scope.proofs.Parting.{declares_all, gives_all, unlisted_most, enums_all}

-- what the tests that pass say
pub record HavePassed (known : ℕ → Bool) (os : List Occurrence) : Type 0 where
  pub repeated : first_after is_repeated [] os ≡ None
  pub unknown : first_unknown_of known os ≡ None

pub have_passed : (texts : List (List ℕ)) (known : ℕ → Bool) (end : Span) (solves : List Span) (os : List Occurrence) → refusal texts known end solves os ≡ None → HavePassed known os
have_passed texts known end solves os e =
    let missing = or_refused MissingData (first_missing_of os) None in
    let unknown = refusal_after_solves known os in
    let unsolved = or_refused SolveItems (solve_fault end solves) unknown in
    let a = passes ReservedName (first (is_reserved texts) os) (or_refused DuplicateName (first_after is_repeated [] os) unsolved) e in
    let b = passes DuplicateName (first_after is_repeated [] os) unsolved a.1 in
    let c = passes SolveItems (solve_fault end solves) unknown b.1 in
    let d = passes UnknownName (first_unknown_of known os) (or_refused DataForm (first is_misfit os) missing) c.1 in
    record { repeated = b.0; unknown = d.0 }

-- the names of declarations

names_filled : (is : List ItemTree) (ds : List Declaration) → map name_of (map (filled is) ds) ≡ map name_of ds
names_filled is [] = refl
names_filled is (pure.declaration t n s e ∷ ds) = ap (λ z. n ∷ z) (names_filled is ds)

decls_counted : (n : ℕ) (is : List ItemTree) → count n (map name_of (decls_of is)) ≡ total (λ i. count n (map name_of (declared_in i))) is
decls_counted n is = ap (λ z. count n z) (names_filled is (flat_map declared_in is) ∙ mapped_flat name_of declared_in is) ∙ counted_flat n (λ i. map name_of (declared_in i)) is

functions_counted : (n : ℕ) (is : List ItemTree) → count n (flat_map bare_name (functions_of is)) ≡ total (λ i. count n (flat_map bare_name (function_in i))) is
functions_counted n is = ap (λ z. count n z) (flat_flat bare_name function_in is) ∙ counted_flat n (λ i. flat_map bare_name (function_in i)) is

name_at : (ds : List Declaration) (k : ℕ) → name_of (decl_at ds k) ≡ get_or (map name_of ds) k 0
name_at [] zero = refl
name_at [] (suc k) = refl
name_at (d ∷ ds) zero = refl
name_at (d ∷ ds) (suc k) = name_at ds k

names_turned : (ds : List Declaration) (order : List ℕ) → map name_of (map (decl_at ds) order) ≡ map (λ k. get_or (map name_of ds) k 0) order
names_turned ds [] = refl
names_turned ds (k ∷ order) = ap (λ z. z ∷ map name_of (map (decl_at ds) order)) (name_at ds k) ∙ ap (λ z. get_or (map name_of ds) k 0 ∷ z) (names_turned ds order)

sketch_name : (ds : List Declaration) (k : ℕ) → (sketch_at (map decl_sketch ds) k).name ≡ get_or (map name_of ds) k 0
sketch_name [] zero = refl
sketch_name [] (suc k) = refl
sketch_name (pure.declaration t n s e ∷ ds) zero = refl
sketch_name (d ∷ ds) (suc k) = sketch_name ds k

not_applied : (ds : List Declaration) (k : ℕ) → (sketch_at (map decl_sketch ds) k).applied ≡ false
not_applied [] zero = refl
not_applied [] (suc k) = refl
not_applied (pure.declaration t n s e ∷ ds) zero = refl
not_applied (d ∷ ds) (suc k) = not_applied ds k

as_many : (ds : List Declaration) → length (map decl_sketch ds) ≡ length (map name_of ds)
as_many ds = length-map ds decl_sketch ∙ sym (length-map ds name_of)

-- among what is given for an item of the data that is not for an enum
unless_case : (b : Bool) (P : Given → Type 0) (d : Given) (rest : List Given) → (b ≡ false → P d) → All P rest → All P (unless b d ++ rest)
unless_case true P d rest f r = r
unless_case false P d rest f r = All-cons P d rest (f refl) r

all_given : (enums : List ℕ) (P : ℕ → Type 0) (ds : List Given) → ((d : Given) → 1 ≤ total (λ x. count d.name (x.name ∷ [])) ds → holds d.name enums ≡ false → P d.name) → All (λ d. P d.name) (flat_map (λ d. unless (holds d.name enums) d) ds)
all_given enums P [] f = All-nil (λ d. P d.name)
all_given enums P (d ∷ ds) f =
    unless_case (holds d.name enums) (λ x. P x.name) d (flat_map (λ x. unless (holds x.name enums) x) ds)
    (λ e. f d (let a = one_here d.name [] in omega (arith, a)) e)
    (all_given enums P ds (λ x l e. f x (omega (arith, l)) e))

module _ (is : List ItemTree) (ds : List Given) (known : ℕ → Bool) (h : HavePassed known (occurrences is ds)) where
  decls_once : (n : ℕ) → count n (map name_of (decls_of is)) ≤ 1
  decls_once n =
      let a = declared_once (occurrences is ds) h.repeated n in
      let b = declares_all n is ds in
      let c = decls_counted n is in
      omega (arith, a, b, c)

  pub declarations : AreDeclarations (map decl_sketch (decls_of is))
  declarations = record {
    mentioned = λ d l. not_applied (decls_of is) d;
    distinct = λ d e l k q.
        let m = as_many (decls_of is) in
        one_place (map name_of (decls_of is)) d e decls_once (omega (arith, l, m)) (omega (arith, k, m)) (sym (sketch_name (decls_of is) d) ∙ q ∙ sketch_name (decls_of is) e);
  }

  shared_once : {R : ℕ → ℕ → Type 0} (order : List ℕ) → IsOrder R (length (map name_of (decls_of is))) order → (n : ℕ) → count n (flat_map enum_names (enums_of is ds) ++ (map name_of (map (decl_at (decls_of is)) order) ++ flat_map bare_name (functions_of is))) ≤ 1
  shared_once order o n =
      let a = declared_once (occurrences is ds) h.repeated n in
      let b = declares_all n is ds in
      let c = decls_counted n is in
      let f = functions_counted n is in
      let e = enums_all n is ds in
      let u = unlisted_most n is ds (λ m. let x = declared_once (occurrences is ds) h.repeated m in let y = declares_all m is ds in omega (arith, x, y)) in
      let t = turned_most (map name_of (decls_of is)) order o decls_once n in
      let s = ap (λ z. count n z) (names_turned (decls_of is) order) in
      let p = counted_both n (flat_map enum_names (enums_of is ds)) (map name_of (map (decl_at (decls_of is)) order) ++ flat_map bare_name (functions_of is)) in
      let q = counted_both n (map name_of (map (decl_at (decls_of is)) order)) (flat_map bare_name (functions_of is)) in
      omega (arith, a, b, c, f, e, u, t, s, p, q)

  pub distinct : {R : ℕ → ℕ → Type 0} (order : List ℕ) → IsOrder R (length (map decl_sketch (decls_of is))) order → AreDistinct (flat_map enum_names (enums_of is ds) ++ (map name_of (map (decl_at (decls_of is)) order) ++ flat_map bare_name (functions_of is)))
  distinct {R = R} order o = distinct_once _ (λ n. shared_once order (subst (λ z. IsOrder R z order) (as_many (decls_of is)) o) n)

  declared_name : (order : List ℕ) → IsComplete (length (map name_of (decls_of is))) order → (n : ℕ) → 1 ≤ total (λ x. count n (x.name ∷ [])) ds → holds n (flat_map enum_of is) ≡ false → holds n (map name_of (map (decl_at (decls_of is)) order)) ≡ true
  declared_name order whole n l e =
      let a = given_once (occurrences is ds) h.repeated n in
      let b = gives_all n is ds in
      let c = some_counted n (names_with declares (occurrences is ds)) (given_declared known (names_with binds (occurrences is ds)) (names_with declares (occurrences is ds)) (occurrences is ds) n h.unknown (omega (arith, b, l))) in
      let d = declares_all n is ds in
      let f = none_counted n (flat_map enum_of is) e in
      let g = counted_flat n enum_of is in
      let k = decls_counted n is in
      let t = turned_there (map name_of (decls_of is)) order n whole (omega (arith, a, b, c, d, f, g, k, l)) in
      let s = ap (λ z. count n z) (names_turned (decls_of is) order) in
      some_held n (map name_of (map (decl_at (decls_of is)) order)) (omega (arith, t, s))

  pub declared : (order : List ℕ) → IsComplete (length (map decl_sketch (decls_of is))) order → All (λ d. holds d.name (map name_of (map (decl_at (decls_of is)) order)) ≡ true) (given_of is ds)
  declared order whole = all_given (flat_map enum_of is) (λ n. holds n (map name_of (map (decl_at (decls_of is)) order)) ≡ true) ds (λ d l e. declared_name order (subst (λ z. IsComplete z order) (as_many (decls_of is)) whole) d.name l e)
