-- The declarations of a typed program in the order of evaluation: they are numbered, and have the names of the scoped model.
use Rattle.std.proofs.Common.{◌≡◌, ◌∙◌, ℕ, suc, ◌+◌, ◌<◌, Bool, true, false, ◌||◌, List, [], ◌∷◌, ◌++◌, Option, Some, Ok, Err, map, refl, sym, ap, subst, arith}
use Rattle.std.specs.Prelude.{slice_get, All, nat_eq}
use Rattle.std.specs.List.{enumerate_from, flat_map, list_any}
use Rattle.std.proofs.lemmas.List.Elements.{All-weaker, All-map}
use Rattle.mz_core.specs.Tree.{Tree, Decl}
use Rattle.mz_core.specs.Program.{Function, Goal, PlainProgram}
use Rattle.mz_tree.specs.Tree as source
use Rattle.mz_tree.specs.Tree.{Name, Declaration}
use Rattle.mz_tree.specs.Kinds.{OfDeclaration}
use Rattle.mz_tree.specs.Data.{Given}
use Rattle.mz_meaning.specs.Walk.{ordered, with_decl}
use Rattle.mz_scope_order.specs.Parts.{name_of}
use Rattle.mz_scope_order.specs.Scoped.{ScopedTree, AreDistinct, enum_names, bare_name, shared_names}
use Rattle.mz_scope_order.specs.Subjects.{Subject}
use Rattle.mz_check_meaning.specs.Tests.{Test, ◌>>=◌, each}
use Rattle.mz_check_meaning.specs.Models.{Model, type_of_decl}
use Rattle.mz_check_meaning.specs.Items.{value_of, decl, function, constraint, goal, output}
use Rattle.mz_check_meaning.specs.Headings.{with_types}
use Rattle.mz_check_meaning.specs.Checks.{numbered, untyped, Sections, sections, decl_in}
use Rattle.mz_check_data.specs.WithData.{AreNumbered, with_value, with_values, checked_given, checked_with_data}
use Rattle.mz_check_data.proofs.Parted.{parted}
use Rattle.mz_check_meaning.proofs.Giving.{AllBy, all_indexed, all_mapped, Gives, gives_then, gives_after}
use Rattle.mz_analysis.proofs.ParPrograms.{all_hold, numbered_from}
use Rattle.mz_check.proofs.Assembling.{EachGives, each_given}
use Rattle.mz_check.proofs.Contexts.{checked_numbered}
use Rattle.mz_include.specs.Naming.{File}
use Rattle.mz_analysis.specs.Known.{IsWithin}
use Rattle.mz_analysis.specs.Analysis.{IsTypedModel, names_of}

-- ---- typing keeps names

given_by : {A : Type 0} (t : Test A) (Q : A → Type 0) → ((x : A) → t ≡ Ok x → Q x) → Gives t Q
given_by (Ok x) Q go = go x refl
given_by (Err f) Q go = tt

given : {A : Type 0} (Q : A → Type 0) (t : Test A) (x : A) → t ≡ Ok x → Gives t Q → Q x
given Q t x e h = subst (λ (r : Test _). Gives r Q) e h

module _ (m : Model) where
  name_is : (k : ℕ) (d : Declaration) → Gives (decl m k d) (λ x. x.name ≡ name_of d)
  unfolding decl
  name_is k (source.declaration t n at e) =
      gives_after (λ x. x.name ≡ n) (type_of_decl m at k) (λ u. value_of m u.ty e >>= λ v. Ok (record { slot = k; name = n; span = at; ty = u; value = v })) (λ u.
      gives_after (λ x. x.name ≡ n) (value_of m u.ty e) (λ v. Ok (record { slot = k; name = n; span = at; ty = u; value = v })) (λ v. refl))

  names_from : (i : ℕ) (ds : List Declaration) (xs : List Decl) → EachGives (λ d. decl m d.0 d.1) (enumerate_from i ds) xs → names_of xs ≡ map name_of ds
  names_from i [] [] h = refl
  names_from i [] (x ∷ xs) h = absurd h
  names_from i (d ∷ ds) [] h = absurd h
  names_from i (d ∷ ds) (x ∷ xs) h =
      let one : x.name ≡ name_of d = given (λ (y : Decl). y.name ≡ name_of d) (decl m i d) x h.0 (name_is i d) in
      ap (λ n. n ∷ names_of xs) one ∙ ap (λ ns. name_of d ∷ ns) (names_from (i + 1) ds xs h.1)

abbrev HasNames : ScopedTree → Sections → Type 0
HasNames s all = names_of all.decls ≡ map name_of s.decls

sections_named : (s : ScopedTree) (m : Model) → Gives (sections s m) (HasNames s)
unfolding sections
sections_named s m =
    let last : List Decl → List Function → List Tree → Goal → List Tree → Test Sections = λ ds fs cs g os. Ok (record { decls = ds; functions = fs; constraints = cs; goal = g; outputs = os }) in
    let outputs : List Decl → List Function → List Tree → Goal → Test Sections = λ ds fs cs g. each (output m) s.outputs >>= λ os. last ds fs cs g os in
    let objectives : List Decl → List Function → List Tree → Test Sections = λ ds fs cs. goal m s.goal >>= λ g. outputs ds fs cs g in
    let constraints : List Decl → List Function → Test Sections = λ ds fs. each (constraint m) s.constraints >>= λ cs. objectives ds fs cs in
    let functions : List Decl → Test Sections = λ ds. each (λ f. function m f.0 f.1) (numbered s.functions) >>= λ fs. constraints ds fs in
    gives_then (λ ds. names_of ds ≡ map name_of s.decls) (HasNames s) (each (λ d. decl m d.0 d.1) (numbered s.decls)) functions
    (given_by (each (λ d. decl m d.0 d.1) (numbered s.decls)) (λ ds. names_of ds ≡ map name_of s.decls) (λ ds e. names_from m 0 s.decls ds (each_given (λ d. decl m d.0 d.1) (numbered s.decls) ds e)))
    (λ ds a.
    gives_after (HasNames s) (each (λ f. function m f.0 f.1) (numbered s.functions)) (constraints ds) (λ fs.
    gives_after (HasNames s) (each (constraint m) s.constraints) (objectives ds fs) (λ cs.
    gives_after (HasNames s) (goal m s.goal) (outputs ds fs cs) (λ g.
    gives_after (HasNames s) (each (output m) s.outputs) (last ds fs cs g) (λ os. a)))))

-- a value from data changes no name
values_keep_names : (vs : List (ℕ × Tree)) (ds : List Decl) → names_of (map (with_value vs) ds) ≡ names_of ds
values_keep_names vs [] = refl
values_keep_names vs (d ∷ ds) = ap (λ ns. d.name ∷ ns) (values_keep_names vs ds)

valued_named : (s : ScopedTree) (vs : List (ℕ × Tree)) (all : Sections) → HasNames s all → HasNames s (with_values vs all)
unfolding with_values
valued_named s vs all h = values_keep_names vs all.decls ∙ h

given_named : (s : ScopedTree) (m : Model) (all : Sections) → checked_given s m ≡ Ok all → HasNames s all
given_named s m all e =
    let p = parted s m all e in
    subst (HasNames s) (sym p.is) (valued_named s p.values p.before (given (HasNames s) (sections s m) p.before p.typed (sections_named s m)))

checked_named : (texts : List (List ℕ)) (s : ScopedTree) (order : List Subject) (all : Sections) → checked_with_data texts s order ≡ Ok all → HasNames s all
unfolding checked_with_data
checked_named texts s order all e = given_named s (with_types s (untyped texts s) order) all e

-- ---- the program's declarations, in the order of evaluation, are those of its sections

head_is : (x : Option Decl) (d : Decl) (xs : List (Option Decl)) (ds : List Decl) → x ∷ xs ≡ map Some (d ∷ ds) → (x ≡ Some d) × (xs ≡ map Some ds)
head_is x d xs ds e = (cc, cc)

found_are : (es : List Decl) (ks : List ℕ) (ds : List Decl) → decl_in es ks ≡ map Some ds → ordered es ks ≡ ds
found_are es [] [] e = refl
found_are es [] (d ∷ ds) e = absurd (cc)
found_are es (k ∷ ks) [] e = absurd (cc)
found_are es (k ∷ ks) (d ∷ ds) e =
    let both = head_is (slice_get es k) d (decl_in es ks) ds e in
    ap (with_decl (ordered es ks)) both.0 ∙ ap (λ (zs : List Decl). d ∷ zs) (found_are es ks ds both.1)

-- ---- names of the shared space are distinct, so those of declarations are

any_left : (test : ℕ → Bool) (xs ys : List ℕ) → list_any test (xs ++ ys) ≡ false → list_any test xs ≡ false
any_left test [] ys h = refl
any_left test (x ∷ xs) ys h = go (test x) (any_left test xs ys) h
  where
    go : (b : Bool) → (list_any test (xs ++ ys) ≡ false → list_any test xs ≡ false) → (b || list_any test (xs ++ ys)) ≡ false → (b || list_any test xs) ≡ false
    go true rest e = absurd (cc)
    go false rest e = rest e

distinct_left : (xs ys : List Name) → AreDistinct (xs ++ ys) → AreDistinct xs
distinct_left [] ys h = tt
distinct_left (x ∷ xs) ys h = (any_left (nat_eq x) xs ys h.0, distinct_left xs ys h.1)

distinct_right : (xs ys : List Name) → AreDistinct (xs ++ ys) → AreDistinct ys
distinct_right [] ys h = h
distinct_right (x ∷ xs) ys h = distinct_right xs ys h.1

decls_distinct : (s : ScopedTree) → AreDistinct (shared_names s) → AreDistinct (map name_of s.decls)
decls_distinct s h = distinct_left (map name_of s.decls) (flat_map bare_name s.functions) (distinct_right (flat_map enum_names s.enums) (map name_of s.decls ++ flat_map bare_name s.functions) h)

-- ---- together

sections_of : {table : List (List ℕ)} {files : List File} {items : List Given} {p : PlainProgram} (h : IsTypedModel table files items p) → ordered p.decls p.order ≡ h.types.all.decls
sections_of {p = p} h = found_are p.decls p.order h.types.all.decls h.types.program.ordered

pub typed_numbered : (table : List (List ℕ)) (files : List File) (items : List Given) (p : PlainProgram) → IsTypedModel table files items p → AreNumbered (ordered p.decls p.order)
typed_numbered table files items p h = subst AreNumbered (sym (sections_of h)) (checked_numbered table h.scoped h.types.order h.types.all h.types.are)

names_are : {table : List (List ℕ)} {files : List File} {items : List Given} {p : PlainProgram} (h : IsTypedModel table files items p) → names_of (ordered p.decls p.order) ≡ map name_of h.scoped.decls
names_are {table = table} h = ap names_of (sections_of h) ∙ checked_named table h.scoped h.types.order h.types.all h.types.are

pub typed_distinct : (table : List (List ℕ)) (files : List File) (items : List Given) (p : PlainProgram) → IsTypedModel table files items p → AreDistinct (names_of (ordered p.decls p.order))
typed_distinct table files items p h = subst AreDistinct (sym (names_are h)) (decls_distinct h.scoped h.is.scoped.distinct)

name_within : (count files : ℕ) (d : Declaration) → OfDeclaration (λ n. n < count) (λ at. at.file < files) d → name_of d < count
unfolding OfDeclaration
name_within count files (source.declaration t n at e) h = h.1

names_within : (count files : ℕ) (ds : List Declaration) → All (OfDeclaration (λ n. n < count) (λ at. at.file < files)) ds → All (λ n. n < count) (map name_of ds)
names_within count files ds h = All-map (λ n. n < count) name_of ds (All-weaker (OfDeclaration (λ n. n < count) (λ at. at.file < files)) (λ d. name_of d < count) (name_within count files) ds h)

-- what holds of the names of the scoped model's declarations holds of the program's
typed_named : (Q : ℕ → Type 0) {table : List (List ℕ)} {files : List File} {items : List Given} {p : PlainProgram} (h : IsTypedModel table files items p) → All Q (map name_of h.scoped.decls) → All Q (names_of (ordered p.decls p.order))
typed_named Q h all = subst (All Q) (sym (names_are h)) all

pub typed_within : (table : List (List ℕ)) (files : List File) (items : List Given) (p : PlainProgram) (names places : ℕ) (h : IsTypedModel table files items p) → IsWithin names places h.scoped → All (λ n. n < names) (names_of (ordered p.decls p.order))
typed_within table files items p names places h within = typed_named (λ n. n < names) h (names_within names places h.scoped.decls within.decls)

-- ---- in source order: the same declarations, each once

by_each : (Q : ℕ → Type 0) (ds : List Decl) → All Q (names_of ds) → AllBy (λ d. Q d.name) ds
by_each Q [] h = tt
by_each Q (d ∷ ds) h = (h 0 d.name (omega arith), by_each Q ds (λ k n low. h (suc k) n (omega (arith, low))))

from_each : (Q : ℕ → Type 0) (ds : List Decl) → AllBy (λ d. Q d.name) ds → All Q (names_of ds)
from_each Q ds h = all_indexed Q (names_of ds) (all_mapped (λ d. Q d.name) Q (λ d. d.name) ds (λ d q. q) h)

pub declared_named : (Q : ℕ → Type 0) {table : List (List ℕ)} {files : List File} {items : List Given} {p : PlainProgram} (h : IsTypedModel table files items p) → All Q (map name_of h.scoped.decls) → All Q (names_of p.decls)
declared_named Q {table = table} {p = p} h all =
    let numbers : AreNumbered h.types.all.decls = checked_numbered table h.scoped h.types.order h.types.all h.types.are in
    let here : All Q (names_of h.types.all.decls) = subst (λ (ds : List Decl). All Q (names_of ds)) (sections_of h) (typed_named Q h all) in
    from_each Q p.decls
    (all_hold p.decls h.types.all.decls p.order h.types.program.ordered h.types.program.counted
    (numbered_from 0 h.types.all.decls (λ i d low. numbers i d low ∙ (let z : i ≡ 0 + i = omega arith in z)))
    (λ d. Q d.name) (by_each Q h.types.all.decls here))

pub declared_within : (table : List (List ℕ)) (files : List File) (items : List Given) (p : PlainProgram) (names places : ℕ) (h : IsTypedModel table files items p) → IsWithin names places h.scoped → All (λ n. n < names) (names_of p.decls)
declared_within table files items p names places h within = declared_named (λ n. n < names) h (names_within names places h.scoped.decls within.decls)
