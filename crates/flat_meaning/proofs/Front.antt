-- The variables and the arrays of an instance are found by their names.
use Rattle.std.proofs.Common.{◌≡◌, ◌∙◌, ℕ, zero, suc, ◌+◌, ℤ, Bool, true, false, ◌&&◌, List, [], ◌∷◌, ◌++◌, length, map, Option, Some, None, is_none, slice_get, append_assoc, refl, sym, ap, subst, arith, if◌then◌else◌}
use Rattle.std.specs.Option.{option_map}
use Rattle.std.specs.List.{Contains, list_all}
use Rattle.std.specs.Ordering.{int_eq}
use Rattle.std.proofs.lemmas.Bool.Decides.{Decides-int_eq}
use Rattle.mz_base.specs.Names.{text_of}
use Rattle.mz_value.specs.Ranges.{Range}
use Rattle.mz_operations.specs.Sets.{same_set}
use Rattle.mz_arena.specs.Instances.{VarCell, ModelVar, Instance}
use Rattle.mz_instance.specs.Parts.{Sort, Whole, Truth, Subset, Part, occurrence, value_part, sort_of, base_of, next, after_cells}
use Rattle.mz_instance.specs.Instance.{IsInstance, IsModelVar, AreModelVars, IsCounted}
use Rattle.fz_program.specs.Names.{Name}
use Rattle.fz_program.specs.Flat.{Program, Variable, ArrayItem, AreDistinct, labels_of, array_labels}
use Rattle.flat_meaning.specs.Front.{domain_by, front_variable, occurrence_name, value_name, occurrence_label, value_label, cell_variables, variables_from, front_variables, value_place, value_places, occurrence_places, var_arrays, front_arrays}
use Rattle.flat_meaning.specs.Reading.{is_of_sort, is_shown, shown_place, item_named, is_sort_at, where_of_sort, shown_item, CellPlaces, Layout, Alone, Rows, value_alone, with_occurrence, both_places, paired, both_items, layout_by}
use Rattle.flat_meaning.proofs.Found.{variables_found, items_found}
use Rattle.flat_meaning.specs.Faithful.{Faithful}
use Rattle.flat_meaning.specs.Found.{cell_places, places_from, layout_from, domain_at, AreDomains, AreFound}

-- ---- what there is from a place on, and arrays that are found

abbrev pub VarsAt : List Variable → ℕ → List Variable → Type 0
VarsAt all k [] = Unit {0}
VarsAt all k (v ∷ vs) = (slice_get all k ≡ Some v) × VarsAt all (suc k) vs

abbrev pub ItemsFound : List ArrayItem → List ArrayItem → Type 0
ItemsFound all [] = Unit {0}
ItemsFound all (a ∷ more) = (item_named all a.label ≡ Some a) × ItemsFound all more

vars_from : (all vs rest : List Variable) (k : ℕ) → ((j : ℕ) → slice_get all (k + j) ≡ slice_get (vs ++ rest) j) → VarsAt all k vs
vars_from all [] rest k same = tt
vars_from all (v ∷ vs) rest k same = (ap (slice_get all) (omega arith) ∙ same 0, vars_from all vs rest (suc k) (λ j. ap (slice_get all) (omega arith) ∙ same (suc j)))

items_by : (all xs : List ArrayItem) → ((k : ℕ) (a : ArrayItem) → slice_get xs k ≡ Some a → item_named all a.label ≡ Some a) → ItemsFound all xs
items_by all [] found = tt
items_by all (x ∷ xs) found = (found 0 x refl, items_by all xs (λ k a at. found (suc k) a at))

items_first : (all xs ys : List ArrayItem) → ItemsFound all (xs ++ ys) → ItemsFound all xs
items_first all [] ys found = tt
items_first all (x ∷ xs) ys found = (found.0, items_first all xs ys found.1)

items_rest : (all xs ys : List ArrayItem) → ItemsFound all (xs ++ ys) → ItemsFound all ys
items_rest all [] ys found = found
items_rest all (x ∷ xs) ys found = items_rest all xs ys found.1

vars_first : (all : List Variable) (m : ModelVar) (scalar opt : Bool) (x : Name) (cs : List VarCell) (j k : ℕ) (more : List Variable) → is_none m.index ≡ scalar → m.opt ≡ opt → VarsAt all k (variables_from m j x cs ++ more) → VarsAt all k (variables_from m j x cs) × VarsAt all (after_cells opt cs k) more
vars_first all m scalar opt x [] j k more s o at = (tt, at)
vars_first all m scalar true x (c ∷ cs) j k more s o at =
    let here = subst (λ opt. VarsAt all k ((cell_variables (is_none m.index) opt j x (value_part m c) ++ variables_from m (suc j) x cs) ++ more)) o at in
    let rest = vars_first all m scalar true x cs (suc j) (suc (suc k)) more s o here.1.1 in
    (subst (λ opt. VarsAt all k (cell_variables (is_none m.index) opt j x (value_part m c) ++ variables_from m (suc j) x cs)) (sym o) (here.0, (here.1.0, rest.0)), rest.1)
vars_first all m scalar false x (c ∷ cs) j k more s o at =
    let here = subst (λ opt. VarsAt all k ((cell_variables (is_none m.index) opt j x (value_part m c) ++ variables_from m (suc j) x cs) ++ more)) o at in
    let rest = vars_first all m scalar false x cs (suc j) (suc k) more s o here.1 in
    (subst (λ opt. VarsAt all k (cell_variables (is_none m.index) opt j x (value_part m c) ++ variables_from m (suc j) x cs)) (sym o) (here.0, rest.0), rest.1)

-- ---- scalars

sort_domain : (sort : Sort) (u : List Range) → is_of_sort sort (domain_by sort u) ≡ true
sort_domain Whole u = refl
sort_domain Truth u = refl
sort_domain Subset u = refl

part_found : (p : Program) (k : ℕ) (x : Name) (q : Part) → AreDistinct (labels_of p.vars) → slice_get p.vars k ≡ Some (front_variable true x q) → shown_place q.sort p x ≡ Some k
part_found p k x q distinct at = variables_found q.sort p.vars 0 k (front_variable true x q) distinct at (sort_domain q.sort q.set) ∙ ap (λ n. Some n) (omega arith)

scalar_found : (p : Program) (m : ModelVar) (c : VarCell) (x : Name) (k : ℕ) (opt : Bool) → AreDistinct (labels_of p.vars) → VarsAt p.vars k (cell_variables true opt 1 x (value_part m c) ++ []) → layout_by true opt (sort_of (base_of m.base)) p x ≡ Some (Alone (cell_places opt k))
scalar_found p m c x k false distinct at = ap (option_map (λ k. Alone (value_alone k))) (part_found p k x (value_part m c) distinct at.0)
scalar_found p m c x k true distinct at =
    ap (λ o. both_places o (shown_place (sort_of (base_of m.base)) p (value_name x))) (part_found p k (occurrence_name x) occurrence distinct at.0)
    ∙ ap (both_places (Some k)) (part_found p (suc k) (value_name x) (value_part m c) distinct at.1.0)

-- ---- arrays

same_self : (u : List Range) → same_set u u ≡ true
unfolding same_set
same_self [] = refl
same_self (r ∷ rs) = rw (equal r.0, equal r.1, same_self rs) refl
  where
    equal : (n : ℤ) → int_eq n n ≡ true
    equal n = (Decides-int_eq n n).1 refl

part_sort : (vs : List Variable) (k : ℕ) (x : Name) (q : Part) → slice_get vs k ≡ Some (front_variable false x q) → is_sort_at q.sort (slice_get vs k) ≡ true
part_sort vs k x q at = ap (is_sort_at q.sort) at ∙ sort_domain q.sort q.set

values_sorted : (vs : List Variable) (m : ModelVar) (opt : Bool) (x : Name) (cs : List VarCell) (j k : ℕ) → is_none m.index ≡ false → m.opt ≡ opt → VarsAt vs k (variables_from m j x cs) → list_all (λ k. is_sort_at (sort_of (base_of m.base)) (slice_get vs k)) (value_places opt k cs) ≡ true
values_sorted vs m opt x [] j k s o at = refl
values_sorted vs m true x (c ∷ cs) j k s o at =
    let here = subst (λ scalar. VarsAt vs k (cell_variables scalar true j x (value_part m c) ++ variables_from m (suc j) x cs)) s (subst (λ opt. VarsAt vs k (cell_variables (is_none m.index) opt j x (value_part m c) ++ variables_from m (suc j) x cs)) o at) in
    rw (part_sort vs (suc k) (value_label false true j x) (value_part m c) here.1.0, values_sorted vs m true x cs (suc j) (suc (suc k)) s o here.1.1) refl
values_sorted vs m false x (c ∷ cs) j k s o at =
    let here = subst (λ scalar. VarsAt vs k (cell_variables scalar false j x (value_part m c) ++ variables_from m (suc j) x cs)) s (subst (λ opt. VarsAt vs k (cell_variables (is_none m.index) opt j x (value_part m c) ++ variables_from m (suc j) x cs)) o at) in
    rw (part_sort vs k (value_label false false j x) (value_part m c) here.0, values_sorted vs m false x cs (suc j) (suc k) s o here.1) refl

occurrences_sorted : (vs : List Variable) (m : ModelVar) (x : Name) (cs : List VarCell) (j k : ℕ) → is_none m.index ≡ false → m.opt ≡ true → VarsAt vs k (variables_from m j x cs) → list_all (λ k. is_sort_at Truth (slice_get vs k)) (occurrence_places k cs) ≡ true
occurrences_sorted vs m x [] j k s o at = refl
occurrences_sorted vs m x (c ∷ cs) j k s o at =
    let here = subst (λ scalar. VarsAt vs k (cell_variables scalar true j x (value_part m c) ++ variables_from m (suc j) x cs)) s (subst (λ opt. VarsAt vs k (cell_variables (is_none m.index) opt j x (value_part m c) ++ variables_from m (suc j) x cs)) o at) in
    rw (part_sort vs k (occurrence_label false j x) occurrence here.0, occurrences_sorted vs m x cs (suc j) (suc (suc k)) s o here.1.1) refl

where_true : (sort : Sort) (vs : List Variable) (a : ArrayItem) → list_all (λ k. is_sort_at sort (slice_get vs k)) a.items ≡ true → where_of_sort sort vs (Some a) ≡ Some a
where_true sort vs a all = ap (λ b. if b then Some a else None) all

plain_places : (k : ℕ) (cs : List VarCell) → map value_alone (value_places false k cs) ≡ places_from false k cs
plain_places k [] = refl
plain_places k (c ∷ cs) = ap (λ ps. value_alone k ∷ ps) (plain_places (suc k) cs)

option_places : (k : ℕ) (cs : List VarCell) → paired (occurrence_places k cs) (value_places true k cs) ≡ places_from true k cs
option_places k [] = refl
option_places k (c ∷ cs) = ap (λ ps. with_occurrence k (suc k) ∷ ps) (option_places (suc (suc k)) cs)

array_found : (p : Program) (m : ModelVar) (ix : List Range) (x : Name) (k : ℕ) (opt : Bool) → is_none m.index ≡ false → m.opt ≡ opt → VarsAt p.vars k (variables_from m 1 x m.cells) → ItemsFound p.arrays (var_arrays (Some ix) opt x k m.cells) → layout_by false opt (sort_of (base_of m.base)) p x ≡ Some (Rows ix (places_from opt k m.cells))
array_found p m ix x k false s o at found =
    let sort = sort_of (base_of m.base) in
    let item : shown_item sort p x ≡ Some (record { label = x; index = ix; items = value_places false k m.cells }) = ap (where_of_sort sort p.vars) found.0 ∙ where_true sort p.vars (record { label = x; index = ix; items = value_places false k m.cells }) (values_sorted p.vars m false x m.cells 1 k s o at) in
    ap (option_map (λ a. Rows a.index (map value_alone a.items))) item ∙ ap (λ ps. Some (Rows ix ps)) (plain_places k m.cells)
array_found p m ix x k true s o at found =
    let sort = sort_of (base_of m.base) in
    let here : ArrayItem = record { label = occurrence_name x; index = ix; items = occurrence_places k m.cells } in
    let value : ArrayItem = record { label = value_name x; index = ix; items = value_places true k m.cells } in
    let first : shown_item Truth p (occurrence_name x) ≡ Some here = ap (where_of_sort Truth p.vars) found.0 ∙ where_true Truth p.vars here (occurrences_sorted p.vars m x m.cells 1 k s o at) in
    let second : shown_item sort p (value_name x) ≡ Some value = ap (where_of_sort sort p.vars) found.1.0 ∙ where_true sort p.vars value (values_sorted p.vars m true x m.cells 1 k s o at) in
    ap (λ o. both_items o (shown_item sort p (value_name x))) first
    ∙ ap (both_items (Some here)) second
    ∙ ap (λ b. if b then Some (Rows ix (paired (occurrence_places k m.cells) (value_places true k m.cells))) else None) (same_self ix)
    ∙ ap (λ ps. Some (Rows ix ps)) (option_places k m.cells)

-- ---- any variable

var_found : (p : Program) (m : ModelVar) (x : Name) (k : ℕ) (ix : Option (List Range)) (cs : List VarCell) → m.index ≡ ix → m.cells ≡ cs → AreDistinct (labels_of p.vars) → IsCounted ix (length cs) → VarsAt p.vars k (variables_from m 1 x m.cells) → ItemsFound p.arrays (var_arrays ix m.opt x k m.cells) → layout_by (is_none ix) m.opt (sort_of (base_of m.base)) p x ≡ layout_from ix m.opt k m.cells
var_found p m x k (Some ix) cs i c distinct count at found = array_found p m ix x k m.opt (ap is_none i) refl at found
var_found p m x k None [] i c distinct count at found = absurd (omega (arith, count))
var_found p m x k None (c ∷ d ∷ cs) i e distinct count at found = absurd (omega (arith, count))
var_found p m x k None (c ∷ []) i e distinct count at found =
    let scalar = subst (λ b. VarsAt p.vars k (cell_variables b m.opt 1 x (value_part m c) ++ [])) (ap is_none i) (subst (λ cs. VarsAt p.vars k (variables_from m 1 x cs)) e at) in
    scalar_found p m c x k m.opt distinct scalar ∙ ap (layout_from None m.opt k) (sym e)

var_domains : (vs : List Variable) (m : ModelVar) (opt : Bool) (x : Name) (cs : List VarCell) (j k : ℕ) → m.opt ≡ opt → VarsAt vs k (variables_from m j x cs) → AreDomains vs m k cs
var_domains vs m opt x [] j k o at = tt
var_domains vs m true x (c ∷ cs) j k o at =
    let here = subst (λ opt. VarsAt vs k (cell_variables (is_none m.index) opt j x (value_part m c) ++ variables_from m (suc j) x cs)) o at in
    let first : domain_at vs (suc k) ≡ Some (domain_by (sort_of (base_of m.base)) c.domain) = ap (option_map (λ (v : Variable). v.domain)) here.1.0 in
    (ap (λ o. domain_at vs (value_place o k)) o ∙ first, subst (λ o. AreDomains vs m (next o k) cs) (sym o) (var_domains vs m true x cs (suc j) (suc (suc k)) o here.1.1))
var_domains vs m false x (c ∷ cs) j k o at =
    let here = subst (λ opt. VarsAt vs k (cell_variables (is_none m.index) opt j x (value_part m c) ++ variables_from m (suc j) x cs)) o at in
    let first : domain_at vs k ≡ Some (domain_by (sort_of (base_of m.base)) c.domain) = ap (option_map (λ (v : Variable). v.domain)) here.0 in
    (ap (λ o. domain_at vs (value_place o k)) o ∙ first, subst (λ o. AreDomains vs m (next o k) cs) (sym o) (var_domains vs m false x cs (suc j) (suc k) o here.1))

all_found : (table : List Name) (p : Program) (ms : List ModelVar) (k : ℕ) → AreDistinct (labels_of p.vars) → AreModelVars ms → VarsAt p.vars k (front_variables table ms ++ []) → ItemsFound p.arrays (front_arrays table k ms) → AreFound table p k ms
all_found table p [] k distinct sound at found = tt
all_found table p (m ∷ ms) k distinct sound at found =
    let x = text_of table m.name in
    let split = vars_first p.vars m (is_none m.index) m.opt x m.cells 1 k (front_variables table ms ++ []) refl refl (subst (VarsAt p.vars k) (append_assoc (variables_from m 1 x m.cells) (front_variables table ms) []) at) in
    let arrays = var_arrays m.index m.opt x k m.cells in
    let more = front_arrays table (after_cells m.opt m.cells k) ms in (
      record {
        layout = var_found p m x k m.index m.cells refl refl distinct sound.0.count split.0 (items_first p.arrays arrays more found);
        domains = var_domains p.vars m m.opt x m.cells 1 k refl split.0;
      },
      all_found table p ms (after_cells m.opt m.cells k) distinct sound.1 split.1 (items_rest p.arrays arrays more found),
    )

-- ---- the names of a well-formed program

contains_first : {A : Type 0} (xs ys : List A) (x : A) → Contains xs x → Contains (xs ++ ys) x
contains_first [] ys x (k, below, at) = absurd (omega (arith, below))
contains_first (z ∷ xs) ys x (zero, below, at) = (0, omega arith, at)
contains_first (z ∷ xs) ys x (suc k, below, at) = deeper (contains_first xs ys x (k, omega (arith, below), at))
  where
    deeper : Contains (xs ++ ys) x → Contains (z ∷ (xs ++ ys)) x
    deeper (j, low, there) = (suc j, omega (arith, low), there)

pub distinct_first : (xs ys : List Name) → AreDistinct (xs ++ ys) → AreDistinct xs
distinct_first [] ys distinct = tt
distinct_first (x ∷ xs) ys distinct = (λ c. distinct.0 (contains_first xs ys x c), distinct_first xs ys distinct.1)

pub distinct_rest : (xs ys : List Name) → AreDistinct (xs ++ ys) → AreDistinct ys
distinct_rest [] ys distinct = distinct
distinct_rest (x ∷ xs) ys distinct = distinct_rest xs ys distinct.1

nothing_after : (vs rest : List Variable) (k : ℕ) → VarsAt vs k rest → VarsAt vs k (rest ++ [])
nothing_after vs [] k at = tt
nothing_after vs (r ∷ rest) k at = (at.0, nothing_after vs rest (suc k) at.1)

pub front_at : (inst : Instance) (table : List Name) (p : Program) → Faithful inst table p → VarsAt p.vars 0 (front_variables table inst.vars)
front_at inst table p faithful = vars_from p.vars (front_variables table inst.vars) faithful.introduced 0 (λ j. ap (slice_get p.vars) (omega arith) ∙ ap (λ vs. slice_get vs j) faithful.vars)

pub front_found : (inst : Instance) (table : List Name) (p : Program) → IsInstance inst → Faithful inst table p → AreFound table p 0 inst.vars
front_found inst table p sound faithful =
    let vars = labels_of p.vars in
    let arrays = array_labels p.arrays in
    let found = items_by p.arrays p.arrays (λ k a at. items_found p.arrays k a (distinct_rest vars arrays faithful.formed.distinct) at) in
    all_found table p inst.vars 0 (distinct_first vars arrays faithful.formed.distinct) sound.vars (nothing_after p.vars (front_variables table inst.vars) 0 (front_at inst table p faithful)) (subst (ItemsFound p.arrays) faithful.arrays found)
