-- The arrays of a front may be added one after the other.
use Rattle.std.proofs.Common.{◌≡◌, ◌≢◌, ◌⊎◌, ℕ, zero, suc, ◌+◌, ◌*◌, ℤ, pos, ◌≤ℤ◌, List, [], ◌∷◌, ◌++◌, length, map, slice_get, Bool, true, false, ◌&&◌, ◌||◌, Option, Some, None, is_none, is_some, Contains, inl, inr, refl, sym, ap, ap₂, subst, ◌∙◌, arith, append-nil, append_assoc, int_le}
use Rattle.std.specs.List.{AllByRecursion, flat_map, list_all}
use Rattle.std.specs.Ordering.{int_eq}
use Rattle.std.proofs.lemmas.List.{map-append}
use Rattle.std.proofs.lemmas.Bool.{and_from}
use Rattle.std.proofs.lemmas.Bool.Decides.{Decides-int_eq}
use Rattle.mz_base.specs.Names.{text_of}
use Rattle.mz_base.specs.Words.{is_identifier}
use Rattle.mz_value.specs.Ranges.{Range, IsInLimit, least, greatest, cardinality, range_of}
use Rattle.mz_value.proofs.Comparisons.{int_le_true}
use Rattle.mz_operations.specs.Arrays as operations
use Rattle.mz_arena.specs.Entries.{at}
use Rattle.mz_arena.specs.Instances.{VarCell, ModelVar}
use Rattle.mz_instance.specs.Parts.{Sort, Whole, Truth, Subset, Part, sort_of, base_of, value_part, occurrence, next, after_cells, cell_ids, var_ids, ids, after_occurrence}
use Rattle.mz_instance.specs.Instance.{IsModelVar, AreModelVars, AreOccurring, IsCounted, IsIndex, IsIndexRange, AreIndexRanges}
use Rattle.fz_program.specs.Names.{Name}
use Rattle.fz_program.specs.declared.program.Domain.{Domain}
use Rattle.fz_program.specs.declared.program.Domain.TheVariants.{Bool as Truths, Ints as Integers, SetOf}
use Rattle.fz_program.specs.declared.row_name.Kind.{Kind}
use Rattle.fz_program.specs.declared.row_name.Kind.TheVariants.{Int, Bool as TruthKind, Set}
use Rattle.fz_program.specs.Arguments.{Plain, var}
use Rattle.fz_program.specs.Flat.{Variable, ArrayItem, Program, AreDistinct, labels, labels_of, array_labels, kind_of_domain, same_kind, is_variable_of, are_variables_of, are_alike, is_index_range, is_index, is_kind, is_literal, place_count}
use Rattle.fz_build.specs.Build.{MayAdd, with_array}
use Rattle.flat_meaning.specs.Front.{domain_by, front_variable, occurrence_label, value_label, cell_variables, variables_from, front_variables, value_place, value_places, occurrence_places, array_item, var_arrays, front_arrays, occurrence_name, value_name, AreNamed}
use Rattle.flat.specs.Arrays.{MayAddAll, as_place, place_at, HasVariable, HaveVariables, value_ids, as_ids, occurrence_ids, array_over, arrays_by, arrays_at, all_arrays, HaveElements, HaveAllElements}
use Rattle.flat.proofs.Tags.{is_name, not_introduced}
use Rattle.flat.proofs.Labels.{all_append, AreSmall, IsFrontLabel, all_distinct, item_labels}
use Rattle.flat.proofs.Declarable.{distinct_new}

-- ---- index ranges

index_range : (r : Range) → IsIndexRange r → is_index_range r ≡ true
index_range r h = elim h.ordered [
  | inl e ↦ ap (λ (q : Range). (int_eq q.0 (pos 1) && int_eq q.1 (pos 0)) || (int_le q.0 q.1 && (is_literal q.0 && is_literal q.1))) e
  | inr o ↦ or_right (int_eq r.0 (pos 1) && int_eq r.1 (pos 0)) (and_from (int_le r.0 r.1) (is_literal r.0 && is_literal r.1) (int_le_true r.0 r.1 o) (and_from (is_literal r.0) (is_literal r.1) (literal r.0 h.least) (literal r.1 h.greatest)))
]
  where
    or_right : {b : Bool} (a : Bool) → b ≡ true → (a || b) ≡ true
    or_right true h = refl
    or_right false h = h

    literal : (n : ℤ) → IsInLimit n → is_literal n ≡ true
    literal n h = and_from (int_le least n) (int_le n greatest) (int_le_true least n h.0) (int_le_true n greatest h.1)

index_ranges : (rs : List Range) → AreIndexRanges rs → list_all is_index_range rs ≡ true
index_ranges [] h = refl
index_ranges (r ∷ rs) h = and_from (is_index_range r) (list_all is_index_range rs) (index_range r h.0) (index_ranges rs h.1)

index_is : (ix : List Range) → IsIndex (Some ix) → is_index ix ≡ true
index_is [] h = absurd (h.0 refl)
index_is (r ∷ rs) h = index_ranges (r ∷ rs) h.1

counts : (ix : List Range) → place_count ix ≡ operations.place_count ix
unfolding place_count operations.place_count
counts [] = refl
counts (r ∷ rs) = ap (λ n. cardinality (range_of r.0 r.1) * n) (counts rs)

-- ---- elements of one kind

abbrev kind_of : Sort → Kind
kind_of Whole = Int
kind_of Truth = TruthKind
kind_of Subset = Set

same_sort : (sort : Sort) (u : List Range) → same_kind (kind_of sort) (kind_of_domain (domain_by sort u)) ≡ true
unfolding same_kind kind_of_domain
same_sort Whole u = refl
same_sort Truth u = refl
same_sort Subset u = refl

alike : (vs : List Variable) (sort : Sort) (items : List ℕ) → are_variables_of vs (kind_of sort) items ≡ true → are_alike vs items ≡ true
alike vs Whole items h = ap (λ b. b || (are_variables_of vs TruthKind items || are_variables_of vs Set items)) h
alike vs Truth items h = middle (are_variables_of vs Int items) (are_variables_of vs TruthKind items) (are_variables_of vs Set items) h
  where
    middle : (a b c : Bool) → b ≡ true → (a || (b || c)) ≡ true
    middle true b c h = refl
    middle false true c h = refl
    middle false false c h = absurd (cc)
alike vs Subset items h = last (are_variables_of vs Int items) (are_variables_of vs TruthKind items) (are_variables_of vs Set items) h
  where
    last : (a b c : Bool) → c ≡ true → (a || (b || c)) ≡ true
    last true b c h = refl
    last false true c h = refl
    last false false c h = h

-- there are these variables from a place on
abbrev VarsAt : List Variable → ℕ → List Variable → Type 0
VarsAt all k [] = Unit {0}
VarsAt all k (v ∷ vs) = (slice_get all k ≡ Some v) × VarsAt all (suc k) vs

vars_all : (all vs : List Variable) (k : ℕ) → ((j : ℕ) → slice_get all (k + j) ≡ slice_get vs j) → VarsAt all k vs
vars_all all [] k same = tt
vars_all all (v ∷ vs) k same = (ap (slice_get all) (omega arith) ∙ same 0, vars_all all vs (suc k) (λ j. ap (slice_get all) (omega arith) ∙ same (suc j)))

of_kind : (all : List Variable) (k : ℕ) (scalar : Bool) (x : Name) (p : Part) → slice_get all k ≡ Some (front_variable scalar x p) → is_variable_of all (kind_of p.sort) k ≡ true
of_kind all k scalar x p h = ap (λ o. is_kind o (kind_of p.sort)) h ∙ same_sort p.sort p.set

-- what the variables of cells tell of the cells' places, and what stands after them
record CellsAt (all : List Variable) (sort : Sort) (opt : Bool) (cs : List VarCell) (k : ℕ) (more : List Variable) : Type 0 where
  values : are_variables_of all (kind_of sort) (value_places opt k cs) ≡ true
  occurrences : opt ≡ true → are_variables_of all TruthKind (occurrence_places k cs) ≡ true
  after : VarsAt all (after_cells opt cs k) more

cells_at : (all : List Variable) (m : ModelVar) (opt : Bool) (x : Name) (cs : List VarCell) (j k : ℕ) (more : List Variable) → m.opt ≡ opt → VarsAt all k (variables_from m j x cs ++ more) → CellsAt all (sort_of (base_of m.base)) opt cs k more
cells_at all m opt x [] j k more o at = record { values = refl; occurrences = λ h. refl; after = at }
cells_at all m true x (c ∷ cs) j k more o at =
    let here = subst (λ opt. VarsAt all k ((cell_variables (is_none m.index) opt j x (value_part m c) ++ variables_from m (suc j) x cs) ++ more)) o at in
    let rest = cells_at all m true x cs (suc j) (suc (suc k)) more o here.1.1 in
    record {
      values = and_from (is_variable_of all (kind_of (sort_of (base_of m.base))) (suc k)) (are_variables_of all (kind_of (sort_of (base_of m.base))) (value_places true (suc (suc k)) cs)) (of_kind all (suc k) (is_none m.index) (value_label (is_none m.index) true j x) (value_part m c) here.1.0) rest.values;
      occurrences = λ h. and_from (is_variable_of all TruthKind k) (are_variables_of all TruthKind (occurrence_places (suc (suc k)) cs)) (of_kind all k (is_none m.index) (occurrence_label (is_none m.index) j x) occurrence here.0) (rest.occurrences refl);
      after = rest.after;
    }
cells_at all m false x (c ∷ cs) j k more o at =
    let here = subst (λ opt. VarsAt all k ((cell_variables (is_none m.index) opt j x (value_part m c) ++ variables_from m (suc j) x cs) ++ more)) o at in
    let rest = cells_at all m false x cs (suc j) (suc k) more o here.1 in
    record {
      values = and_from (is_variable_of all (kind_of (sort_of (base_of m.base))) k) (are_variables_of all (kind_of (sort_of (base_of m.base))) (value_places false (suc k) cs)) (of_kind all k (is_none m.index) (value_label (is_none m.index) false j x) (value_part m c) here.0) rest.values;
      occurrences = λ h. absurd (cc);
      after = rest.after;
    }

-- ---- well-formed arrays

value_count : (opt : Bool) (k : ℕ) (cs : List VarCell) → length (value_places opt k cs) ≡ length cs
value_count opt k [] = refl
value_count opt k (c ∷ cs) = ap suc (value_count opt (next opt k) cs)

occurrence_count : (k : ℕ) (cs : List VarCell) → length (occurrence_places k cs) ≡ length cs
occurrence_count k [] = refl
occurrence_count k (c ∷ cs) = ap suc (occurrence_count (suc (suc k)) cs)

-- but for its name
record IsFormed (all : List Variable) (a : ArrayItem) : Type 0 where
  index : is_index a.index ≡ true
  count : place_count a.index ≡ length a.items
  alike_ : are_alike all a.items ≡ true

item_formed : (all : List Variable) (sort : Sort) (x : Name) (ix : List Range) (n : ℕ) (items : List ℕ) → IsIndex (Some ix) → IsCounted (Some ix) n → length items ≡ n → are_variables_of all (kind_of sort) items ≡ true → IsFormed all (array_item x ix items)
item_formed all sort x ix n items i c l a = record { index = index_is ix i; count = counts ix ∙ sym c ∙ sym l; alike_ = alike all sort items a }

var_formed : (all : List Variable) (sort : Sort) (ix : Option (List Range)) (opt : Bool) (x : Name) (k : ℕ) (cs : List VarCell) (more : List Variable) → IsIndex ix → IsCounted ix (length cs) → CellsAt all sort opt cs k more → AllByRecursion (IsFormed all) (var_arrays ix opt x k cs)
var_formed all sort None opt x k cs more i c h = tt
var_formed all sort (Some r) false x k cs more i c h = (item_formed all sort x r (length cs) (value_places false k cs) i c (value_count false k cs) h.values, tt)
var_formed all sort (Some r) true x k cs more i c h = (
  item_formed all Truth (occurrence_name x) r (length cs) (occurrence_places k cs) i c (occurrence_count k cs) (h.occurrences refl),
  (item_formed all sort (value_name x) r (length cs) (value_places true k cs) i c (value_count true k cs) h.values, tt),
)

all_formed : (all : List Variable) (table : List Name) (ms : List ModelVar) (k : ℕ) → AreModelVars ms → VarsAt all k (front_variables table ms) → AllByRecursion (IsFormed all) (front_arrays table k ms)
all_formed all table [] k sound at = tt
all_formed all table (m ∷ ms) k sound at =
    let x = text_of table m.name in
    let h = cells_at all m m.opt x m.cells 1 k (front_variables table ms) refl at in
    all_append (IsFormed all) (var_arrays m.index m.opt x k m.cells) (front_arrays table (after_cells m.opt m.cells k) ms)
    (var_formed all (sort_of (base_of m.base)) m.index m.opt x k m.cells (front_variables table ms) sound.0.index sound.0.count h)
    (all_formed all table ms (after_cells m.opt m.cells k) sound.1 h.after)

-- ---- one after the other

new_item : (p : Program) (a : ArrayItem) (more : List ArrayItem) → AreDistinct (labels_of p.vars ++ array_labels (p.arrays ++ a ∷ more)) → Contains (labels p) a.label → ⊥
new_item p a more d c =
    distinct_new (labels p) a.label (array_labels more)
    (subst AreDistinct (ap (λ ls. labels_of p.vars ++ ls) (map-append (λ (b : ArrayItem). b.label) p.arrays (a ∷ more)) ∙ sym (append_assoc (labels_of p.vars) (array_labels p.arrays) (a.label ∷ array_labels more))) d)
    c

add_all : (p : Program) (items : List ArrayItem) → AllByRecursion (IsFormed p.vars) items → AllByRecursion IsFrontLabel (array_labels items) → AreDistinct (labels_of p.vars ++ array_labels (p.arrays ++ items)) → MayAddAll p items
add_all p [] f l d = tt
add_all p (a ∷ more) f l d = (
  record {
    array = record { label = subst (λ y. is_identifier y ≡ true) (sym l.0.is) (is_name l.0.tag l.0.name l.0.small l.0.own_); index = f.0.index; count = f.0.count; alike = f.0.alike_ };
    new = new_item p a more d;
    named = λ k e. not_introduced l.0.tag l.0.name l.0.own_ k (sym l.0.is ∙ e);
  },
  add_all (with_array p a) more f.1 l.1 (subst (λ items. AreDistinct (labels_of p.vars ++ array_labels items)) (sym (append_assoc p.arrays (a ∷ []) more)) d),
)

-- ALL ARRAYS of a front may be added to its variables
pub arrays_may : (table : List Name) (ms : List ModelVar) (p : Program) → AreModelVars ms → AreSmall ms → AreNamed table ms → p.vars ≡ front_variables table ms → p.arrays ≡ [] → MayAddAll p (front_arrays table 0 ms)
arrays_may table ms p sound small named vars none =
    add_all p (front_arrays table 0 ms)
    (subst (λ vs. AllByRecursion (IsFormed vs) (front_arrays table 0 ms)) (sym vars) (all_formed (front_variables table ms) table ms 0 sound (vars_all (front_variables table ms) (front_variables table ms) 0 (λ j. ap (slice_get (front_variables table ms)) (omega arith)))))
    (item_labels table 0 ms named.names)
    (subst (λ vs. AreDistinct (labels_of vs ++ array_labels (p.arrays ++ front_arrays table 0 ms))) (sym vars)
    (subst (λ items. AreDistinct (labels_of (front_variables table ms) ++ array_labels (items ++ front_arrays table 0 ms))) (sym none) (all_distinct table ms sound small named)))

-- ---- the arrays by their nodes

-- the nodes have the variables from the place k on
abbrev ArePlaced : List (Option Plain) → ℕ → List ℕ → Type 0
ArePlaced args k [] = Unit {0}
ArePlaced args k (i ∷ is) = (at args i ≡ Some (var k)) × ArePlaced args (suc k) is

placed_all : (args : List (Option Plain)) (is : List ℕ) (k : ℕ) → ((n i : ℕ) → slice_get is n ≡ Some i → at args i ≡ Some (var (k + n))) → ArePlaced args k is
placed_all args [] k h = tt
placed_all args (i ∷ is) k h = (h 0 i refl ∙ ap (λ n. Some (var n)) (omega arith), placed_all args is (suc k) (λ n j e. h (suc n) j e ∙ ap (λ n. Some (var n)) (omega arith)))

record PlacedCells (args : List (Option Plain)) (opt : Bool) (cs : List VarCell) (k : ℕ) (more : List ℕ) : Type 0 where
  values : map (place_at args) (value_ids cs) ≡ value_places opt k cs
  occurrences : opt ≡ true → map (place_at args) (occurrence_ids cs) ≡ occurrence_places k cs
  have : HaveElements args cs
  after : ArePlaced args (after_cells opt cs k) more

has_variable : (args : List (Option Plain)) (i k : ℕ) → at args i ≡ Some (var k) → HasVariable args i
has_variable args i k h = record { place = k; is = h }

placed_cell : (args : List (Option Plain)) (opt : Bool) (o : Option ℕ) (i : ℕ) (d : List Range) (cs : List VarCell) (k : ℕ) (more is : List ℕ) → is_some o ≡ opt → ArePlaced args k (after_occurrence o i ++ is) → ((l : ℕ) → ArePlaced args l is → PlacedCells args opt cs l more) → PlacedCells args opt (record { occurs = o; term = i; domain = d } ∷ cs) k more
placed_cell args true (Some o) i d cs k more is e h go =
    let r = go (suc (suc k)) h.1.1 in
    record {
      values = ap₂ (λ n ns. n ∷ ns) (ap as_place h.1.0) r.values;
      occurrences = λ e. ap₂ (λ n ns. n ∷ ns) (ap as_place h.0) (r.occurrences e);
      have = ((has_variable args i (suc k) h.1.0, r.have.0), (has_variable args o k h.0, r.have.1));
      after = r.after;
    }
placed_cell args true None i d cs k more is e h go = absurd (cc)
placed_cell args false (Some o) i d cs k more is e h go = absurd (cc)
placed_cell args false None i d cs k more is e h go =
    let r = go (suc k) h.1 in
    record {
      values = ap₂ (λ n ns. n ∷ ns) (ap as_place h.0) r.values;
      occurrences = λ e. absurd (cc);
      have = ((has_variable args i k h.0, r.have.0), r.have.1);
      after = r.after;
    }

placed_cells : (args : List (Option Plain)) (opt : Bool) (cs : List VarCell) (k : ℕ) (more : List ℕ) → AreOccurring opt cs → ArePlaced args k (flat_map cell_ids cs ++ more) → PlacedCells args opt cs k more
placed_cells args opt [] k more o h = record { values = refl; occurrences = λ e. refl; have = (tt, tt); after = h }
placed_cells args opt (c ∷ cs) k more o h =
    placed_cell args opt c.occurs c.term c.domain cs k more (flat_map cell_ids cs ++ more) o.0 (subst (ArePlaced args k) (append_assoc (cell_ids c) (flat_map cell_ids cs) more) h)
    (λ l g. placed_cells args opt cs l more o.1 g)

var_arrays_by : (args : List (Option Plain)) (ix : Option (List Range)) (opt : Bool) (x : Name) (k : ℕ) (cs : List VarCell) (more : List ℕ) → PlacedCells args opt cs k more → arrays_by args ix opt x cs ≡ var_arrays ix opt x k cs
var_arrays_by args None opt x k cs more h = refl
var_arrays_by args (Some r) false x k cs more h = ap (λ items. array_item x r items ∷ []) h.values
var_arrays_by args (Some r) true x k cs more h = ap₂ (λ items more. array_item (occurrence_name x) r items ∷ array_item (value_name x) r more ∷ []) (h.occurrences refl) h.values

arrays_are : (args : List (Option Plain)) (table : List Name) (ms : List ModelVar) (k : ℕ) → AreModelVars ms → ArePlaced args k (ids ms) → all_arrays args table ms ≡ front_arrays table k ms
arrays_are args table [] k sound h = refl
arrays_are args table (m ∷ ms) k sound h =
    let p = placed_cells args m.opt m.cells k (ids ms) sound.0.cells h in
    ap₂ (λ xs ys. xs ++ ys) (var_arrays_by args m.index m.opt (text_of table m.name) k m.cells (ids ms) p) (arrays_are args table ms (after_cells m.opt m.cells k) sound.1 p.after)

elements_are : (args : List (Option Plain)) (ms : List ModelVar) (k : ℕ) → AreModelVars ms → ArePlaced args k (ids ms) → HaveAllElements args ms
elements_are args [] k sound h = tt
elements_are args (m ∷ ms) k sound h =
    let p = placed_cells args m.opt m.cells k (ids ms) sound.0.cells h in
    (p.have, elements_are args ms (after_cells m.opt m.cells k) sound.1 p.after)

module _ (args : List (Option Plain)) (ms : List ModelVar) (sound : AreModelVars ms) (h : (n i : ℕ) → slice_get (ids ms) n ≡ Some i → at args i ≡ Some (var n)) where
  placed : ArePlaced args 0 (ids ms)
  placed = placed_all args (ids ms) 0 (λ n i e. h n i e ∙ ap (λ n. Some (var n)) (omega arith))

  pub arrays_by_nodes : (table : List Name) → all_arrays args table ms ≡ front_arrays table 0 ms
  arrays_by_nodes table = arrays_are args table ms 0 sound placed

  pub have_elements : HaveAllElements args ms
  have_elements = elements_are args ms 0 sound placed
