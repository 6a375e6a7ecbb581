-- The names of the variables and the arrays of a model differ.
use Rattle.std.proofs.Common.{◌≡◌, ◌⊎◌, ℕ, zero, suc, ◌+◌, ◌<◌, ◌≤◌, ◌^◌, List, [], ◌∷◌, ◌++◌, length, map, slice_index_or, Bool, true, false, not, Option, Some, None, is_none, Contains, inl, inr, refl, sym, ap, ap₂, subst, ◌∙◌, arith}
use Rattle.std.specs.List.{AllByRecursion}
use Rattle.std.proofs.lemmas.List.{map-append}
use Rattle.mz_base.specs.Names.{text_of}
use Rattle.mz_value.specs.Ranges.{Range}
use Rattle.mz_arena.specs.Instances.{VarCell, ModelVar}
use Rattle.mz_instance.specs.Instance.{IsModelVar, AreModelVars, IsCounted}
use Rattle.mz_instance.specs.Parts.{Part, value_part, after_cells}
use Rattle.fz_program.specs.Names.{Name}
use Rattle.fz_program.specs.Flat.{Variable, ArrayItem, AreDistinct, labels_of, array_labels}
use Rattle.fz_program.proofs.Labels.{contains_one}
use Rattle.flat_meaning.specs.Front.{occurrence_label, value_label, cell_variables, variables_from, front_variables, var_arrays, front_arrays, HasName, HaveNames, AreNamed}
use Rattle.flat.proofs.Tags.{Tag, own, element, occurs, occurs_at, value, value_at, tagged, IsSmall, IsOwnName, IsSameTag, same_label}

-- ---- lists of names

all_at : {X : Type 0} (P : X → Type 0) (xs : List X) (x : X) → AllByRecursion P xs → Contains xs x → P x
all_at P [] x a h = absurd (omega (arith, h.1))
all_at P (y ∷ xs) x a (zero, below, at) = subst P at a.0
all_at P (y ∷ xs) x a (suc k, below, at) = all_at P xs x a.1 (k, omega (arith, below), at)

pub all_append : {X : Type 0} (P : X → Type 0) (xs ys : List X) → AllByRecursion P xs → AllByRecursion P ys → AllByRecursion P (xs ++ ys)
all_append P [] ys a b = b
all_append P (x ∷ xs) ys a b = (a.0, all_append P xs ys a.1 b)

all_weaker : {X : Type 0} (P Q : X → Type 0) (xs : List X) → ((x : X) → P x → Q x) → AllByRecursion P xs → AllByRecursion Q xs
all_weaker P Q [] f a = tt
all_weaker P Q (x ∷ xs) f a = (f x a.0, all_weaker P Q xs f a.1)

pub distinct_both : (xs ys : List Name) → AreDistinct xs → AreDistinct ys → ((z : Name) → Contains xs z → Contains ys z → ⊥) → AreDistinct (xs ++ ys)
distinct_both [] ys d e apart = e
distinct_both (x ∷ xs) ys d e apart = (
  λ h. elim (contains_one xs ys x h) [ inl a ↦ d.0 a | inr b ↦ apart x (0, omega arith, refl) b ],
  distinct_both xs ys d.1 e (λ z a b. apart z (suc a.0, omega (arith, a.1), a.2) b),
)

-- ---- the names of one variable

abbrev cell_labels : Bool → Bool → ℕ → Name → List Name
cell_labels scalar true k x = occurrence_label scalar k x ∷ value_label scalar true k x ∷ []
cell_labels scalar false k x = value_label scalar false k x ∷ []

abbrev labels_from : Bool → Bool → ℕ → Name → ℕ → List Name
labels_from scalar opt k x zero = []
labels_from scalar opt k x (suc n) = cell_labels scalar opt k x ++ labels_from scalar opt (suc k) x n

labels_of_cell : (scalar opt : Bool) (k : ℕ) (x : Name) (p : Part) → labels_of (cell_variables scalar opt k x p) ≡ cell_labels scalar opt k x
labels_of_cell scalar true k x p = refl
labels_of_cell scalar false k x p = refl

labels_are : (m : ModelVar) (k : ℕ) (x : Name) (cs : List VarCell) → labels_of (variables_from m k x cs) ≡ labels_from (is_none m.index) m.opt k x (length cs)
labels_are m k x [] = refl
labels_are m k x (c ∷ cs) =
    map-append (λ (v : Variable). v.label) (cell_variables (is_none m.index) m.opt k x (value_part m c)) (variables_from m (suc k) x cs)
    ∙ ap₂ (λ ls ms. ls ++ ms) (labels_of_cell (is_none m.index) m.opt k x (value_part m c)) (labels_are m (suc k) x cs)

-- of a scalar no place, of an array one from k on
abbrev IsFrom : Bool → ℕ → Tag → Type 0
IsFrom true k own = Unit {0}
IsFrom true k occurs = Unit {0}
IsFrom true k value = Unit {0}
IsFrom false k (element j) = k ≤ j
IsFrom false k (occurs_at j) = k ≤ j
IsFrom false k (value_at j) = k ≤ j
IsFrom _ k _ = ⊥

record IsLabel (P : Tag → Type 0) (x z : Name) : Type 0 where
  tag : Tag
  fits : P tag
  small : IsSmall tag
  is : z ≡ tagged tag x

weaker_label : (P Q : Tag → Type 0) (x z : Name) → ((t : Tag) → P t → Q t) → IsLabel P x z → IsLabel Q x z
weaker_label P Q x z f h = record { tag = h.tag; fits = f h.tag h.fits; small = h.small; is = h.is }

later : (k : ℕ) (t : Tag) → IsFrom false (suc k) t → IsFrom false k t
later k own h = absurd h
later k (element j) h = omega (arith, h)
later k occurs h = absurd h
later k (occurs_at j) h = omega (arith, h)
later k value h = absurd h
later k (value_at j) h = omega (arith, h)

-- the labels of a cell
cell_tagged : (scalar opt : Bool) (k : ℕ) (x : Name) → k < 2 ^ 64 → AllByRecursion (IsLabel (IsFrom scalar k) x) (cell_labels scalar opt k x)
cell_tagged true true k x s = (record { tag = occurs; fits = tt; small = tt; is = refl }, (record { tag = value; fits = tt; small = tt; is = refl }, tt))
cell_tagged true false k x s = (record { tag = own; fits = tt; small = tt; is = refl }, tt)
cell_tagged false true k x s = (record { tag = occurs_at k; fits = omega arith; small = s; is = refl }, (record { tag = value_at k; fits = omega arith; small = s; is = refl }, tt))
cell_tagged false false k x s = (record { tag = element k; fits = omega arith; small = s; is = refl }, tt)

later_any : (scalar : Bool) (k : ℕ) (t : Tag) → IsFrom scalar (suc k) t → IsFrom scalar k t
later_any true k own h = tt
later_any true k (element j) h = absurd h
later_any true k occurs h = tt
later_any true k (occurs_at j) h = absurd h
later_any true k value h = tt
later_any true k (value_at j) h = absurd h
later_any false k t h = later k t h

all_tagged : (scalar opt : Bool) (k : ℕ) (x : Name) (n : ℕ) → k + n ≤ 2 ^ 64 → AllByRecursion (IsLabel (IsFrom scalar k) x) (labels_from scalar opt k x n)
all_tagged scalar opt k x zero s = tt
all_tagged scalar opt k x (suc n) s =
    all_append (IsLabel (IsFrom scalar k) x) (cell_labels scalar opt k x) (labels_from scalar opt (suc k) x n) (cell_tagged scalar opt k x (omega (arith, s)))
    (all_weaker (IsLabel (IsFrom scalar (suc k)) x) (IsLabel (IsFrom scalar k) x) (labels_from scalar opt (suc k) x n) (λ z h. weaker_label (IsFrom scalar (suc k)) (IsFrom scalar k) x z (later_any scalar k) h) (all_tagged scalar opt (suc k) x n (omega (arith, s))))

-- a label of another tag
other_tag : (P : Tag → Type 0) (t : Tag) (x : Name) → IsOwnName x → IsSmall t → (P t → ⊥) → IsLabel P x (tagged t x) → ⊥
other_tag P t x h s never l = let e = same_label t l.tag x x s l.small h h l.is in never (subst P (sym e.tag) l.fits)

-- not among labels of other tags
apart_from : (P : Tag → Type 0) (t : Tag) (x : Name) (ls : List Name) → IsOwnName x → IsSmall t → (P t → ⊥) → AllByRecursion (IsLabel P x) ls → Contains ls (tagged t x) → ⊥
apart_from P t x ls h s never a c = other_tag P t x h s never (all_at (IsLabel P x) ls (tagged t x) a c)

-- these two are different
abbrev Is : Tag → Tag → Type 0
Is t u = t ≡ u

one_label : (t : Tag) (x : Name) → IsSmall t → AllByRecursion (IsLabel (Is t) x) (tagged t x ∷ [])
one_label t x s = (record { tag = t; fits = refl; small = s; is = refl }, tt)

module _ (x : Name) (h : IsOwnName x) where
  scalar_distinct : (opt : Bool) → AreDistinct (cell_labels true opt 1 x)
  scalar_distinct true = (apart_from (Is value) occurs x (value_label true true 1 x ∷ []) h tt (λ e. cc) (one_label value x tt), (λ c. absurd (omega (arith, c.1)), tt))
  scalar_distinct false = (λ c. absurd (omega (arith, c.1)), tt)

  array_distinct : (opt : Bool) (k n : ℕ) → k + n ≤ 2 ^ 64 → AreDistinct (labels_from false opt k x n)
  array_distinct opt k zero s = tt
  array_distinct true k (suc n) s =
      let more = labels_from false true (suc k) x n in
      let small : k < 2 ^ 64 = omega (arith, s) in
      let rest = all_tagged false true (suc k) x n (omega (arith, s)) in
      let P : Tag → Type 0 = λ t. Is (value_at k) t ⊎ IsFrom false (suc k) t in
      let here : IsLabel P x (value_label false true k x) = record { tag = value_at k; fits = inl refl; small = small; is = refl } in
      let there : AllByRecursion (IsLabel P x) more = all_weaker (IsLabel (IsFrom false (suc k)) x) (IsLabel P x) more (λ z l. weaker_label (IsFrom false (suc k)) P x z (λ t f. inr f) l) rest in (
        apart_from P (occurs_at k) x (value_label false true k x ∷ more) h small (λ p. elim p [ inl e ↦ absurd (cc) | inr f ↦ absurd (omega (arith, f)) ]) (here, there),
        (apart_from (IsFrom false (suc k)) (value_at k) x more h small (λ f. omega (arith, f)) rest, array_distinct true (suc k) n (omega (arith, s))),
      )
  array_distinct false k (suc n) s =
      let more = labels_from false false (suc k) x n in (
        apart_from (IsFrom false (suc k)) (element k) x more h (omega (arith, s)) (λ f. omega (arith, f)) (all_tagged false false (suc k) x n (omega (arith, s))),
        array_distinct false (suc k) n (omega (arith, s)),
      )

abbrev one_or_more : Option (List Range) → ℕ → Type 0
one_or_more ix n = IsCounted ix n

var_distinct : (ix : Option (List Range)) (opt : Bool) (x : Name) (n : ℕ) → IsOwnName x → IsCounted ix n → 1 + n ≤ 2 ^ 64 → AreDistinct (labels_from (is_none ix) opt 1 x n)
var_distinct (Some r) opt x n h c s = array_distinct x h opt 1 n s
var_distinct None opt x zero h c s = absurd (omega (arith, c))
var_distinct None opt x (suc zero) h c s = subst AreDistinct (sym (nothing_after (cell_labels true opt 1 x))) (scalar_distinct x h opt)
  where
    nothing_after : (xs : List Name) → xs ++ [] ≡ xs
    nothing_after [] = refl
    nothing_after (y ∷ xs) = ap (λ zs. y ∷ zs) (nothing_after xs)
var_distinct None opt x (suc (suc n)) h c s = absurd (omega (arith, c))

-- ---- the names of all variables

-- places are numbers of 64 bits
abbrev pub AreSmall : List ModelVar → Type 0
AreSmall ms = AllByRecursion (λ (m : ModelVar). 1 + length m.cells ≤ 2 ^ 64) ms

own_name : (table : List Name) (m : ModelVar) → HasName table m → IsOwnName (text_of table m.name)
own_name table m h = record { word = h.name; open_ = h.own }

abbrev texts : List Name → List ModelVar → List Name
texts table ms = map (λ (m : ModelVar). text_of table m.name) ms

-- the label of a variable or an array, of which the first tells the tag
abbrev IsLabelOf : (Option (List Range) → Tag → Type 0) → List Name → List ModelVar → Name → Type 0
IsLabelOf P table [] z = ⊥
IsLabelOf P table (m ∷ ms) z = IsLabel (P m.index) (text_of table m.name) z ⊎ IsLabelOf P table ms z

abbrev IsOfVar : Option (List Range) → Tag → Type 0
IsOfVar ix t = IsFrom (is_none ix) 1 t

abbrev IsOfArray : Option (List Range) → Tag → Type 0
IsOfArray None t = ⊥
IsOfArray (Some r) own = Unit {0}
IsOfArray (Some r) occurs = Unit {0}
IsOfArray (Some r) value = Unit {0}
IsOfArray (Some r) _ = ⊥

record IsOfName (table : List Name) (ms : List ModelVar) (z : Name) : Type 0 where
  name : Name
  own_ : IsOwnName name
  in_ : Contains (texts table ms) name
  tag : Tag
  small : IsSmall tag
  is : z ≡ tagged tag name

name_later : (table : List Name) (m : ModelVar) (ms : List ModelVar) (z : Name) → IsOfName table ms z → IsOfName table (m ∷ ms) z
name_later table m ms z h = record { name = h.name; own_ = h.own_; in_ = (suc h.in_.0, omega (arith, h.in_.1), h.in_.2); tag = h.tag; small = h.small; is = h.is }

named : (P : Option (List Range) → Tag → Type 0) (table : List Name) (ms : List ModelVar) (z : Name) → HaveNames table ms → IsLabelOf P table ms z → IsOfName table ms z
named P table [] z n h = absurd h
named P table (m ∷ ms) z n (inl l) = record { name = text_of table m.name; own_ = own_name table m n.0; in_ = (0, omega arith, refl); tag = l.tag; small = l.small; is = l.is }
named P table (m ∷ ms) z n (inr h) = name_later table m ms z (named P table ms z n.1 h)

-- a name that no later one is
other_name : (P : Tag → Type 0) (Q : Option (List Range) → Tag → Type 0) (table : List Name) (x z : Name) (ms : List ModelVar) → IsOwnName x → HaveNames table ms → (Contains (texts table ms) x → ⊥) → IsLabel P x z → IsLabelOf Q table ms z → ⊥
other_name P Q table x z ms o n new l h =
    let y = named Q table ms z n h in
    let e = same_label l.tag y.tag x y.name l.small y.small o y.own_ (sym l.is ∙ y.is) in
    new (subst (Contains (texts table ms)) (sym e.name) y.in_)

one_of : (P : Tag → Type 0) (Q : Option (List Range) → Tag → Type 0) (table : List Name) (m : ModelVar) (ms : List ModelVar) (ls more : List Name) → ((t : Tag) → P t → Q m.index t) → AllByRecursion (IsLabel P (text_of table m.name)) ls → AllByRecursion (IsLabelOf Q table ms) more → AllByRecursion (IsLabelOf Q table (m ∷ ms)) (ls ++ more)
one_of P Q table m ms ls more f a b =
    all_append (IsLabelOf Q table (m ∷ ms)) ls more
    (all_weaker (IsLabel P (text_of table m.name)) (IsLabelOf Q table (m ∷ ms)) ls (λ z l. inl (weaker_label P (Q m.index) (text_of table m.name) z f l)) a)
    (all_weaker (IsLabelOf Q table ms) (IsLabelOf Q table (m ∷ ms)) more (λ z h. inr h) b)

all_of_vars : (table : List Name) (ms : List ModelVar) → AreSmall ms → AllByRecursion (IsLabelOf IsOfVar table ms) (labels_of (front_variables table ms))
all_of_vars table [] s = tt
all_of_vars table (m ∷ ms) s =
    let x = text_of table m.name in
    let vs = variables_from m 1 x m.cells in
    let here : AllByRecursion (IsLabel (IsOfVar m.index) x) (labels_of vs) = subst (AllByRecursion (IsLabel (IsOfVar m.index) x)) (sym (labels_are m 1 x m.cells)) (all_tagged (is_none m.index) m.opt 1 x (length m.cells) s.0) in
    subst (AllByRecursion (IsLabelOf IsOfVar table (m ∷ ms))) (sym (map-append (λ (v : Variable). v.label) vs (front_variables table ms)))
    (one_of (IsOfVar m.index) IsOfVar table m ms (labels_of vs) (labels_of (front_variables table ms)) (λ t h. h) here (all_of_vars table ms s.1))

distinct_next : (P : Tag → Type 0) (Q : Option (List Range) → Tag → Type 0) (table : List Name) (m : ModelVar) (ms : List ModelVar) (ls more : List Name) → HaveNames table (m ∷ ms) → AreDistinct (texts table (m ∷ ms)) → AllByRecursion (IsLabel P (text_of table m.name)) ls → AllByRecursion (IsLabelOf Q table ms) more → AreDistinct ls → AreDistinct more → AreDistinct (ls ++ more)
distinct_next P Q table m ms ls more n d a b here there =
    let x = text_of table m.name in
    distinct_both ls more here there (λ z c e. other_name P Q table x z ms (own_name table m n.0) n.1 d.0 (all_at (IsLabel P x) ls z a c) (all_at (IsLabelOf Q table ms) more z b e))

vars_distinct : (table : List Name) (ms : List ModelVar) → AreModelVars ms → AreSmall ms → HaveNames table ms → AreDistinct (texts table ms) → AreDistinct (labels_of (front_variables table ms))
vars_distinct table [] sound s n d = tt
vars_distinct table (m ∷ ms) sound s n d =
    let x = text_of table m.name in
    let vs = variables_from m 1 x m.cells in
    let is = labels_are m 1 x m.cells in
    let here : AllByRecursion (IsLabel (IsOfVar m.index) x) (labels_of vs) = subst (AllByRecursion (IsLabel (IsOfVar m.index) x)) (sym is) (all_tagged (is_none m.index) m.opt 1 x (length m.cells) s.0) in
    subst AreDistinct (sym (map-append (λ (v : Variable). v.label) vs (front_variables table ms)))
    (distinct_next (IsOfVar m.index) IsOfVar table m ms (labels_of vs) (labels_of (front_variables table ms)) n d here (all_of_vars table ms s.1)
    (subst AreDistinct (sym is) (var_distinct m.index m.opt x (length m.cells) (own_name table m n.0) sound.0.count s.0))
    (vars_distinct table ms sound.1 s.1 n.1 d.1))

-- ---- the names of all arrays

arrays_tagged : (ix : Option (List Range)) (opt : Bool) (x : Name) (k : ℕ) (cs : List VarCell) → AllByRecursion (IsLabel (IsOfArray ix) x) (array_labels (var_arrays ix opt x k cs))
arrays_tagged None opt x k cs = tt
arrays_tagged (Some r) true x k cs = (record { tag = occurs; fits = tt; small = tt; is = refl }, (record { tag = value; fits = tt; small = tt; is = refl }, tt))
arrays_tagged (Some r) false x k cs = (record { tag = own; fits = tt; small = tt; is = refl }, tt)

one_distinct : (ix : Option (List Range)) (opt : Bool) (x : Name) (k : ℕ) (cs : List VarCell) → IsOwnName x → AreDistinct (array_labels (var_arrays ix opt x k cs))
one_distinct None opt x k cs h = tt
one_distinct (Some r) true x k cs h = scalar_distinct x h true
one_distinct (Some r) false x k cs h = scalar_distinct x h false

all_of_arrays : (table : List Name) (k : ℕ) (ms : List ModelVar) → AllByRecursion (IsLabelOf IsOfArray table ms) (array_labels (front_arrays table k ms))
all_of_arrays table k [] = tt
all_of_arrays table k (m ∷ ms) =
    let x = text_of table m.name in
    let here = var_arrays m.index m.opt x k m.cells in
    let more = front_arrays table (after_cells m.opt m.cells k) ms in
    subst (AllByRecursion (IsLabelOf IsOfArray table (m ∷ ms))) (sym (map-append (λ (a : ArrayItem). a.label) here more))
    (one_of (IsOfArray m.index) IsOfArray table m ms (array_labels here) (array_labels more) (λ t h. h) (arrays_tagged m.index m.opt x k m.cells) (all_of_arrays table (after_cells m.opt m.cells k) ms))

arrays_distinct : (table : List Name) (k : ℕ) (ms : List ModelVar) → HaveNames table ms → AreDistinct (texts table ms) → AreDistinct (array_labels (front_arrays table k ms))
arrays_distinct table k [] n d = tt
arrays_distinct table k (m ∷ ms) n d =
    let x = text_of table m.name in
    let here = var_arrays m.index m.opt x k m.cells in
    let more = front_arrays table (after_cells m.opt m.cells k) ms in
    subst AreDistinct (sym (map-append (λ (a : ArrayItem). a.label) here more))
    (distinct_next (IsOfArray m.index) IsOfArray table m ms (array_labels here) (array_labels more) n d (arrays_tagged m.index m.opt x k m.cells) (all_of_arrays table (after_cells m.opt m.cells k) ms)
    (one_distinct m.index m.opt x k m.cells (own_name table m n.0))
    (arrays_distinct table (after_cells m.opt m.cells k) ms n.1 d.1))

-- ---- no variable has the name of an array

no_both : (ix : Option (List Range)) (t : Tag) → IsOfVar ix t → IsOfArray ix t → ⊥
no_both None t v a = a
no_both (Some r) own v a = v
no_both (Some r) (element k) v a = a
no_both (Some r) occurs v a = v
no_both (Some r) (occurs_at k) v a = a
no_both (Some r) value v a = v
no_both (Some r) (value_at k) v a = a

both_apart : (table : List Name) (ms : List ModelVar) (z : Name) → HaveNames table ms → AreDistinct (texts table ms) → IsLabelOf IsOfVar table ms z → IsLabelOf IsOfArray table ms z → ⊥
both_apart table [] z n d v a = v
both_apart table (m ∷ ms) z n d (inl v) (inl a) =
    let h = own_name table m n.0 in
    let e = same_label v.tag a.tag (text_of table m.name) (text_of table m.name) v.small a.small h h (sym v.is ∙ a.is) in
    no_both m.index a.tag (subst (IsOfVar m.index) e.tag v.fits) a.fits
both_apart table (m ∷ ms) z n d (inl v) (inr a) = other_name (IsOfVar m.index) IsOfArray table (text_of table m.name) z ms (own_name table m n.0) n.1 d.0 v a
both_apart table (m ∷ ms) z n d (inr v) (inl a) = other_name (IsOfArray m.index) IsOfVar table (text_of table m.name) z ms (own_name table m n.0) n.1 d.0 a v
both_apart table (m ∷ ms) z n d (inr v) (inr a) = both_apart table ms z n.1 d.1 v a

-- ALL NAMES of a front differ
pub all_distinct : (table : List Name) (ms : List ModelVar) → AreModelVars ms → AreSmall ms → AreNamed table ms → AreDistinct (labels_of (front_variables table ms) ++ array_labels (front_arrays table 0 ms))
all_distinct table ms sound s n =
    let vs = labels_of (front_variables table ms) in
    let items = array_labels (front_arrays table 0 ms) in
    distinct_both vs items (vars_distinct table ms sound s n.names n.distinct) (arrays_distinct table 0 ms n.names n.distinct)
    (λ z v a. both_apart table ms z n.names n.distinct (all_at (IsLabelOf IsOfVar table ms) vs z (all_of_vars table ms s) v) (all_at (IsLabelOf IsOfArray table ms) items z (all_of_arrays table 0 ms) a))

-- EACH is of a name of the model
pub record IsFrontLabel (z : Name) : Type 0 where
  pub tag : Tag
  pub name : Name
  pub own_ : IsOwnName name
  pub small : IsSmall tag
  pub is : z ≡ tagged tag name

front_label : (P : Option (List Range) → Tag → Type 0) (table : List Name) (ms : List ModelVar) (z : Name) → HaveNames table ms → IsLabelOf P table ms z → IsFrontLabel z
front_label P table ms z n h = let o = named P table ms z n h in record { tag = o.tag; name = o.name; own_ = o.own_; small = o.small; is = o.is }

pub variable_labels : (table : List Name) (ms : List ModelVar) → AreSmall ms → HaveNames table ms → AllByRecursion IsFrontLabel (labels_of (front_variables table ms))
variable_labels table ms s n = all_weaker (IsLabelOf IsOfVar table ms) IsFrontLabel (labels_of (front_variables table ms)) (λ z h. front_label IsOfVar table ms z n h) (all_of_vars table ms s)

pub item_labels : (table : List Name) (k : ℕ) (ms : List ModelVar) → HaveNames table ms → AllByRecursion IsFrontLabel (array_labels (front_arrays table k ms))
item_labels table k ms n = all_weaker (IsLabelOf IsOfArray table ms) IsFrontLabel (array_labels (front_arrays table k ms)) (λ z h. front_label IsOfArray table ms z n h) (all_of_arrays table k ms)
