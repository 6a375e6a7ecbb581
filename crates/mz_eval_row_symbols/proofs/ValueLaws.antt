-- What a symbol tells at a node of a type.
use Rattle.std.proofs.Common.{◌≡◌, ◌∙◌, ℕ, ℤ, Bool, true, false, not, ◌&&◌, ◌||◌, List, [], ◌∷◌, Option, Some, None, refl, sym, ap, subst, if◌then◌else◌}
use Rattle.std.specs.Option.{option_map, option_and_then}
use Rattle.mz_value.specs.Ranges.{Range}
use Rattle.mz_value.specs.Contents.{Content}
use Rattle.mz_value.specs.Contents as values
use Rattle.mz_value.specs.Shown.{Names}
use Rattle.mz_core.specs.declared.types.Base.{Base}
use Rattle.mz_core.specs.declared.types.Base.TheVariants as base
use Rattle.mz_core.specs.Types.{PlainType}
use Rattle.mz_core.specs.Order.{no_dims}
use Rattle.mz_operations.specs.declared.row.ScalarRow.{ScalarRow}
use Rattle.mz_operations.specs.declared.row.ScalarRow.TheVariants as scalar
use Rattle.mz_operations.specs.declared.row.MadeRow.{MadeRow}
use Rattle.mz_operations.specs.declared.row.MadeRow.TheVariants as made
use Rattle.mz_operations.specs.declared.row.Row.TheVariants.{Scalar, Made}
use Rattle.mz_operations.specs.declared.row.Quantifier.TheVariants.{Forall, Exists}
use Rattle.mz_operations.specs.Views.{as_bool, as_option, is_single, is_absent}
use Rattle.mz_operations.specs.Arguments.{Arguments, at, bool_at, option_at, set_at, element_at, items_at, pair}
use Rattle.mz_operations.specs.Arrays.{fold_from, instance}
use Rattle.mz_operations.specs.Numbers.{connected, ordered, quantified, quantifier_start}
use Rattle.mz_operations.specs.Sets.{same_set, contains, is_subset}
use Rattle.mz_operations.specs.Values.{scalar_value, made_value, equality}
use Rattle.mz_arena.specs.Values.{Term, as_number, as_set}
use Rattle.mz_arena.specs.Values as terms
use Rattle.mz_instance.specs.Contents.{content_by}
use Rattle.mz_meaning.specs.Cells.{Mode, Blank, Given, held, is_bool, is_truth}
use Rattle.mz_meaning.specs.Coerced.{recast}
use Rattle.mz_meaning.specs.Exact.{exact_value}
use Rattle.mz_symbol.specs.declared.types.Symbol.{Symbol}
use Rattle.mz_symbol.specs.Symbols.{value_by, value_at, symbol_value}
use Rattle.mz_symbol.specs.Readings.{Reading, symbol_seen}
use Rattle.mz_symbol.specs.Arguments.{truth_of, as_argument}
use Rattle.mz_symbol_rows.specs.RowValues.{argument}
use Rattle.mz_eval_cells.proofs.Held.{held_map}
use Rattle.mz_eval_row_symbols.specs.NodeRows.{told, told_by, row_told}
use Rattle.mz_eval_row_symbols.specs.StepsRows.{gives_truth, made_truth, is_own_base, is_set_sort, IsAt, IsFree, IsOwn, IsSetTold, IsTold}

-- ---- truth values

truth_argument : (m : Mode) (b : Base) (o : Option ℕ) (x v : Option Content) → held m x ≡ held m (truth_of v) → held m (as_argument b o x) ≡ held m (truth_of v)
truth_argument (Blank n) b o x v h = refl
truth_argument (Given f) base.Bool None x v h = ap truth_of h
truth_argument (Given f) b o x v h = h

truth_base : (opt : Bool) (b : Base) (d : Bool) → (not opt && (is_bool b && d)) ≡ true → b ≡ base.Bool
truth_base false base.Bool d h = refl
truth_base false b d h = absurd (cc)
truth_base true b d h = absurd (cc)

stated_truth : (r : Reading) (t : PlainType) (s : Symbol) (v : Option Content) → is_truth t ≡ true → option_map (recast base.Bool) v ≡ v → symbol_seen r s ≡ held r.mode (truth_of v) → argument r s ≡ held r.mode (told t (option_map (recast t.base) v))
stated_truth r t s v p k h =
    truth_argument r.mode s.base s.occurs (symbol_value r.term s) v h
    ∙ ap (λ x. held r.mode (truth_of x)) (sym k)
    ∙ ap (λ b. held r.mode (truth_of (option_map (recast b) v))) (sym (truth_base t.opt t.base (no_dims t.dims) p))
    ∙ ap (λ b. held r.mode (told_by b (option_map (recast t.base) v))) (sym p)

-- ---- numbers, cases and sets

no_truth : (opt : Bool) (b : Base) (d : Bool) → is_own_base b ≡ true → (not opt && (is_bool b && d)) ≡ false
no_truth opt base.Bool d h = absurd (cc)
no_truth true b d h = refl
no_truth false b d h = refl

own_argument : (b : Base) (o : Option ℕ) (x : Option Content) → is_own_base b ≡ true → as_argument b o x ≡ x
own_argument base.Bool o x h = absurd (cc)
own_argument b o x h = refl

recast_number : (b : Base) (n : ℤ) → is_own_base b ≡ true → recast b (content_by b n []) ≡ content_by b n []
recast_number base.Int n h = refl
recast_number (base.Enum e) n h = refl
recast_number base.SetInt n h = refl
recast_number (base.SetEnum e) n h = refl
recast_number b n h = absurd (cc)

recast_some : (b : Base) (i : Option ℤ) → is_own_base b ≡ true → option_map (recast b) (option_map (λ n. content_by b n []) i) ≡ option_map (λ n. content_by b n []) i
recast_some b None h = refl
recast_some b (Some n) h = ap Some (recast_number b n h)

recast_sets : (e : Option ℕ) (b : Base) (i : Option (List Range)) → ((s : List Range) → recast b (values.set e s) ≡ values.set e s) → option_map (recast b) (option_map (λ s. values.set e s) i) ≡ option_map (λ s. values.set e s) i
recast_sets e b None h = refl
recast_sets e b (Some s) h = ap Some (h s)

recast_by : (b : Base) (t : Term) → is_own_base b ≡ true → option_map (recast b) (value_by b t) ≡ value_by b t
recast_by base.SetInt t h = recast_sets None base.SetInt (as_set t) (λ s. refl)
recast_by (base.SetEnum e) t h = recast_sets (Some e) (base.SetEnum e) (as_set t) (λ s. refl)
recast_by base.Int t h = recast_some base.Int (as_number t) refl
recast_by (base.Enum e) t h = recast_some (base.Enum e) (as_number t) refl
recast_by b t h = absurd (cc)

recast_absent : (b : Base) → recast b values.absent ≡ values.absent
recast_absent base.Bool = refl
recast_absent base.Int = refl
recast_absent (base.Enum e) = refl
recast_absent base.SetInt = refl
recast_absent (base.SetEnum e) = refl
recast_absent b = refl

recast_at : (t : ℕ → Term) (b : Base) (o : Option ℕ) (id : ℕ) → is_own_base b ≡ true → option_map (recast b) (value_at t b o id) ≡ value_at t b o id
recast_at t b None id h = recast_by b (t id) h
recast_at t b (Some o) id h = by (terms.is_true (t o))
  where
    by : (p : Bool) → option_map (recast b) (if p then value_by b (t id) else Some values.absent) ≡ (if p then value_by b (t id) else Some values.absent)
    by true = recast_by b (t id) h
    by false = ap Some (recast_absent b)

stated_own : (r : Reading) (t : PlainType) (s : Symbol) (v : Option Content) → IsOwn t.base s.base → symbol_seen r s ≡ held r.mode v → argument r s ≡ held r.mode (told t (option_map (recast t.base) v))
stated_own r t s v p h =
    ap (held r.mode) (own_argument s.base s.occurs (symbol_value r.term s) p.own)
    ∙ ap (held r.mode) (sym (recast_at r.term s.base s.occurs s.term p.own))
    ∙ sym (held_map r.mode (recast s.base) (symbol_value r.term s))
    ∙ ap (option_map (recast s.base)) h
    ∙ held_map r.mode (recast s.base) v
    ∙ ap (λ b. held r.mode (option_map (recast b) v)) (sym p.same)
    ∙ ap (λ b. held r.mode (told_by b (option_map (recast t.base) v))) (sym (ap (λ b. not t.opt && (is_bool b && no_dims t.dims)) p.same ∙ no_truth t.opt s.base (no_dims t.dims) p.own))

pub tells_truth : (t : PlainType) (truth : Bool) (s : Symbol) → truth ≡ true → is_truth t ≡ true → IsTold truth t s
tells_truth t truth s e p r v k h = stated_truth r t s v p (k e) (h ∙ ap (λ b. held r.mode (told_by b v)) e)

pub tells_own : (t : PlainType) (truth : Bool) (s : Symbol) → truth ≡ false → IsOwn t.base s.base → IsTold truth t s
tells_own t truth s e p r v k h = stated_own r t s v p (h ∙ ap (λ b. held r.mode (told_by b v)) e)

-- ---- at a type without a base of its own

recast_free : (v : Option Content) → option_map (recast base.Bottom) v ≡ v
recast_free None = refl
recast_free (Some x) = refl

never_both : (p : Bool) → (p && false) ≡ false
never_both true = refl
never_both false = refl

stated_free : (r : Reading) (t : PlainType) (s : Symbol) (v : Option Content) → IsFree t.base s.base → symbol_seen r s ≡ held r.mode v → argument r s ≡ held r.mode (told t (option_map (recast t.base) v))
stated_free r t s v p h =
    ap (held r.mode) (own_argument s.base s.occurs (symbol_value r.term s) p.own)
    ∙ h
    ∙ ap (held r.mode) (sym (recast_free v))
    ∙ ap (λ b. held r.mode (option_map (recast b) v)) (sym p.free)
    ∙ ap (λ b. held r.mode (told_by b (option_map (recast t.base) v))) (sym (ap (λ b. not t.opt && (is_bool b && no_dims t.dims)) p.free ∙ never_both (not t.opt)))

pub tells_free : (t : PlainType) (truth : Bool) (s : Symbol) → truth ≡ false → IsFree t.base s.base → IsTold truth t s
tells_free t truth s e p r v k h = stated_free r t s v p (h ∙ ap (λ b. held r.mode (told_by b v)) e)

pub told_same : (t : PlainType) {p q : Bool} {x s : Symbol} → p ≡ q → x ≡ s → IsTold p t x → IsTold q t s
told_same t {p = p} {s = s} e h f = subst (λ b. IsTold b t s) e (subst (IsTold p t) h f)

-- ---- rows that give truth values give no number

one_stays : {A : Type 0} (f : A → Bool) (a : Option A) → option_map (recast base.Bool) (option_and_then (λ x. Some (values.bool (f x))) a) ≡ option_and_then (λ x. Some (values.bool (f x))) a
one_stays f None = refl
one_stays f (Some x) = refl

two_stay : {A B : Type 0} (f : A → B → Bool) (a : Option A) (b : Option B) → option_map (recast base.Bool) (option_and_then (λ x. option_and_then (λ y. Some (values.bool (f x y))) b) a) ≡ option_and_then (λ x. option_and_then (λ y. Some (values.bool (f x y))) b) a
two_stay f None b = refl
two_stay f (Some x) b = one_stays (f x) b

three_stay : {A B C : Type 0} (g : A → B → Option C) (f : C → Bool) (a : Option A) (b : Option B) → option_map (recast base.Bool) (option_and_then (λ x. option_and_then (λ y. option_and_then (λ z. Some (values.bool (f z))) (g x y)) b) a) ≡ option_and_then (λ x. option_and_then (λ y. option_and_then (λ z. Some (values.bool (f z))) (g x y)) b) a
three_stay g f None b = refl
three_stay g f (Some x) None = refl
three_stay g f (Some x) (Some y) = one_stays f (g x y)

pub truth_stays : (names : Names) (w : ScalarRow) (args : Arguments) → gives_truth w ≡ true → option_map (recast base.Bool) (exact_value names (Scalar w) args) ≡ exact_value names (Scalar w) args
unfolding scalar_value
truth_stays names (scalar.Logic op) args h = two_stay (connected op) (bool_at args 0) (bool_at args 1)
truth_stays names scalar.Not args h = one_stays not (bool_at args 0)
truth_stays names (scalar.Order op) args h = one_stays (λ p. ordered op p.0 p.1) (pair args)
truth_stays names scalar.Equal args h = three_stay equality (λ b. b) (option_at args 0) (option_at args 1)
truth_stays names scalar.Unequal args h = three_stay equality not (option_at args 0) (option_at args 1)
truth_stays names scalar.SetEqual args h = two_stay same_set (set_at args 0) (set_at args 1)
truth_stays names scalar.SetUnequal args h = two_stay (λ a b. not (same_set a b)) (set_at args 0) (set_at args 1)
truth_stays names scalar.In args h = two_stay (λ x s. contains s x) (element_at args 0) (set_at args 1)
truth_stays names (scalar.Quantified op) args h = items (items_at args 0)
  where
    items : (xs : Option (List Content)) → option_map (recast base.Bool) (option_and_then (λ xs. option_and_then (λ b. Some (values.bool b)) (fold_from (instance op) (quantified op) (quantifier_start op) xs)) xs) ≡ option_and_then (λ xs. option_and_then (λ b. Some (values.bool b)) (fold_from (instance op) (quantified op) (quantifier_start op) xs)) xs
    items None = refl
    items (Some xs) = one_stays (λ b. b) (fold_from (instance op) (quantified op) (quantifier_start op) xs)
truth_stays names scalar.Clause args h = four_stay (items_at args 0) (items_at args 1)
  where
    two_folds : (o p : Option Bool) → option_map (recast base.Bool) (option_and_then (λ a. option_and_then (λ b. Some (values.bool (a || not b))) p) o) ≡ option_and_then (λ a. option_and_then (λ b. Some (values.bool (a || not b))) p) o
    two_folds None p = refl
    two_folds (Some a) p = one_stays (λ b. a || not b) p

    four_stay : (xs ys : Option (List Content)) → option_map (recast base.Bool) (option_and_then (λ xs. option_and_then (λ ys. option_and_then (λ a. option_and_then (λ b. Some (values.bool (a || not b))) (fold_from as_bool (quantified Forall) true ys)) (fold_from as_bool (quantified Exists) false xs)) ys) xs) ≡ option_and_then (λ xs. option_and_then (λ ys. option_and_then (λ a. option_and_then (λ b. Some (values.bool (a || not b))) (fold_from as_bool (quantified Forall) true ys)) (fold_from as_bool (quantified Exists) false xs)) ys) xs
    four_stay None ys = refl
    four_stay (Some xs) None = refl
    four_stay (Some xs) (Some ys) = two_folds (fold_from as_bool (quantified Exists) false xs) (fold_from as_bool (quantified Forall) true ys)
truth_stays names scalar.Occurs args h = one_stays (λ x. not (is_absent x)) (option_at args 0)
truth_stays names scalar.Absent args h = one_stays is_absent (option_at args 0)
truth_stays names w args h = absurd (cc)

pub made_stays : (names : Names) (w : MadeRow) (args : Arguments) → made_truth w ≡ true → option_map (recast base.Bool) (exact_value names (Made w) args) ≡ exact_value names (Made w) args
unfolding made_value
made_stays names made.Subset args h = two_stay is_subset (set_at args 0) (set_at args 1)
made_stays names made.Superset args h = two_stay (λ a b. is_subset b a) (set_at args 0) (set_at args 1)
made_stays names w args h = absurd (cc)

-- ---- the value of an option

is_truth_base : (b : Base) (v : Option Content) → as_argument b None v ≡ told_by (is_bool b) v
is_truth_base base.Bool v = refl
is_truth_base b v = refl

-- what an option's nodes stand for
abbrev option_value : Option ℕ → Bool → Option ℤ → Option Content
option_value None p i = option_map (λ n. content_by base.Bool n []) i
option_value (Some o) p i = if p then option_map (λ n. content_by base.Bool n []) i else Some values.absent

deopt_stays : (o : Option ℕ) (p : Bool) (i : Option ℤ) → option_map (recast base.Bool) (made_value made.Deopt (as_argument base.Bool o (option_value o p i) ∷ [])) ≡ made_value made.Deopt (as_argument base.Bool o (option_value o p i) ∷ [])
unfolding made_value option_at at as_option is_single
deopt_stays None p None = refl
deopt_stays None p (Some n) = refl
deopt_stays (Some o) true None = refl
deopt_stays (Some o) true (Some n) = refl
deopt_stays (Some o) false i = refl

deopt_held : (m : Mode) (t : ℕ → Term) (b : Base) (o : Option ℕ) (id : ℕ) → is_bool b ≡ true → option_map (recast base.Bool) (made_value made.Deopt (held m (as_argument b o (value_at t b o id)) ∷ [])) ≡ made_value made.Deopt (held m (as_argument b o (value_at t b o id)) ∷ [])
unfolding made_value option_at at as_option is_single
deopt_held (Blank n) t b o id h = refl
deopt_held (Given f) t base.Bool None id h = deopt_stays None true (as_number (t id))
deopt_held (Given f) t base.Bool (Some o) id h = deopt_stays (Some o) (terms.is_true (t o)) (as_number (t id))
deopt_held (Given f) t b o id h = absurd (cc)

-- WHAT `deopt` TELLS at a node of a type
pub deopt_told : (r : Reading) (names : Names) (t : PlainType) (a s : Symbol) → IsTold (is_bool a.base) t s → symbol_seen r s ≡ held r.mode (as_argument a.base None (made_value made.Deopt (argument r a ∷ []))) → argument r s ≡ row_told r names (Made made.Deopt) t (argument r a ∷ [])
deopt_told r names t a s f h = f r (made_value made.Deopt (argument r a ∷ [])) (λ e. deopt_held r.mode r.term a.base a.occurs a.term e) (h ∙ ap (held r.mode) (is_truth_base a.base (made_value made.Deopt (argument r a ∷ []))))

-- what a row over symbols tells, as one over values under a reading
pub scalar_told : (r : Reading) (names : Names) (w : ScalarRow) (t : PlainType) (s : Symbol) (vs : List (Option Content)) → IsTold (gives_truth w) t s → symbol_seen r s ≡ held r.mode (told_by (gives_truth w) (exact_value names (Scalar w) vs)) → argument r s ≡ row_told r names (Scalar w) t vs
scalar_told r names w t s vs f h = f r (exact_value names (Scalar w) vs) (truth_stays names w vs) h

pub made_told : (r : Reading) (names : Names) (w : MadeRow) (t : PlainType) (s : Symbol) (vs : List (Option Content)) → IsTold (made_truth w) t s → symbol_seen r s ≡ held r.mode (told_by (made_truth w) (exact_value names (Made w) vs)) → argument r s ≡ row_told r names (Made w) t vs
made_told r names w t s vs f h = f r (exact_value names (Made w) vs) (made_stays names w vs) h

-- ---- sets

set_recast : (b c : Base) (x : Term) → is_set_sort b ≡ true → is_set_sort c ≡ true → value_by b x ≡ option_map (recast b) (value_by c x)
set_recast base.SetInt base.SetInt x p q = sym (recast_by base.SetInt x refl)
set_recast base.SetInt (base.SetEnum e) x p q = by (as_set x)
  where
    by : (o : Option (List Range)) → option_map (λ s. values.set None s) o ≡ option_map (recast base.SetInt) (option_map (λ s. values.set (Some e) s) o)
    by None = refl
    by (Some s) = refl
set_recast (base.SetEnum d) base.SetInt x p q = by (as_set x)
  where
    by : (o : Option (List Range)) → option_map (λ s. values.set (Some d) s) o ≡ option_map (recast (base.SetEnum d)) (option_map (λ s. values.set None s) o)
    by None = refl
    by (Some s) = refl
set_recast (base.SetEnum d) (base.SetEnum e) x p q = by (as_set x)
  where
    by : (o : Option (List Range)) → option_map (λ s. values.set (Some d) s) o ≡ option_map (recast (base.SetEnum d)) (option_map (λ s. values.set (Some e) s) o)
    by None = refl
    by (Some s) = refl
set_recast base.SetInt c x p q = absurd (cc)
set_recast (base.SetEnum d) c x p q = absurd (cc)
set_recast b c x p q = absurd (cc)

set_own : (b : Base) → is_set_sort b ≡ true → is_own_base b ≡ true
set_own base.SetInt h = refl
set_own (base.SetEnum e) h = refl
set_own b h = absurd (cc)

pub set_told : (t : PlainType) (s : Symbol) → is_set_sort t.base ≡ true → is_set_sort s.base ≡ true → s.occurs ≡ None → IsSetTold t s (record { base = t.base; occurs = None; term = s.term })
set_told t s p q e r v h =
    let own : is_own_base t.base ≡ true = set_own t.base p in
    ap (held r.mode) (own_argument t.base None (value_by t.base (r.term s.term)) own)
    ∙ ap (held r.mode) (set_recast t.base s.base (r.term s.term) p q)
    ∙ sym (held_map r.mode (recast t.base) (value_by s.base (r.term s.term)))
    ∙ ap (λ o. option_map (recast t.base) (held r.mode (value_at r.term s.base o s.term))) (sym e)
    ∙ ap (option_map (recast t.base)) h
    ∙ held_map r.mode (recast t.base) v
    ∙ ap (λ b. held r.mode (told_by b (option_map (recast t.base) v))) (sym (no_truth t.opt t.base (no_dims t.dims) own))

-- ---- a symbol that is handed on

inner_held : (m : Mode) (f : Option Content → Option Content) (v : Option Content) → held m (f (held m v)) ≡ held m (f v)
inner_held (Blank n) f v = refl
inner_held (Given c) f v = refl

abbrev at_type : PlainType → Option Content → Option Content
at_type t v = told t (option_map (recast t.base) v)

pub at_own : (t : PlainType) (s : Symbol) → IsOwn t.base s.base → IsAt t s
at_own t s p r =
    stated_own r t s (symbol_value r.term s) p refl
    ∙ sym (inner_held r.mode (at_type t) (symbol_value r.term s))
    ∙ ap (λ x. held r.mode (at_type t (held r.mode x))) (sym (own_argument s.base s.occurs (symbol_value r.term s) p.own))

pub at_free : (t : PlainType) (s : Symbol) → IsFree t.base s.base → IsAt t s
at_free t s p r =
    stated_free r t s (symbol_value r.term s) p refl
    ∙ sym (inner_held r.mode (at_type t) (symbol_value r.term s))
    ∙ ap (λ x. held r.mode (at_type t (held r.mode x))) (sym (own_argument s.base s.occurs (symbol_value r.term s) p.own))

pub at_truth : (t : PlainType) (s : Symbol) → s.base ≡ base.Bool → s.occurs ≡ None → is_truth t ≡ true → IsAt t s
at_truth t s e f p r =
    let v = symbol_value r.term s in
    let w = truth_of v in
    let arg : argument r s ≡ held r.mode w = ap (λ b. held r.mode (as_argument b s.occurs v)) e ∙ ap (λ o. held r.mode (as_argument base.Bool o v)) f in
    arg
    ∙ ap (λ b. held r.mode (told_by true (option_map (recast b) w))) (sym (truth_base t.opt t.base (no_dims t.dims) p))
    ∙ ap (λ b. held r.mode (told_by b (option_map (recast t.base) w))) (sym p)
    ∙ sym (inner_held r.mode (at_type t) w)
    ∙ ap (λ x. held r.mode (at_type t x)) (sym arg)

option_stays : (t : ℕ → Term) (b : Base) (q : Option ℕ) (o id : ℕ) → b ≡ base.Bool → q ≡ Some o → option_map (recast base.Bool) (value_at t b q id) ≡ value_at t b q id
option_stays t base.Bool (Some p) o id e f = by (terms.is_true (t p)) (as_number (t id))
  where
    by : (x : Bool) (i : Option ℤ) → option_map (recast base.Bool) (if x then option_map (λ n. content_by base.Bool n []) i else Some values.absent) ≡ (if x then option_map (λ n. content_by base.Bool n []) i else Some values.absent)
    by true None = refl
    by true (Some n) = refl
    by false i = refl
option_stays t b None o id e f = absurd (cc)
option_stays t b (Some p) o id e f = absurd (cc)

pub at_option : (t : PlainType) (s : Symbol) (o : ℕ) → s.base ≡ base.Bool → s.occurs ≡ Some o → is_truth t ≡ false → t.base ≡ base.Bool → IsAt t s
at_option t s o e f p q r =
    let v = symbol_value r.term s in
    let arg : argument r s ≡ held r.mode v = ap (λ b. held r.mode (as_argument b s.occurs v)) e ∙ ap (λ x. held r.mode (as_argument base.Bool x v)) f in
    arg
    ∙ ap (held r.mode) (sym (option_stays r.term s.base s.occurs o s.term e f))
    ∙ ap (λ b. held r.mode (option_map (recast b) v)) (sym q)
    ∙ ap (λ b. held r.mode (told_by b (option_map (recast t.base) v))) (sym p)
    ∙ sym (inner_held r.mode (at_type t) v)
    ∙ ap (λ x. held r.mode (at_type t x)) (sym arg)
