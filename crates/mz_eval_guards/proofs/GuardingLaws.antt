-- Cells that have their values where a guard holds.
use Rattle.std.proofs.Common.{◌≡◌, ◌∙◌, ℕ, ◌+◌, ◌*◌, ◌≤◌, Bool, true, false, ◌&&◌, [], length, map, Option, Some, None, refl, sym, ap, subst, if◌then◌else◌}
use Rattle.std.proofs.lemmas.List.{length-map}
use Rattle.mz_value.specs.Contents.{Content}
use Rattle.mz_value.specs.Contents as values
use Rattle.mz_core.specs.declared.types.Base.{Base}
use Rattle.mz_core.specs.declared.types.Base.TheVariants as base
use Rattle.mz_core.specs.Types.{PlainType}
use Rattle.mz_core.specs.Order.{no_dims}
use Rattle.mz_arena.specs.Values.{Term, is_true}
use Rattle.mz_operations.specs.Bounds as bounds
use Rattle.mz_operations.specs.Bounds.{bounds_of, bound_of}
use Rattle.mz_operations.specs.Views.{as_items, items_in}
use Rattle.mz_meaning.specs.Cells as cells
use Rattle.mz_meaning.specs.Cells.{Cell, Par, Var, Unshaped, Mode, Blank, Given, Bare, held, kept_if, length_of, only_if, or_zero, to_var, value_of}
use Rattle.mz_meaning.specs.Runs.{Out}
use Rattle.mz_symbol.specs.declared.types.Symbol.{Symbol}
use Rattle.mz_symbol.specs.Symbols.{symbol_value, value_at}
use Rattle.mz_symbol.specs.Runs.{Run}
use Rattle.mz_symbol.specs.Readings.{Reading, IsGiven, Reads, blank, state_of, symbol_seen}
use Rattle.mz_symbol.specs.Makes.{GoesOnBy}
use Rattle.mz_symbol.proofs.ConstantLaws.{out_value, out_state}
use Rattle.mz_symbol.specs.Arguments.{as_argument}
use Rattle.mz_symbol_rows.specs.RowValues.{argument}
use Rattle.mz_symbol_rows.proofs.RowLaws.{truth_is}
use Rattle.mz_symbol_rows.specs.OptionValues.{guarded_value}
use Rattle.glob_nodes.specs.Says.{Says}
use Rattle.mz_eval_cells.specs.declared.types.Known.{Known}
use Rattle.mz_eval_cells.specs.declared.types.Known.TheVariants as known
use Rattle.mz_eval_cells.specs.declared.types.VarValue.{VarValue}
use Rattle.mz_eval_cells.specs.declared.types.Origin.TheVariants as origin
use Rattle.mz_eval_cells.specs.Views.{cast_by, cell_of, known_bound, origin_value, row_content, seen, truth_by, var_content}
use Rattle.mz_eval_symbols.specs.Taken.{cell_value, count_in}
use Rattle.mz_eval_guards.specs.Guards.{IsCell, held_truth}
use Rattle.mz_eval_guards.specs.StepsGuarding.{IsTruth}

pub cell_like : (old new : Run) (f g : Reading → Cell) (k : Known) → ((r : Reading) → f r ≡ g r) → IsCell old new f k → IsCell old new g k
cell_like old new f g k e h = record { same = h.same; is = λ r q. h.is r q ∙ e r; bare = h.bare ∙ e _ }

-- a var cell of these bounds
abbrev pub one_cell : bounds.Bound → (Reading → Option Content) → Reading → Cell
one_cell b f r = Var (bounds.one b) (f r)

held_same : (m : Mode) (v w : Option Content) → (IsGiven m → v ≡ w) → held m v ≡ held m w
held_same (Blank n) v w h = refl
held_same (Given f) v w h = h tt

held_given : (m : Mode) (v : Option Content) → IsGiven m → held m v ≡ v
held_given (Blank n) v g = absurd g
held_given (Given f) v g = refl

-- ---- symbols

truth_kept : (p x : Bool) → truth_by (p && x) p ≡ only_if p (Some (values.bool x))
truth_kept true true = refl
truth_kept true false = refl
truth_kept false x = refl

pub truth_cell : (old new : Run) (b : bounds.Bound) (d x all : ℕ) (k : Known) → Says old new (λ r. is_true (r.term d) && is_true (r.term x)) all → cell_of k ≡ Var (bounds.one b) None → ((r : Reading) → seen r k ≡ Var (bounds.one b) (held r.mode (truth_by (is_true (r.term all)) (is_true (r.term d))))) → IsCell old new (λ r. Var (bounds.one b) (held r.mode (only_if (is_true (r.term d)) (Some (values.bool (is_true (r.term x))))))) k
truth_cell old new b d x all k s of e = record {
  same = s.same;
  is = λ r h. e r ∙ ap (λ v. Var (bounds.one b) (held r.mode v)) (ap (λ p. truth_by p (is_true (r.term d))) (s.tells r h) ∙ truth_kept (is_true (r.term d)) (is_true (r.term x)));
  bare = of;
}

partial_by : (p y e : Bool) → truth_by (p && y) (p && e) ≡ only_if p (truth_by y e)
partial_by true y e = refl
partial_by false y e = refl

pub partial_cell : (n : ℕ) (old one new : Run) (b : bounds.Bound) (d y e first second : ℕ) (k : Known) → Says old one (λ r. is_true (r.term d) && is_true (r.term y)) first → GoesOnBy n one new → Says one new (λ r. is_true (r.term d) && is_true (r.term e)) second → cell_of k ≡ Var (bounds.one b) None → ((r : Reading) → seen r k ≡ Var (bounds.one b) (held r.mode (truth_by (is_true (r.term first)) (is_true (r.term second))))) → IsCell old new (λ r. Var (bounds.one b) (held r.mode (only_if (is_true (r.term d)) (truth_by (is_true (r.term y)) (is_true (r.term e)))))) k
partial_cell n old one new b d y e first second k s g t of q = record {
  same = λ r h. s.same r (g.back r h) ∙ t.same r h;
  is = λ r h. q r ∙ ap (λ v. Var (bounds.one b) (held r.mode v))
      (ap (λ p. truth_by p (is_true (r.term second))) (s.tells r (g.back r h))
      ∙ ap (λ p. truth_by (is_true (r.term d) && is_true (r.term y)) p) (t.tells r h)
      ∙ partial_by (is_true (r.term d)) (is_true (r.term y)) (is_true (r.term e)));
  bare = of;
}

if_only : (p : Bool) (v : Option Content) → (if p then v else None) ≡ only_if p v
if_only true v = refl
if_only false v = refl

pub other_cell : (old new : Run) (b : bounds.Bound) (d : ℕ) (s x : Symbol) (k : Known) → ((v : Option Content) → as_argument s.base s.occurs v ≡ v) → ((r : Reading) → Reads r new → Out (held r.mode (as_argument s.base s.occurs (guarded_value r d s))) (state_of r old) ≡ Out (symbol_seen r x) (state_of r new)) → ((v : Option Content) → as_argument x.base x.occurs v ≡ v) → cell_of k ≡ Var (bounds.one b) None → ((r : Reading) → seen r k ≡ Var (bounds.one b) (argument r x)) → IsCell old new (λ r. Var (bounds.one b) (held r.mode (only_if (is_true (r.term d)) (symbol_value r.term s)))) k
other_cell old new b d s x k stays m other of e = record {
  same = λ r h. out_state (m r h);
  is = λ r h. e r ∙ ap (Var (bounds.one b))
      (ap (held r.mode) (other (symbol_value r.term x))
      ∙ sym (out_value (m r h))
      ∙ ap (held r.mode) (stays (guarded_value r d s) ∙ if_only (is_true (r.term d)) (symbol_value r.term s)));
  bare = of;
}

truth_argument : (s : Symbol) (t : ℕ → Term) → IsTruth s → Some (values.bool (is_true (t s.term))) ≡ as_argument s.base s.occurs (symbol_value t s)
truth_argument s t h = sym (by s.base s.occurs h.is h.plain)
  where
    by : (b : Base) (o : Option ℕ) → b ≡ base.Bool → o ≡ None → as_argument b o (value_at t b o s.term) ≡ Some (values.bool (is_true (t s.term)))
    by base.Bool None e p = ap (λ q. Some (values.bool q)) (truth_is (t s.term))
    by base.Bool (Some o) e p = absurd (cc)
    by b o e p = absurd (cc)

pub truth_symbol : (old new : Run) (b : bounds.Bound) (d : ℕ) (s : Symbol) (k : Known) → IsTruth s → IsCell old new (λ r. Var (bounds.one b) (held r.mode (only_if (is_true (r.term d)) (Some (values.bool (is_true (r.term s.term))))))) k → IsCell old new (λ r. Var (bounds.one b) (held r.mode (only_if (is_true (r.term d)) (as_argument s.base s.occurs (symbol_value r.term s))))) k
truth_symbol old new b d s k h q = cell_like old new _ _ k (λ r. ap (λ v. Var (bounds.one b) (held r.mode (only_if (is_true (r.term d)) v))) (truth_argument s r.term h)) q

pub other_symbol : (old new : Run) (b : bounds.Bound) (d : ℕ) (s : Symbol) (k : Known) → ((v : Option Content) → as_argument s.base s.occurs v ≡ v) → IsCell old new (λ r. Var (bounds.one b) (held r.mode (only_if (is_true (r.term d)) (symbol_value r.term s)))) k → IsCell old new (λ r. Var (bounds.one b) (held r.mode (only_if (is_true (r.term d)) (as_argument s.base s.occurs (symbol_value r.term s))))) k
other_symbol old new b d s k h q = cell_like old new _ _ k (λ r. ap (λ v. Var (bounds.one b) (held r.mode (only_if (is_true (r.term d)) v))) (sym (h (symbol_value r.term s)))) q

-- ---- var cells that are no arrays

pub plain_cell : (n : ℕ) (old one new : Run) (b : bounds.Bound) (d : ℕ) (v : Option Content) (k x : Known) (s : Symbol) (f : Reading → Option Content) → ((r : Reading) → value_of (seen r k) ≡ held r.mode (f r)) → ((r : Reading) → Reads r one → Out (cell_value r k) (state_of r old) ≡ Out (argument r s) (state_of r one)) → GoesOnBy n one new → IsCell one new (λ r. Var (bounds.one b) (held r.mode (only_if (is_true (r.term d)) (as_argument s.base s.occurs (symbol_value r.term s))))) x → IsCell old new (λ r. Var (bounds.one b) (held r.mode (only_if (is_true (r.term d)) (held r.mode (f r))))) x
plain_cell n old one new b d v k x s f value m g h = record {
  same = λ r q. out_state (m r (g.back r q)) ∙ h.same r q;
  is = λ r q. h.is r q ∙ ap (Var (bounds.one b)) (held_same r.mode _ _
      (λ i. ap (only_if (is_true (r.term d)))
      (sym (held_given r.mode (as_argument s.base s.occurs (symbol_value r.term s)) i)
      ∙ sym (out_value (m r (g.back r q)))
      ∙ held_given r.mode (value_of (seen r k)) i
      ∙ value r)));
  bare = h.bare;
}

pub bound_cell : (old new : Run) (b c : bounds.Bound) (f : Reading → Option Content) (k : Known) → b ≡ c → IsCell old new (λ r. Var (bounds.one b) (f r)) k → IsCell old new (λ r. Var (bounds.one c) (f r)) k
bound_cell old new b c f k e h = subst (λ a. IsCell old new (λ r. Var (bounds.one a) (f r)) k) e h

pub partial_var : (old new : Run) (b c : bounds.Bound) (d y e : ℕ) (v : VarValue) (k : Known) → b ≡ c → ((t : ℕ → Term) → var_content t v ≡ truth_by (is_true (t y)) (is_true (t e))) → IsCell old new (λ r. Var (bounds.one b) (held r.mode (only_if (is_true (r.term d)) (truth_by (is_true (r.term y)) (is_true (r.term e)))))) k → IsCell old new (λ r. Var (bounds.one c) (held r.mode (only_if (is_true (r.term d)) (held r.mode (var_content r.term v))))) k
partial_var old new b c d y e v k q p h = cell_like old new _ _ k
    (λ r. ap (Var (bounds.one c)) (held_same r.mode _ _ (λ i. ap (only_if (is_true (r.term d))) (sym (p r.term) ∙ sym (held_given r.mode (var_content r.term v) i)))))
    (bound_cell old new b c _ k q h)

held_kept : (m : Mode) (p : Bool) (v : Option Content) → held m (only_if p v) ≡ held m (only_if (held_truth m p) v)
held_kept (Blank n) p v = refl
held_kept (Given f) p v = refl

pub kept_open : (old new : Run) (e : bounds.Bounds) (d : ℕ) (f : Reading → Option Content) (k : Known) → IsCell old new (λ r. Var e (held r.mode (only_if (is_true (r.term d)) (f r)))) k → IsCell old new (λ r. kept_if r.mode (held_truth r.mode (is_true (r.term d))) (Var e (f r))) k
kept_open old new e d f k h = cell_like old new _ _ k (λ r. ap (Var e) (held_kept r.mode (is_true (r.term d)) (f r))) h

pub kept_unshaped : (s : Run) (d n : ℕ) → IsCell s s (λ r. kept_if r.mode (held_truth r.mode (is_true (r.term d))) (Unshaped n)) (known.Unshaped n)
kept_unshaped s d n = record { same = λ r h. refl; is = λ r h. refl; bare = refl }

-- ---- what is undefined wherever it is read

none_cast : (b : Option Base) → cast_by b None ≡ None
none_cast None = refl
none_cast (Some b) = refl

pub nothing_told : (v : VarValue) → v.origin ≡ origin.Nothing → (t : ℕ → Term) → var_content t v ≡ None
nothing_told v e t = ap (λ o. cast_by v.cast (origin_value t o)) e ∙ none_cast v.cast

none_kept : (m : Mode) (p : Bool) → None ≡ held m (only_if p (held m None))
none_kept (Blank n) p = refl
none_kept (Given f) true = refl
none_kept (Given f) false = refl

pub untold_cell : (s : Run) (b : bounds.Bound) (d : ℕ) (v : VarValue) (k : Known) → ((t : ℕ → Term) → var_content t v ≡ None) → cell_of k ≡ Var (bounds.one b) None → ((r : Reading) → seen r k ≡ Var (bounds.one b) None)
    → IsCell s s (λ r. Var (bounds.one b) (held r.mode (only_if (is_true (r.term d)) (held r.mode (var_content r.term v))))) k
untold_cell s b d v k f of e = record {
  same = λ r h. refl;
  is = λ r h. e r ∙ ap (Var (bounds.one b)) (none_kept r.mode (is_true (r.term d)) ∙ ap (λ x. held r.mode (only_if (is_true (r.term d)) (held r.mode x))) (sym (f r.term)));
  bare = of;
}

-- ---- what becomes var

pub open_cell : (old new : Run) (t : PlainType) (d : ℕ) (k x y : Known) → ((r : Reading) → seen r x ≡ to_var r.mode t (seen r k)) → IsCell old new (λ r. kept_if r.mode (held_truth r.mode (is_true (r.term d))) (seen r x)) y → IsCell old new (λ r. kept_if r.mode (held_truth r.mode (is_true (r.term d))) (to_var r.mode t (seen r k))) y
open_cell old new t d k x y e h = cell_like old new _ _ y (λ r. ap (kept_if r.mode (held_truth r.mode (is_true (r.term d)))) (e r)) h

var_length : (m : Mode) (t : PlainType) (c : Cell) → or_zero (length_of (to_var m t c)) ≡ or_zero (length_of c)
unfolding as_items bounds_of
var_length m t (Par None) = by (no_dims t.dims)
  where
    by : (p : Bool) → or_zero (length_of (if p then Var (if p then bounds.one (cells.empty_bound t) else bounds.no_array (length t.dims)) None else Unshaped (length t.dims))) ≡ 0
    by true = refl
    by false = refl
var_length m t (Par (Some (values.array ix xs))) = length-map (items_in xs) bound_of
var_length m t (Par (Some x)) = refl
var_length m t (Var b v) = refl
var_length m t (Unshaped d) = refl

pub open_goes : (old new : Run) (t : PlainType) (k x : Known) → cell_of x ≡ to_var Bare t (cell_of k) → GoesOnBy (28 + 36 * count_in x) old new → GoesOnBy (28 + 36 * count_in k) old new
open_goes old new t k x e g = subst (λ n. GoesOnBy (28 + 36 * n) old new) (ap (λ c. or_zero (length_of c)) e ∙ var_length Bare t (cell_of k)) g

-- ---- where par cells tell it

held_twice : (m : Mode) (v : Option Content) → held m v ≡ held m (only_if true (held m v))
held_twice (Blank n) v = refl
held_twice (Given f) v = refl

pub kept_true : (r : Reading) (k : Known) → seen r k ≡ kept_if r.mode true (seen r k)
kept_true r known.Undefined = refl
kept_true r (known.One i) = refl
kept_true r (known.Array ix xs) = refl
kept_true r (known.Var x) = ap (λ v. Var (bounds.one (known_bound x.value.bound)) v) (held_twice r.mode (var_content r.term x.value))
kept_true r (known.Row ix xs) = ap (λ v. Var (bounds.many ix.value.items (map known_bound xs.value.bounds.value.items)) v) (held_twice r.mode (row_content r.line ix.value.items xs.value))
kept_true r (known.Unshaped d) = refl

pub kept_bare : (k : Known) → cell_of k ≡ kept_if Bare true (cell_of k)
kept_bare k = kept_true blank k

pub nothing_held : (m : Mode) → None ≡ held m None
nothing_held (Blank n) = refl
nothing_held (Given f) = refl

pub empty_var : (m : Mode) (e : bounds.Bounds) → Var e None ≡ Var e (held m None)
empty_var m e = ap (Var e) (nothing_held m)

pub par_cell : (s : Run) (f : Reading → Cell) (k : Known) → cell_of k ≡ f blank → ((r : Reading) → seen r k ≡ f r) → IsCell s s f k
par_cell s f k e h = record { same = λ r q. refl; is = λ r q. h r; bare = e }
