-- Guards that values lie in their declared sets.
use Rattle.std.proofs.Common.{◌≡◌, ◌∙◌, ℕ, pos, ◌+◌, ◌*◌, Bool, true, false, ◌&&◌, List, [], ◌∷◌, Option, Some, None, refl, sym, ap, subst, arith, if◌then◌else◌}
use Rattle.mz_base.specs.declared.fault.Span.{Span}
use Rattle.mz_base.specs.declared.kind.Kind.TheVariants as kind
use Rattle.mz_value.specs.Ranges.{Range}
use Rattle.mz_value.specs.Contents as values
use Rattle.mz_operations.specs.Bounds as bounds
use Rattle.mz_operations.specs.Views.{as_items}
use Rattle.mz_meaning.specs.Arrays as arrays
use Rattle.mz_meaning.specs.Calls as calls
use Rattle.mz_meaning.specs.Cells as cells
use Rattle.mz_meaning.specs.Cells.{Cell, Par, Var, Unshaped, Sure, is_par, length_of, or_zero, value_of}
use Rattle.mz_meaning.specs.Lets as lets
use Rattle.mz_meaning.specs.Runs.{State, Answer, Out, Stopped, give, start, stop, then_do}
use Rattle.mz_symbol.specs.Runs.{Run}
use Rattle.mz_symbol.specs.Readings.{Reading, blank}
use Rattle.mz_symbol.specs.Makes.{GoesOnBy}
use Rattle.mz_symbol_rows.proofs.GoingOn.{goes_both, goes_most}
use Rattle.mz_eval_cells.specs.declared.types.Known.{Known}
use Rattle.mz_eval_cells.specs.declared.types.Known.TheVariants as known
use Rattle.mz_eval_cells.specs.Views.{cell_of, seen}
use Rattle.mz_eval_guards.specs.Guards.{count_in, IsGuard, guard_seen}
use Rattle.mz_eval_guards.specs.declared.types.Guard.{Guard}
use Rattle.mz_eval_guards.specs.declared.types.Guard.TheVariants as guard
use Rattle.mz_eval_guards.proofs.Joined.{guard_like}

pub goes_none : (n : ℕ) (s : Run) → GoesOnBy n s s
goes_none n s = record { back = λ r h. h; paid = omega arith }

-- ---- what par cells tell

par_seen : (r : Reading) (k : Known) → is_par (cell_of k) ≡ true → seen r k ≡ cell_of k
par_seen r known.Undefined e = refl
par_seen r (known.One i) e = refl
par_seen r (known.Array ix xs) e = refl
par_seen r (known.Var x) e = absurd (cc)
par_seen r (known.Row ix xs) e = absurd (cc)
par_seen r (known.Unshaped d) e = absurd (cc)

par_told : (w : arrays.Want) (c : Cell) → is_par c ≡ true → (arrays.suits w c).par ≡ true
par_told arrays.Anything c e = e
par_told arrays.Missing c e = refl
par_told (arrays.Within u) c e = e

-- a guard that tells a truth value, of what par cells tell
told_par : (f : Sure) (p b : Bool) → record { par = p; is = b } ≡ f → f.par ≡ true → record { par = true; is = b } ≡ f
told_par f p b e h = ap (λ (s : Sure). record { par = true; is = s.is }) e ∙ ap (λ (q : Bool). record { par = q; is = f.is }) (sym h)

pub par_suits : (s : Run) (w : arrays.Want) (k : Known) (p b : Bool) → is_par (cell_of k) ≡ true → record { par = p; is = b } ≡ arrays.suits w (cell_of k) → IsGuard s s (λ r. arrays.suits w (seen r k)) (guard.Par b)
par_suits s w k p b e h = record {
  same = λ r q. refl;
  is = λ r q. told_par (arrays.suits w (cell_of k)) p b h (par_told w (cell_of k) e) ∙ ap (arrays.suits w) (sym (par_seen r k e));
  bare = told_par (arrays.suits w (cell_of k)) p b h (par_told w (cell_of k) e) ∙ ap (arrays.suits w) (sym (par_seen blank k e));
}

-- ---- what var cells tell

var_seen : (r : Reading) (k : Known) → is_par (seen r k) ≡ is_par (cell_of k)
var_seen r known.Undefined = refl
var_seen r (known.One i) = refl
var_seen r (known.Array ix xs) = refl
var_seen r (known.Var x) = refl
var_seen r (known.Row ix xs) = refl
var_seen r (known.Unshaped d) = refl

pub open_suits : (old new : Run) (u : List Range) (k : Known) (x : Guard) → is_par (cell_of k) ≡ false → IsGuard old new (λ r. record { par = false; is = arrays.defined_in u (value_of (seen r k)) }) x → IsGuard old new (λ r. record { par = is_par (seen r k); is = arrays.defined_in u (value_of (seen r k)) }) x
open_suits old new u k x e h = guard_like old new _ _ x (λ r. ap (λ (p : Bool). record { par = p; is = arrays.defined_in u (value_of (seen r k)) }) (sym (var_seen r k ∙ e))) h

-- a guard that each reading sees alike
pub sure_guards : (s : Run) (f : Sure) (x : Guard) → ((r : Reading) → guard_seen r x ≡ f) → IsGuard s s (λ _. f) x
sure_guards s f x e = record { same = λ r q. refl; is = λ r q. e r; bare = e blank }

pub missing_suits : (s : Run) (w : arrays.Want) (k : Known) (x : Guard) → w ≡ arrays.Missing → ((r : Reading) → guard_seen r x ≡ cells.unsure) → IsGuard s s (λ r. arrays.suits w (seen r k)) x
missing_suits s arrays.Missing k x e h = sure_guards s cells.unsure x h
missing_suits s arrays.Anything k x e h = absurd (cc)
missing_suits s (arrays.Within u) k x e h = absurd (cc)

pub only_sets : (s : Run) (a b : Bool) (w : arrays.Want) (k : Known) (x : Guard) → a ≡ false → b ≡ true → ((r : Reading) → guard_seen r x ≡ arrays.has_set w) → IsGuard s s (λ r. calls.argument_suits a b w (seen r k)) x
only_sets s false true w k x e f h = sure_guards s (arrays.has_set w) x h
only_sets s false false w k x e f h = absurd (cc)
only_sets s true b w k x e f h = absurd (cc)

-- ---- all declared sets

all_par : (ws : List arrays.Want) → (lets.all_have_sets ws).par ≡ true
all_par [] = refl
all_par (arrays.Anything ∷ ws) = all_par ws
all_par (arrays.Missing ∷ ws) = all_par ws
all_par (arrays.Within u ∷ ws) = all_par ws

pub all_sets : (ws : List arrays.Want) (p b : Bool) → record { par = p; is = b } ≡ lets.all_have_sets ws → record { par = true; is = b } ≡ lets.all_have_sets ws
all_sets ws p b e = told_par (lets.all_have_sets ws) p b e (all_par ws)

pub both_guards : (n : ℕ) (old mid new : Run) (a : Sure) (f : Reading → Sure) (p x y : Guard) → ((r : Reading) → guard_seen r p ≡ a) → IsGuard old mid f x → GoesOnBy n mid new → IsGuard mid new (λ r. cells.both_sure (guard_seen r p) (guard_seen r x)) y → IsGuard old new (λ r. cells.both_sure a (f r)) y
both_guards n old mid new a f p x y e h g q = record {
  same = λ r i. h.same r (g.back r i) ∙ q.same r i;
  is = λ r i. q.is r i ∙ ap (λ s. cells.both_sure s (guard_seen r x)) (e r) ∙ ap (cells.both_sure a) (h.is r (g.back r i));
  bare = q.bare ∙ ap (λ s. cells.both_sure s (guard_seen blank x)) (e blank) ∙ ap (cells.both_sure a) h.bare;
}

pub suited_goes : (n : ℕ) (old mid new : Run) → GoesOnBy (26 + 44 * n) old mid → GoesOnBy 6 mid new → GoesOnBy (32 + 44 * n) old new
suited_goes n old mid new f g = goes_most (26 + 44 * n + 6) (32 + 44 * n) old new (omega arith) (goes_both (26 + 44 * n) 6 old mid new f g)

pub suited_begins : (n : ℕ) (old mid : Run) → GoesOnBy (26 + 44 * n) old mid → GoesOnBy (32 + 44 * n) old mid
suited_begins n old mid f = goes_most (26 + 44 * n) (32 + 44 * n) old mid (omega arith) f

-- ---- a value under its index sets and its set

-- a local with whether what is declared of it holds
abbrev pub local_out : Cell → Sure → State → Answer (Cell × Sure)
local_out c x s = Out (c, x) s

pub kept_means : (old new : Run) (r : Reading) (at : Span) (ws : List arrays.Want) (w : arrays.Want) (c : Cell) (f : Known) (g : Guard) (s t : State) → ((s : State) → arrays.fitted at ws c s ≡ Out (seen r f) s) → guard_seen r g ≡ cells.both_sure (lets.all_have_sets ws) (arrays.suits w (seen r f)) → s ≡ t → lets.kept at ws w c s ≡ Out (seen r f, guard_seen r g) t
kept_means old new r at ws w c f g s t fits h e =
    ap (λ (a : Answer Cell). then_do a (λ (x : Cell) (t : State). local_out x (cells.both_sure (lets.all_have_sets ws) (arrays.suits w x)) t)) (fits s)
    ∙ ap (λ (q : Sure). local_out (seen r f) q s) (sym h)
    ∙ ap (λ (u : State). local_out (seen r f) (guard_seen r g) u) e

moved_length : (rs : List Range) (c : Cell) → or_zero (length_of (arrays.moved rs c)) ≡ or_zero (length_of c)
unfolding as_items
moved_length rs (Par None) = refl
moved_length rs (Par (Some (values.array ix xs))) = refl
moved_length rs (Par (Some x)) = refl
moved_length rs (Var (bounds.one b) v) = refl
moved_length rs (Var (bounds.many ix bs) v) = refl
moved_length rs (Unshaped d) = refl

abbrev answer_cell : Cell → Answer Cell → Cell
answer_cell c (Out x s) = x
answer_cell c (Stopped f) = c

given_length : (c d x : Cell) (s t : State) → or_zero (length_of d) ≡ or_zero (length_of c) → Out d s ≡ Out x t → or_zero (length_of x) ≡ or_zero (length_of c)
given_length c d x s t h e = ap (λ y. or_zero (length_of y)) (sym (ap (answer_cell x) e)) ∙ h

fitted_length : (at : Span) (ws : List arrays.Want) (own : List Range) (n : Option ℕ) (c x : Cell) (s t : State) → arrays.fitted_to at ws own n c s ≡ Out x t → or_zero (length_of x) ≡ or_zero (length_of c)
fitted_length at ws own None c x s t e = given_length c c x s t refl e
fitted_length at ws own (Some n) c x s t e = by (arrays.fits_shape ws own n) e
  where
    by : (b : Bool) → (if b then give (arrays.moved (arrays.declared_ranges ws own) c) else stop kind.IndexMismatch at (pos 0)) s ≡ Out x t → or_zero (length_of x) ≡ or_zero (length_of c)
    by true q = given_length c (arrays.moved (arrays.declared_ranges ws own) c) x s t (moved_length (arrays.declared_ranges ws own) c) q
    by false q = absurd (cc)

fit_length : (at : Span) (ws : List arrays.Want) (c x : Cell) (s t : State) → arrays.fitted at ws c s ≡ Out x t → or_zero (length_of x) ≡ or_zero (length_of c)
fit_length at [] c x s t e = given_length c c x s t refl e
fit_length at (w ∷ ws) c x s t e = by (arrays.no_missing (w ∷ ws)) e
  where
    by : (b : Bool) → (if b then arrays.fitted_to at (w ∷ ws) (arrays.own_ranges c) (length_of c) c else give c) s ≡ Out x t → or_zero (length_of x) ≡ or_zero (length_of c)
    by true q = fitted_length at (w ∷ ws) (arrays.own_ranges c) (length_of c) c x s t q
    by false q = given_length c c x s t refl q

pub kept_goes : (at : Span) (ws : List arrays.Want) (k f : Known) (old new : Run) → ((s : State) → arrays.fitted at ws (cell_of k) s ≡ Out (cell_of f) s) → GoesOnBy (32 + 44 * count_in f) old new → GoesOnBy (32 + 44 * count_in k) old new
kept_goes at ws k f old new e g = subst (λ n. GoesOnBy (32 + 44 * n) old new) (fit_length at ws (cell_of k) (cell_of f) start start (e start)) g
