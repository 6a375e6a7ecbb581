-- The branches of an `if` under a reading.
use Rattle.std.proofs.Common.{◌≡◌, ◌∙◌, ℕ, suc, ◌+◌, ◌*◌, ◌≤◌, ℤ, Bool, true, false, not, List, [], ◌∷◌, ◌++◌, length, map, Option, Some, None, is_some, Err, refl, sym, ap, arith, if◌then◌else◌}
use Rattle.std.specs.Prelude.{pos}
use Rattle.std.specs.List.{list_all}
use Rattle.std.specs.Option.{option_map}
use Rattle.mz_base.specs.declared.fault.Span.{Span}
use Rattle.mz_base.specs.declared.fault.Fault.{Fault}
use Rattle.mz_base.specs.declared.kind.Kind.TheVariants as kind
use Rattle.mz_base.specs.declared.stop.Stop.{Stop}
use Rattle.mz_base.specs.declared.stop.Stop.TheVariants.{Refused, Memory}
use Rattle.mz_value.specs.Contents.{Content}
use Rattle.mz_core.specs.declared.types.Base.TheVariants as base
use Rattle.mz_core.specs.Types.{PlainType}
use Rattle.mz_operations.specs.Bounds as bounds
use Rattle.mz_arena.specs.Values.{as_number, is_one, is_true}
use Rattle.mz_instance.specs.Contents.{content_by}
use Rattle.mz_meaning.specs.Runs as runs
use Rattle.mz_meaning.specs.Runs.{State, Out, Stopped, give, stop}
use Rattle.mz_meaning.specs.Cells as cells
use Rattle.mz_meaning.specs.Cells.{Cell, Var, Unshaped, Mode, Blank, Given, Bare, held, value_of}
use Rattle.mz_meaning.specs.Arrays.{all_bounds, branch_bounds_of, branch_cell, branches_cell, chosen_value, same_shape}
use Rattle.mz_symbol.specs.declared.types.Symbol.{Symbol}
use Rattle.mz_symbol.specs.Symbols.{symbol_value, value_at}
use Rattle.mz_symbol.specs.Runs.{Run}
use Rattle.mz_symbol.specs.Readings.{IsGiven, Reading, symbol_seen}
use Rattle.mz_symbol.specs.Makes.{GoesOnBy, MeetsAt}
use Rattle.mz_symbol.proofs.ConstantLaws.{out_value}
use Rattle.mz_symbol_rows.specs.RowValues.{argument}
use Rattle.mz_symbol_rows.proofs.GoingOn.{goes_both, goes_most}
use Rattle.mz_symbol_access.specs.ChosenValues as choosing
use Rattle.mz_eval_cells.specs.declared.types.Known.{Known}
use Rattle.mz_eval_cells.specs.declared.types.Known.TheVariants as known
use Rattle.mz_eval_cells.specs.Meets as meets
use Rattle.mz_eval_cells.specs.Views.{cell_of, seen}
use Rattle.mz_eval_symbols.specs.Taken.{cell_value}
use Rattle.mz_eval_arrays.specs.Gathered.{pairs_by}
use Rattle.mz_eval_arrays.specs.ArrayCells.{counted, is_counted}
use Rattle.mz_eval_arrays.specs.StepsBranches.{IsTruthOf, branch_value, branches_value, one_value, with_value}
use Rattle.mz_eval_arrays.proofs.KindLaws.{as_counted}

-- ---- conditions

-- a node that isn't true counts as false
node_truth : (n : Option ℤ) → cells.is_true (option_map (λ n. content_by base.Bool n []) n) ≡ is_one n
node_truth None = refl
node_truth (Some n) = refl

term_told : (m : Mode) (v : Option Content) (b : Bool) → IsGiven m → cells.is_true v ≡ b → b ≡ cells.is_true (held m (counted true v))
term_told (Blank n) v b g e = absurd g
term_told (Given f) v b g e = sym e

pub truth_argument : (s : Symbol) → s.base ≡ base.Bool → s.occurs ≡ None → IsTruthOf s s.term
truth_argument s b o r g =
    let one : symbol_value r.term s ≡ option_map (λ n. content_by base.Bool n []) (as_number (r.term s.term)) = ap (λ x. value_at r.term x s.occurs s.term) b ∙ ap (λ x. value_at r.term base.Bool x s.term) o in
    term_told r.mode (symbol_value r.term s) (is_true (r.term s.term)) g (ap cells.is_true one ∙ node_truth (as_number (r.term s.term)))
    ∙ ap (λ q. cells.is_true (held r.mode (counted q (symbol_value r.term s)))) (sym (ap (λ x. is_counted x (is_some s.occurs)) b ∙ ap (λ x. is_counted base.Bool (is_some x)) o))
    ∙ ap (λ v. cells.is_true (held r.mode v)) (sym (as_counted s.base s.occurs (symbol_value r.term s)))

truth_held : (m : Mode) (v : Option Content) → IsGiven m → cells.is_true (held m v) ≡ cells.is_true v
truth_held (Blank n) v g = absurd g
truth_held (Given f) v g = refl

pub condition_told : (r : Reading) (k : Known) (s : Symbol) (id : ℕ) → cell_value r k ≡ argument r s → IsTruthOf s id → IsGiven r.mode → is_true (r.term id) ≡ cells.is_true (value_of (seen r k))
condition_told r k s id e t g = t r g ∙ ap cells.is_true (sym e) ∙ truth_held r.mode (value_of (seen r k)) g

-- ---- one of two

if_counted : (q c : Bool) (x y : Option Content) → (if c then counted q x else counted q y) ≡ counted q (if c then x else y)
if_counted q true x y = refl
if_counted q false x y = refl

picked_by : (m : Mode) (q c : Bool) (x y z : Option Content) → held m (if c then x else y) ≡ held m z → held m (if c then held m (counted q x) else held m (counted q y)) ≡ held m (counted q z)
picked_by (Blank n) q c x y z e = refl
picked_by (Given f) q c x y z e = if_counted q c x y ∙ ap (counted q) e

argument_counted : (r : Reading) (s : Symbol) (q : Bool) → is_counted s.base (is_some s.occurs) ≡ q → argument r s ≡ held r.mode (counted q (symbol_value r.term s))
argument_counted r s q k = ap (held r.mode) (as_counted s.base s.occurs (symbol_value r.term s)) ∙ ap (λ p. held r.mode (counted p (symbol_value r.term s))) k

pub picked_told : (r : Reading) (q : Bool) (id : ℕ) (x y z : Symbol) → is_counted x.base (is_some x.occurs) ≡ q → is_counted y.base (is_some y.occurs) ≡ q → is_counted z.base (is_some z.occurs) ≡ q → held r.mode (choosing.chosen_value r id x y) ≡ symbol_seen r z → one_value r id (argument r x) (argument r y) ≡ argument r z
picked_told r q id x y z h i j e =
    let c = is_true (r.term id) in
    ap (λ v. held r.mode (if c then v else argument r y)) (argument_counted r x q h)
    ∙ ap (λ v. held r.mode (if c then held r.mode (counted q (symbol_value r.term x)) else v)) (argument_counted r y q i)
    ∙ picked_by r.mode q c (symbol_value r.term x) (symbol_value r.term y) (symbol_value r.term z) e
    ∙ sym (argument_counted r z q j)

-- ---- one branch before the others

first_by : (m : Mode) (c d : Bool) (x v w : Option Content) → (IsGiven m → c ≡ d) → held m x ≡ w → held m (if d then x else v) ≡ held m (if c then w else v)
first_by (Blank n) c d x v w h e = refl
first_by (Given f) c d x v w h e = ap (λ b. if b then x else v) (sym (h tt)) ∙ ap (λ y. if c then y else v) e

pub first_told : (r : Reading) (p : Known × Known) (id : ℕ) (w v : Option Content) → (IsGiven r.mode → is_true (r.term id) ≡ cells.is_true (value_of (seen r p.0))) → branches_value r [] p.1 ≡ w → branch_value r p v ≡ one_value r id w v
first_told r p id w v h e = first_by r.mode (is_true (r.term id)) (cells.is_true (value_of (seen r p.0))) (value_of (seen r p.1)) v w h e

more_by : (m : Mode) (c : Bool) (x y v : Option Content) → held m y ≡ v → held m (if c then x else y) ≡ held m (if c then x else v)
more_by (Blank n) c x y v e = refl
more_by (Given f) c x y v e = ap (λ z. if c then x else z) e

pub more_told : (r : Reading) (p : Known × Known) (ps : List (Known × Known)) (last : Known) (v : Option Content) → branches_value r ps last ≡ v → branches_value r (p ∷ ps) last ≡ branch_value r p v
more_told r p ps last v e = more_by r.mode (cells.is_true (value_of (seen r p.0))) (value_of (seen r p.1)) (chosen_value (pairs_by (seen r) ps) (seen r last)) v e

-- ---- the cell

bounds_seen : (r : Reading) (t : PlainType) (k : Known) → branch_bounds_of t (seen r k) ≡ branch_bounds_of t (cell_of k)
bounds_seen r t known.Undefined = refl
bounds_seen r t (known.One i) = refl
bounds_seen r t (known.Array ix xs) = refl
bounds_seen r t (known.Var x) = refl
bounds_seen r t (known.Row ix xs) = refl
bounds_seen r t (known.Unshaped d) = refl

all_bounds_seen : (r : Reading) (t : PlainType) (ps : List (Known × Known)) (last : Known) → map (branch_bounds_of t) (map (λ p. p.1) (pairs_by (seen r) ps) ++ seen r last ∷ []) ≡ map (branch_bounds_of t) (map (λ p. p.1) (pairs_by cell_of ps) ++ cell_of last ∷ [])
all_bounds_seen r t [] last = ap (λ b. b ∷ []) (bounds_seen r t last)
all_bounds_seen r t (p ∷ ps) last =
    ap (λ b. b ∷ map (branch_bounds_of t) (map (λ p. p.1) (pairs_by (seen r) ps) ++ seen r last ∷ [])) (bounds_seen r t p.1)
    ∙ ap (λ bs. branch_bounds_of t (cell_of p.1) ∷ bs) (all_bounds_seen r t ps last)

abbrev branches_in : PlainType → List (Cell × Cell) → Cell → List bounds.Bounds
branches_in t ps last = all_bounds (map (branch_bounds_of t) (map (λ p. p.1) ps ++ last ∷ []))

var_branches : (m : Mode) (t : PlainType) (at : Span) (ps : List (Cell × Cell)) (last : Cell) → t.var ≡ true → branch_cell m t at ps last ≡ branches_cell m t at (branches_in t ps last) (chosen_value ps last)
var_branches m t at ps last v = ap (λ b. if not b then give last else branches_cell m t at (branches_in t ps last) (chosen_value ps last)) v

-- the cell of branches of which one has bounds, once it is told whether these are alike
abbrev alike_told : Mode → Span → bounds.Bounds → List bounds.Bounds → Option Content → Bool → runs.Run Cell
alike_told m at b bs v q = if q then give (Var (bounds.if_bounds b bs) (held m v)) else stop kind.IndexMismatch at (pos 0)

given_alike : (m : Mode) (at : Span) (b : bounds.Bounds) (bs : List bounds.Bounds) (v w : Option Content) (c : Cell) (s : State) (q : Bool) → alike_told Bare at b bs v q s ≡ Out c s → alike_told m at b bs w q s ≡ Out (with_value (held m w) c) s
given_alike m at b bs v w c s true e = ap (λ d. Out (with_value (held m w) d) s) (out_value e)
given_alike m at b bs v w c s false e = absurd (cc)

given_cell : (m : Mode) (t : PlainType) (at : Span) (bs : List bounds.Bounds) (v w : Option Content) (c : Cell) (s : State) → branches_cell Bare t at bs v s ≡ Out c s → branches_cell m t at bs w s ≡ Out (with_value (held m w) c) s
given_cell m t at [] v w c s e = ap (λ d. Out (with_value (held m w) d) s) (out_value e)
given_cell m t at (b ∷ bs) v w c s e = given_alike m at b bs v w c s (list_all (same_shape b) bs) e

stopped_alike : (m : Mode) (at : Span) (b : bounds.Bounds) (bs : List bounds.Bounds) (v w : Option Content) (f : Fault) (s : State) (q : Bool) → alike_told Bare at b bs v q s ≡ Stopped f → alike_told m at b bs w q s ≡ Stopped f
stopped_alike m at b bs v w f s true e = absurd (cc)
stopped_alike m at b bs v w f s false e = e

stopped_cell : (m : Mode) (t : PlainType) (at : Span) (bs : List bounds.Bounds) (v w : Option Content) (f : Fault) (s : State) → branches_cell Bare t at bs v s ≡ Stopped f → branches_cell m t at bs w s ≡ Stopped f
stopped_cell m t at [] v w f s e = absurd (cc)
stopped_cell m t at (b ∷ bs) v w f s e = stopped_alike m at b bs v w f s (list_all (same_shape b) bs) e

seen_branches : (r : Reading) (t : PlainType) (at : Span) (ps : List (Known × Known)) (last : Known) → t.var ≡ true → branch_cell r.mode t at (pairs_by (seen r) ps) (seen r last) ≡ branches_cell r.mode t at (branches_in t (pairs_by cell_of ps) (cell_of last)) (chosen_value (pairs_by (seen r) ps) (seen r last))
seen_branches r t at ps last v =
    var_branches r.mode t at (pairs_by (seen r) ps) (seen r last) v
    ∙ ap (λ bs. branches_cell r.mode t at (all_bounds bs) (chosen_value (pairs_by (seen r) ps) (seen r last))) (all_bounds_seen r t ps last)

-- a cell without a value, and the same with its value
pub value_told : (r : Reading) (t : PlainType) (at : Span) (ps : List (Known × Known)) (last copy k : Known) (s : State) → true ≡ t.var → cell_of copy ≡ cell_of last → branch_cell Bare t at (pairs_by cell_of ps) (cell_of copy) s ≡ Out (cell_of k) s → branch_cell r.mode t at (pairs_by (seen r) ps) (seen r last) s ≡ Out (with_value (branches_value r ps last) (cell_of k)) s
value_told r t at ps last copy k s v c e =
    let cs = pairs_by cell_of ps in
    ap (λ run. run s) (seen_branches r t at ps last (sym v))
    ∙ given_cell r.mode t at (branches_in t cs (cell_of last)) (chosen_value cs (cell_of last)) (chosen_value (pairs_by (seen r) ps) (seen r last)) (cell_of k) s
    (sym (ap (λ run. run s) (var_branches Bare t at cs (cell_of last) (sym v))) ∙ ap (λ x. branch_cell Bare t at cs x s) (sym c) ∙ e)

pub refused_told : (r : Reading) (t : PlainType) (at : Span) (ps : List (Known × Known)) (last copy : Known) (e : Stop) (s u : State) → true ≡ t.var → cell_of copy ≡ cell_of last → meets.MeetsAt cell_of (Err e) s (branch_cell Bare t at (pairs_by cell_of ps) (cell_of copy) s) → MeetsAt (seen r) (Err e) u (branch_cell r.mode t at (pairs_by (seen r) ps) (seen r last) s)
refused_told r t at ps last copy (Refused f) s u v c e =
    let cs = pairs_by cell_of ps in
    ap (λ run. run s) (seen_branches r t at ps last (sym v))
    ∙ stopped_cell r.mode t at (branches_in t cs (cell_of last)) (chosen_value cs (cell_of last)) (chosen_value (pairs_by (seen r) ps) (seen r last)) f s
    (sym (ap (λ run. run s) (var_branches Bare t at cs (cell_of last) (sym v))) ∙ ap (λ x. branch_cell Bare t at cs x s) (sym c) ∙ e)
refused_told r t at ps last copy Memory s u v c e = tt

-- the last branch where the type is par
pub last_told : (m : Mode) (t : PlainType) (at : Span) (ps : List (Cell × Cell)) (last : Cell) (s : State) → false ≡ t.var → branch_cell m t at ps last s ≡ Out last s
last_told m t at ps last s v = ap (λ b. (if not b then give last else branches_cell m t at (branches_in t ps last) (chosen_value ps last)) s) (sym v)

-- the cell that stands for the value
pub open_value : (k x : Cell) (b : bounds.Bounds) (v w : Option Content) → k ≡ Var b None → v ≡ w → x ≡ Var b w → with_value v k ≡ x
open_value k x b v w h e g = ap (with_value v) h ∙ ap (Var b) e ∙ sym g

-- ---- what it costs

pub goes_first : (old mid new : Run) → GoesOnBy 8 old mid → GoesOnBy 8 mid new → GoesOnBy 48 old new
goes_first old mid new f g = goes_most 16 48 old new (omega arith) (goes_both 8 8 old mid new f g)

pub goes_picked : (old mid next new : Run) → GoesOnBy 8 old mid → GoesOnBy 8 mid next → GoesOnBy 32 next new → GoesOnBy 48 old new
goes_picked old mid next new f g h = goes_both 16 32 old next new (goes_both 8 8 old mid next f g) h

pub goes_last : (n : ℕ) (old new : Run) → GoesOnBy 8 old new → GoesOnBy (48 * n + 8) old new
goes_last n old new f = goes_most 8 (48 * n + 8) old new (omega arith) f

pub goes_rest : (p : Known × Known) (ps qs : List (Known × Known)) (old new : Run) → qs ≡ p ∷ ps → GoesOnBy (48 * length ps + 8) old new → GoesOnBy (48 * length qs + 8) old new
goes_rest p ps qs old new e f = goes_most (48 * length ps + 8) (48 * length qs + 8) old new (fewer (length ps) (length qs) (ap length e)) f
  where
    fewer : (n m : ℕ) → m ≡ suc n → 48 * n + 8 ≤ 48 * m + 8
    fewer n m h = omega (arith, h)

pub goes_more : (p : Known × Known) (ps qs : List (Known × Known)) (old mid new : Run) → qs ≡ p ∷ ps → GoesOnBy (48 * length ps + 8) old mid → GoesOnBy 48 mid new → GoesOnBy (48 * length qs + 8) old new
goes_more p ps qs old mid new e f g = goes_most (48 * length ps + 8 + 48) (48 * length qs + 8) old new (fewer (length ps) (length qs) (ap length e)) (goes_both (48 * length ps + 8) 48 old mid new f g)
  where
    fewer : (n m : ℕ) → m ≡ suc n → 48 * n + 8 + 48 ≤ 48 * m + 8
    fewer n m h = omega (arith, h)
