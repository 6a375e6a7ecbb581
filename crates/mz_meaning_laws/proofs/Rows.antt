-- Operators and built-ins over cells: in a blank run they give the outline of what they give.
use Rattle.std.proofs.Common.{◌≡◌, ℕ, ◌+◌, ℤ, pos, zero, suc, Bool, true, false, ◌||◌, List, [], ◌∷◌, ◌++◌, map, take, drop, Option, Some, None, refl, ap, ◌∙◌, unwrap_or, slice_get, if◌then◌else◌}
use Rattle.std.specs.Option.{option_map}
use Rattle.std.specs.List.{list_any}
use Rattle.std.proofs.lemmas.List.{take-map, drop-map}
use Rattle.std.proofs.lemmas.Option.{slice_get-map}
use Rattle.mz_base.specs.declared.fault.Span.{Span}
use Rattle.mz_base.specs.declared.kind.Kind.TheVariants as kind
use Rattle.mz_interval.specs.Ends.{is_number}
use Rattle.mz_value.specs.Contents.{Content}
use Rattle.mz_value.specs.Shown.{Names}
use Rattle.mz_core.specs.declared.types.Base.{Base}
use Rattle.mz_core.specs.Types.{PlainType}
use Rattle.mz_operations.specs.declared.row.MadeRow.TheVariants.{Line, Shaped, AssertArray}
use Rattle.mz_operations.specs.declared.row.Row.{Row}
use Rattle.mz_operations.specs.declared.row.Row.TheVariants.{Made}
use Rattle.mz_operations.specs.Answers as answers
use Rattle.mz_operations.specs.Answers.{Answer as RowAnswer, Gives, Stops}
use Rattle.mz_operations.specs.Costs.{cost}
use Rattle.mz_operations.specs.Bounds.{Bounds}
use Rattle.mz_operations.specs.Bounds as bounds
use Rattle.mz_operations.specs.RowBounds.{row_bounds, value_by_bounds}
use Rattle.mz_meaning.specs.Runs.{Run, then_do, give, spend}
use Rattle.mz_meaning.specs.Cells.{Cell, Par, Var, Unshaped, Mode, Blank, held, undefined, all_par, value_of, bounds_in, no_bounds, typed, Env}
use Rattle.mz_meaning.specs.Coerced.{recast}
use Rattle.mz_meaning.specs.Exact.{exact_value}
use Rattle.mz_meaning.specs.Operations as op
use Rattle.mz_meaning.specs.Forms.{World, done, operated_by, operated}
use Rattle.mz_meaning_laws.specs.Outlines.{outline, outlines, blank_world}
use Rattle.mz_meaning_laws.specs.Ties.{Tie, HasOutline}
use Rattle.mz_meaning_laws.proofs.Joins.{then_outlined, give_outlined, stop_outlined, if_outlined, at_same, same, spend_outlined}
use Rattle.mz_meaning_laws.proofs.Cells.{both_equal, bounds_outline, all_par_outline, all_par_same, map_outline, typed_outline}

-- ---- what a row reads of its arguments

pub size_outline : (c : Cell) → op.size_of (outline c) ≡ op.size_of c
size_outline (Par v) = refl
size_outline (Var b v) = refl
size_outline (Unshaped d) = refl

cost_outline : (r : Row) (cs : List Cell) → op.row_cost r (outlines cs) ≡ op.row_cost r cs
cost_outline r cs = ap (cost r) (map_outline op.size_of size_outline cs)

known_outline : (c : Cell) → op.known (outline c) ≡ op.known c
known_outline (Par v) = refl
known_outline (Var b v) = refl
known_outline (Unshaped d) = refl

index_set_outline : (c : Cell) → op.index_set_bounds (outline c) ≡ op.index_set_bounds c
index_set_outline (Par None) = refl
index_set_outline (Par (Some x)) = refl
index_set_outline (Var b v) = refl
index_set_outline (Unshaped d) = refl

taken_outline : {A : Type 0} (f : Cell → A) → ((c : Cell) → f (outline c) ≡ f c) → (d : ℕ) (cs : List Cell) → map f (take d (outlines cs)) ≡ map f (take d cs)
taken_outline f h d cs = ap (map f) (take-map outline d cs) ∙ map_outline f h (take d cs)

dropped_outline : {A : Type 0} (f : Cell → A) → ((c : Cell) → f (outline c) ≡ f c) → (d : ℕ) (cs : List Cell) → map f (drop d (outlines cs)) ≡ map f (drop d cs)
dropped_outline f h d cs = ap (map f) (drop-map outline d cs) ∙ map_outline f h (drop d cs)

argument_outline : (r : Row) (cs : List Cell) → op.argument_bounds r (outlines cs) ≡ op.argument_bounds r cs
argument_outline (Made (Shaped d)) cs = both_equal (λ xs ys. xs ++ ys) (taken_outline op.index_set_bounds index_set_outline d cs) (dropped_outline bounds_in bounds_outline d cs)
argument_outline r cs = map_outline bounds_in bounds_outline cs

or_undefined_outline : (c : Option Cell) → unwrap_or (option_map outline c) (Par None) ≡ outline (unwrap_or c (Par None))
or_undefined_outline None = refl
or_undefined_outline (Some c) = refl

at_place_outline : (k : ℕ) (cs : List Cell) → op.at_place k (outlines cs) ≡ outline (op.at_place k cs)
at_place_outline k cs = ap (λ c. unwrap_or c (Par None)) (slice_get-map outline cs k) ∙ or_undefined_outline (slice_get cs k)

or_unshaped_outline : (c : Cell) (b : Bounds) (v : Option Content) → op.or_unshaped (outline c) (Var b None) ≡ outline (op.or_unshaped c (Var b v))
or_unshaped_outline (Par u) b v = refl
or_unshaped_outline (Var e u) b v = refl
or_unshaped_outline (Unshaped d) b v = refl

or_reshaped_outline : (k : ℕ) (c : Cell) (b : Bounds) (v : Option Content) → op.or_reshaped k (outline c) (Var b None) ≡ outline (op.or_reshaped k c (Var b v))
or_reshaped_outline k (Par u) b v = refl
or_reshaped_outline k (Var e u) b v = refl
or_reshaped_outline k (Unshaped d) b v = refl

no_set_outline : (c : Cell) → op.is_no_set (outline c) ≡ op.is_no_set c
no_set_outline (Par None) = refl
no_set_outline (Par (Some x)) = refl
no_set_outline (Var e u) = refl
no_set_outline (Unshaped d) = refl

no_sets_outline : (d : ℕ) (cs : List Cell) → list_any op.is_no_set (take d (outlines cs)) ≡ list_any op.is_no_set (take d cs)
no_sets_outline zero cs = refl
no_sets_outline (suc d) [] = refl
no_sets_outline (suc d) (c ∷ cs) = both_equal (λ a b. a || b) (no_set_outline c) (no_sets_outline d cs)

unless_no_set_outline : (k : ℕ) (no : Bool) (c : Cell) (b : Bounds) (v : Option Content) → (if no then Unshaped k else op.or_reshaped k (outline c) (Var b None)) ≡ outline (if no then Unshaped k else op.or_reshaped k c (Var b v))
unless_no_set_outline k true c b v = refl
unless_no_set_outline k false c b v = or_reshaped_outline k c b v

shaped_by_outline : (d : ℕ) (cs : List Cell) (b : Bounds) (v : Option Content) → op.with_shape (Made (Shaped d)) (outlines cs) (Var b None) ≡ outline (op.with_shape (Made (Shaped d)) cs (Var b v))
shaped_by_outline d cs b v =
    both_equal (λ no c. if no then Unshaped d else op.or_reshaped d c (Var b None)) (no_sets_outline d cs) (at_place_outline d cs)
    ∙ unless_no_set_outline d (list_any op.is_no_set (take d cs)) (op.at_place d cs) b v

with_shape_outline : (r : Row) (cs : List Cell) (b : Bounds) (v : Option Content) → op.with_shape r (outlines cs) (Var b None) ≡ outline (op.with_shape r cs (Var b v))
with_shape_outline (Made (Shaped d)) cs b v = shaped_by_outline d cs b v
with_shape_outline (Made Line) cs b v = ap (λ c. op.or_reshaped 1 c (Var b None)) (at_place_outline 0 cs) ∙ or_reshaped_outline 1 (op.at_place 0 cs) b v
with_shape_outline (Made AssertArray) cs b v = ap (λ c. op.or_unshaped c (Var b None)) (at_place_outline 2 cs) ∙ or_unshaped_outline (op.at_place 2 cs) b v
with_shape_outline r cs b v = refl

-- ---- a row with par arguments: it reads values, which outlines keep

par_answer_outlined : {t : Tie} {n : Bool} (b : Base) (at : Span) (a : RowAnswer) → HasOutline t n outline (op.par_answer b at a) (op.par_answer b at a)
par_answer_outlined b at (Gives v) = give_outlined refl
par_answer_outlined b at (Stops k z) = stop_outlined k at z

par_row_outlined : {t : Tie} {n : Bool} (names : Names) (r : Row) (b : Base) (at : Span) (vs : List (Option Content)) → HasOutline t n outline (op.par_row names r b at vs) (op.par_row names r b at vs)
par_row_outlined names r b at vs = par_answer_outlined b at (if op.known_names names r vs then answers.answer names r vs else Gives None)

-- ---- a row with a var argument: its faults and its bounds

negative_outlined : {t : Tie} {n : Bool} (z : Option ℤ) (at : Span) (go : Run (Unit {0})) → HasOutline t n same go go → HasOutline t n same (op.unless_negative z at go) (op.unless_negative z at go)
negative_outlined None at go h = h
negative_outlined (Some z) at go h = stop_outlined kind.NegativeArgument at z

tested_outlined : {t : Tie} {n : Bool} (r : Row) (at : Span) (vs : List (Option Content)) → HasOutline t n same (op.tested r at vs) (op.tested r at vs)
tested_outlined r at vs =
    if_outlined (answers.is_mismatched r vs) (stop_outlined kind.IndexMismatch at (pos 0))
    (negative_outlined (answers.negative r vs) at _ (if_outlined (answers.is_failed r vs) (stop_outlined kind.AssertFailed at (pos 0)) (give_outlined refl)))

limited_outlined : {t : Tie} {n : Bool} (at : Span) (b : Bounds) → HasOutline t n same (op.limited at b) (op.limited at b)
limited_outlined at (bounds.one (bounds.number e)) = if_outlined (is_number e.0) (if_outlined (is_number e.1) (give_outlined refl) (stop_outlined kind.Bounds at e.1)) (stop_outlined kind.Bounds at e.0)
limited_outlined at (bounds.one (bounds.sets l u)) = give_outlined refl
limited_outlined at (bounds.many ix bs) = give_outlined refl

-- the cell of a row with a var argument, in these bounds
abbrev var_cell : Mode → Names → Row → PlainType → List Cell → Bounds → Cell
var_cell mode names r t cs b = op.with_shape r cs (Var b (held mode (option_map (recast t.base) (exact_value names r (map value_of cs)))))

-- a row's faults for what is known of its arguments, and then its cell in these bounds
abbrev row_over : List (Option Content) → Row → Span → Bounds → (Bounds → Cell) → Run Cell
row_over vs r at e cell = λ s. then_do (op.tested r at vs s) (λ u. λ q. then_do (op.limited at e q) (λ b. give (cell b)))

abbrev bounds_of_row : Row → PlainType → List Bounds → Bounds
bounds_of_row r t bs = unwrap_or (row_bounds r bs) (no_bounds t)

var_row_outlined : {t : Tie} {n : Bool} (m : Mode) (names : Names) (r : Row) (ty : PlainType) (at : Span) (cs : List Cell) → HasOutline t n outline (op.var_row m names r ty at cs) (op.var_row (Blank n) names r ty at (outlines cs))
var_row_outlined {n = n} m names r ty at cs =
    at_same (λ vs. row_over vs r at (bounds_of_row r ty (op.argument_bounds r (outlines cs))) (var_cell (Blank n) names r ty (outlines cs))) (map_outline op.known known_outline cs)
    (at_same (λ bs. row_over (map op.known cs) r at (bounds_of_row r ty bs) (var_cell (Blank n) names r ty (outlines cs))) (argument_outline r cs)
    (then_outlined (λ u. λ q. then_do (op.limited at (bounds_of_row r ty (op.argument_bounds r cs)) q) (λ b. give (var_cell (Blank n) names r ty (outlines cs) b))) (tested_outlined r at (map op.known cs))
    (λ u. then_outlined (λ b. give (var_cell (Blank n) names r ty (outlines cs) b)) (limited_outlined at (bounds_of_row r ty (op.argument_bounds r cs)))
    (λ b. give_outlined (with_shape_outline r cs b _)))))

-- ---- any row

abbrev by_bounds : Row → PlainType → List Bounds → Cell
by_bounds r t bs = Par (option_map (recast t.base) (value_by_bounds r bs))

par_or_var_outlined : {t : Tie} {n : Bool} (m : Mode) (names : Names) (r : Row) (ty : PlainType) (at : Span) (cs : List Cell) (p : Bool) → all_par cs ≡ p → HasOutline t n outline (if p then op.par_row names r ty.base at (map value_of cs) else (if op.reads_bounds r then give (by_bounds r ty (map bounds_in cs)) else op.var_row m names r ty at cs)) (if p then op.par_row names r ty.base at (map value_of (outlines cs)) else (if op.reads_bounds r then give (by_bounds r ty (map bounds_in (outlines cs))) else op.var_row (Blank n) names r ty at (outlines cs)))
par_or_var_outlined m names r ty at cs true h = at_same (λ k. op.par_row names r ty.base at (map value_of k)) (all_par_same cs h) (par_row_outlined names r ty.base at (map value_of cs))
par_or_var_outlined m names r ty at cs false h = if_outlined (op.reads_bounds r) (give_outlined (ap (by_bounds r ty) (map_outline bounds_in bounds_outline cs))) (var_row_outlined m names r ty at cs)

pub row_cell_outlined : {t : Tie} {n : Bool} (m : Mode) (names : Names) (r : Row) (ty : PlainType) (at : Span) (cs : List Cell) → HasOutline t n outline (op.row_cell m names r ty at cs) (op.row_cell (Blank n) names r ty at (outlines cs))
row_cell_outlined {n = n} m names r ty at cs =
    at_same (λ p. if p then op.par_row names r ty.base at (map value_of (outlines cs)) else (if op.reads_bounds r then give (by_bounds r ty (map bounds_in (outlines cs))) else op.var_row (Blank n) names r ty at (outlines cs))) (all_par_outline cs)
    (par_or_var_outlined m names r ty at cs (all_par cs) refl)

-- ---- nodes

pub done_outlined : {t : Tie} {n : Bool} (w : World) (top : Env) (at : Span) (c : Cell) {d : Cell} → d ≡ outline c → HasOutline t n outline (done w at c) (done (blank_world n w top) at d)
done_outlined w top at c {d = d} h = then_outlined (λ u. give d) (spend_outlined w.budget at 1) (λ u. give_outlined h)

pub operated_by_outlined : {t : Tie} {n : Bool} (w : World) (top : Env) (at : Span) (ty : PlainType) (cs : List Cell) (r : Option Row) → HasOutline t n outline (operated_by w at ty cs r) (operated_by (blank_world n w top) at ty (outlines cs) r)
operated_by_outlined w top at ty cs None = done_outlined w top at undefined refl
operated_by_outlined {n = n} w top at ty cs (Some r) =
    at_same (λ k. λ s. then_do (spend w.budget at (1 + k) s) (λ u. op.row_cell (Blank n) w.cases r ty at (outlines cs))) (cost_outline r cs)
    (then_outlined (λ u. op.row_cell (Blank n) w.cases r ty at (outlines cs)) (spend_outlined w.budget at (1 + op.row_cost r cs)) (λ u. row_cell_outlined w.mode w.cases r ty at cs))

pub operated_outlined : {t : Tie} {n : Bool} (w : World) (top : Env) (at : Span) (ty : PlainType) (k : ℕ) (b : Base) (cs : List Cell) → HasOutline t n outline (operated w at ty k b cs) (operated (blank_world n w top) at ty k b (outlines cs))
operated_outlined {n = n} w top at ty k b cs = then_outlined (λ c. give (typed (Blank n) false ty c)) (operated_by_outlined w top at ty cs (op.row_at k b)) (λ c. give_outlined (typed_outline w.mode n false ty c))
