-- A row over cells is the same under each mode, but for the value of its cell.
use Rattle.std.proofs.Common.{◌≡◌, ◌∙◌, ℕ, Bool, true, false, ◌||◌, List, [], ◌∷◌, ◌++◌, map, take, drop, Option, Some, None, refl, sym, ap, if◌then◌else◌}
use Rattle.std.specs.List.{take-map, drop-map}
use Rattle.std.proofs.lemmas.Option.{slice_get-map}
use Rattle.std.specs.Prelude.{slice_get, unwrap_or}
use Rattle.std.specs.List.{list_any}
use Rattle.std.specs.Option.{option_map}
use Rattle.mz_base.specs.declared.fault.Span.{Span}
use Rattle.mz_value.specs.Contents.{Content}
use Rattle.mz_value.specs.Shown.{Names}
use Rattle.mz_core.specs.declared.types.Base.{Base}
use Rattle.mz_core.specs.Types.{PlainType}
use Rattle.mz_operations.specs.declared.row.MadeRow.TheVariants as made
use Rattle.mz_operations.specs.declared.row.Row.{Row}
use Rattle.mz_operations.specs.declared.row.Row.TheVariants.{Scalar, Made, Bounding, Show, ShowArray}
use Rattle.mz_operations.specs.Answers.{Gives, Stops, answer}
use Rattle.mz_operations.specs.Answers.{Answer as Values}
use Rattle.mz_operations.specs.Bounds.{Bounds}
use Rattle.mz_operations.specs.RowBounds.{row_bounds, value_by_bounds}
use Rattle.mz_meaning.specs.Runs.{Run, State, Answer, Out, Stopped, then_do, give}
use Rattle.mz_meaning.specs.Cells.{Cell, Par, Var, Unshaped, Mode, Bare, held, all_par, value_of, bounds_in, no_bounds}
use Rattle.mz_meaning.specs.Coerced.{recast}
use Rattle.mz_meaning.specs.Operations.{known, tested, limited, index_set_bounds, argument_bounds, at_place, or_unshaped, or_reshaped, is_no_set, shaped_by, with_shape, reads_bounds, var_row, known_names, par_answer, par_row, row_cell}
use Rattle.mz_eval_row_symbols.specs.NodeRows.{with_value, var_value}

-- a cell without its var value
abbrev pub bare : Cell → Cell
bare (Par v) = Par v
bare (Var b v) = Var b None
bare (Unshaped d) = Unshaped d

abbrev pub all_bare : List Cell → List Cell
all_bare cs = map bare cs

same_all : {A : Type 0} (f : Cell → A) → ((c : Cell) → f (bare c) ≡ f c) → (cs : List Cell) → map f (map bare cs) ≡ map f cs
same_all f e [] = refl
same_all f e (c ∷ cs) = ap (λ y. y ∷ map f (map bare cs)) (e c) ∙ ap (λ ys. f c ∷ ys) (same_all f e cs)

same_known : (c : Cell) → known (bare c) ≡ known c
same_known (Par v) = refl
same_known (Var b v) = refl
same_known (Unshaped d) = refl

same_bounds : (c : Cell) → bounds_in (bare c) ≡ bounds_in c
same_bounds (Par None) = refl
same_bounds (Par (Some x)) = refl
same_bounds (Var b v) = refl
same_bounds (Unshaped d) = refl

same_index_set : (c : Cell) → index_set_bounds (bare c) ≡ index_set_bounds c
same_index_set (Par None) = refl
same_index_set (Par (Some x)) = refl
same_index_set (Var b v) = refl
same_index_set (Unshaped d) = refl

same_no_set : (c : Cell) → is_no_set (bare c) ≡ is_no_set c
same_no_set (Par None) = refl
same_no_set (Par (Some x)) = refl
same_no_set (Var b v) = refl
same_no_set (Unshaped d) = refl

pub same_all_par : (cs : List Cell) → all_par (map bare cs) ≡ all_par cs
same_all_par [] = refl
same_all_par (Par v ∷ cs) = same_all_par cs
same_all_par (Var b v ∷ cs) = refl
same_all_par (Unshaped d ∷ cs) = refl

-- par cells have no var value
pub bare_par : (cs : List Cell) → all_par cs ≡ true → map bare cs ≡ cs
bare_par [] h = refl
bare_par (Par v ∷ cs) h = ap (λ ys. Par v ∷ ys) (bare_par cs h)
bare_par (Var b v ∷ cs) h = absurd (cc)
bare_par (Unshaped d ∷ cs) h = absurd (cc)

same_any_no_set : (cs : List Cell) → list_any is_no_set (map bare cs) ≡ list_any is_no_set cs
same_any_no_set [] = refl
same_any_no_set (c ∷ cs) = ap (λ b. b || list_any is_no_set (map bare cs)) (same_no_set c) ∙ ap (λ b. is_no_set c || b) (same_any_no_set cs)

-- ---- bounds

shaped_bounds : (d : ℕ) (cs : List Cell) → argument_bounds (Made (made.Shaped d)) (map bare cs) ≡ argument_bounds (Made (made.Shaped d)) cs
shaped_bounds d cs =
    ap (λ ys. map index_set_bounds ys ++ map bounds_in (drop d (map bare cs))) (take-map bare d cs)
    ∙ ap (λ ys. map index_set_bounds (map bare (take d cs)) ++ map bounds_in ys) (drop-map bare d cs)
    ∙ ap (λ ys. ys ++ map bounds_in (map bare (drop d cs))) (same_all index_set_bounds same_index_set (take d cs))
    ∙ ap (λ ys. map index_set_bounds (take d cs) ++ ys) (same_all bounds_in same_bounds (drop d cs))

same_arguments : (row : Row) (cs : List Cell) → argument_bounds row (map bare cs) ≡ argument_bounds row cs
same_arguments (Made (made.Shaped d)) cs = shaped_bounds d cs
same_arguments (Scalar r) cs = same_all bounds_in same_bounds cs
same_arguments (Made r) cs = same_all bounds_in same_bounds cs
same_arguments (Bounding r) cs = same_all bounds_in same_bounds cs
same_arguments Show cs = same_all bounds_in same_bounds cs
same_arguments ShowArray cs = same_all bounds_in same_bounds cs

-- ---- shapes

place_bare : (k : ℕ) (cs : List Cell) → at_place k (map bare cs) ≡ bare (at_place k cs)
place_bare k cs = ap (λ o. unwrap_or o (Par None)) (slice_get-map bare cs k) ∙ by (slice_get cs k)
  where
    by : (o : Option Cell) → unwrap_or (option_map bare o) (Par None) ≡ bare (unwrap_or o (Par None))
    by None = refl
    by (Some c) = refl

valued_reshaped : (n : ℕ) (a : Cell) (b : Bounds) (v : Option Content) → with_value v (or_reshaped n (bare a) (Var b None)) ≡ or_reshaped n a (Var b v)
valued_reshaped n (Par w) b v = refl
valued_reshaped n (Var c w) b v = refl
valued_reshaped n (Unshaped d) b v = refl

valued_unshaped : (a : Cell) (b : Bounds) (v : Option Content) → with_value v (or_unshaped (bare a) (Var b None)) ≡ or_unshaped a (Var b v)
valued_unshaped (Par w) b v = refl
valued_unshaped (Var c w) b v = refl
valued_unshaped (Unshaped d) b v = refl

valued_shaped : (n : ℕ) (ixs : List Cell) (a : Cell) (b : Bounds) (v : Option Content) → with_value v (shaped_by n (map bare ixs) (bare a) (Var b None)) ≡ shaped_by n ixs a (Var b v)
valued_shaped n ixs a b v =
    ap (λ x. with_value v (if x then Unshaped n else or_reshaped n (bare a) (Var b None))) (same_any_no_set ixs) ∙ by (list_any is_no_set ixs)
  where
    by : (x : Bool) → with_value v (if x then Unshaped n else or_reshaped n (bare a) (Var b None)) ≡ (if x then Unshaped n else or_reshaped n a (Var b v))
    by true = refl
    by false = valued_reshaped n a b v

valued_shape : (row : Row) (cs : List Cell) (b : Bounds) (v : Option Content) → with_value v (with_shape row (map bare cs) (Var b None)) ≡ with_shape row cs (Var b v)
valued_shape (Made (made.Shaped d)) cs b v =
    ap (λ ys. with_value v (shaped_by d ys (at_place d (map bare cs)) (Var b None))) (take-map bare d cs)
    ∙ ap (λ a. with_value v (shaped_by d (map bare (take d cs)) a (Var b None))) (place_bare d cs)
    ∙ valued_shaped d (take d cs) (at_place d cs) b v
valued_shape (Made made.Line) cs b v = ap (λ a. with_value v (or_reshaped 1 a (Var b None))) (place_bare 0 cs) ∙ valued_reshaped 1 (at_place 0 cs) b v
valued_shape (Made made.AssertArray) cs b v = ap (λ a. with_value v (or_unshaped a (Var b None))) (place_bare 2 cs) ∙ valued_unshaped (at_place 2 cs) b v
valued_shape (Scalar r) cs b v = refl
valued_shape (Made r) cs b v = refl
valued_shape (Bounding r) cs b v = refl
valued_shape Show cs b v = refl
valued_shape ShowArray cs b v = refl

-- ---- a row with a var argument

-- the bounds of a row over cells
abbrev bounds_over : Row → PlainType → List Cell → Bounds
bounds_over row t cs = unwrap_or (row_bounds row (argument_bounds row cs)) (no_bounds t)

held_bare : (v : Option Content) → held Bare v ≡ None
held_bare v = refl

after_bounds : (row : Row) (cs : List Cell) (v : Option Content) (a : Answer Bounds) → then_do a (λ b u. Out (with_shape row cs (Var b v)) u) ≡ then_do (then_do a (λ b u. Out (with_shape row (map bare cs) (Var b None)) u)) (λ c u. Out (with_value v c) u)
after_bounds row cs v (Out b u) = ap (λ c. Out c u) (sym (valued_shape row cs b v))
after_bounds row cs v (Stopped f) = refl

after_test : (row : Row) (cs : List Cell) (at : Span) (b : Bounds) (v : Option Content) (a : Answer (Unit {0})) → then_do a (λ _ s. then_do (limited at b s) (λ c u. Out (with_shape row cs (Var c v)) u)) ≡ then_do (then_do a (λ _ s. then_do (limited at b s) (λ c u. Out (with_shape row (map bare cs) (Var c None)) u))) (λ c u. Out (with_value v c) u)
after_test row cs at b v (Out x s) = after_bounds row cs v (limited at b s)
after_test row cs at b v (Stopped f) = refl

var_row_is : (m : Mode) (names : Names) (row : Row) (t : PlainType) (at : Span) (cs : List Cell) (s : State) → var_row m names row t at cs s ≡ then_do (var_row Bare names row t at (map bare cs) s) (λ c u. Out (with_value (var_value m names row t cs) c) u)
var_row_is m names row t at cs s =
    let v : Option Content = var_value m names row t cs in
    let go : Bounds → State → Answer Cell = λ b u. Out (with_shape row (map bare cs) (Var b None)) u in
    after_test row cs at (bounds_over row t cs) v (tested row at (map known cs) s)
    ∙ ap (λ ks. then_do (then_do (tested row at ks s) (λ _ u. then_do (limited at (bounds_over row t cs) u) go)) (λ c u. Out (with_value v c) u)) (sym (same_all known same_known cs))
    ∙ ap (λ bs. then_do (then_do (tested row at (map known (map bare cs)) s) (λ _ u. then_do (limited at (unwrap_or (row_bounds row bs) (no_bounds t)) u) go)) (λ c u. Out (with_value v c) u)) (sym (same_arguments row cs))

-- of par values a cell is par
par_is : (b : Base) (at : Span) (a : Values) (v : Option Content) (s : State) → par_answer b at a s ≡ then_do (par_answer b at a s) (λ c u. Out (with_value v c) u)
par_is b at (Gives x) v s = refl
par_is b at (Stops k n) v s = refl

-- A ROW IS WHAT IT IS WITHOUT VALUES, with the value of its var cell put in
pub row_is : (m : Mode) (names : Names) (row : Row) (t : PlainType) (at : Span) (cs : List Cell) (s : State) → row_cell m names row t at cs s ≡ then_do (row_cell Bare names row t at (map bare cs) s) (λ c u. Out (with_value (var_value m names row t cs) c) u)
row_is m names row t at cs s = by (all_par cs) (reads_bounds row) refl refl
  where
    by : (p q : Bool) → all_par cs ≡ p → reads_bounds row ≡ q → row_cell m names row t at cs s ≡ then_do (row_cell Bare names row t at (map bare cs) s) (λ c u. Out (with_value (var_value m names row t cs) c) u)
    by true q e f =
        let v : Option Content = var_value m names row t cs in
        let other : Mode → List Cell → Run Cell = λ k ys. if reads_bounds row then give (Par (option_map (recast t.base) (value_by_bounds row (map bounds_in ys)))) else var_row k names row t at ys in
        ap (λ p. (if p then par_row names row t.base at (map value_of cs) else other m cs) s) e
        ∙ par_is t.base at (if known_names names row (map value_of cs) then answer names row (map value_of cs) else Gives None) v s
        ∙ ap (λ p. then_do ((if p then par_row names row t.base at (map value_of cs) else other Bare cs) s) (λ c u. Out (with_value v c) u)) (sym e)
        ∙ ap (λ ys. then_do (row_cell Bare names row t at ys s) (λ c u. Out (with_value v c) u)) (sym (bare_par cs e))
    by false true e f =
        let g : all_par (map bare cs) ≡ false = same_all_par cs ∙ e in
        rw (e, f, g) (ap (λ bs. Out (Par (option_map (recast t.base) (value_by_bounds row bs))) s) (sym (same_all bounds_in same_bounds cs)))
    by false false e f =
        let g : all_par (map bare cs) ≡ false = same_all_par cs ∙ e in
        rw (e, f, g) (var_row_is m names row t at cs s)
