-- What rows tell of cells, under each reading, and what a node's type leaves of them.
use Rattle.std.proofs.Common.{◌≡◌, ◌∙◌, ◌≤◌, ◌*◌, ◌+◌, ℕ, Bool, true, false, List, [], ◌∷◌, map, Option, Some, None, Result, Ok, Err, refl, sym, ap, subst, arith}
use Rattle.mz_base.specs.declared.fault.Span.{Span}
use Rattle.mz_base.specs.declared.stop.Stop.{Stop}
use Rattle.mz_base.specs.declared.stop.Stop.TheVariants.{Refused, Memory}
use Rattle.mz_value.specs.Contents.{Content}
use Rattle.mz_value.specs.Contents as values
use Rattle.mz_value.specs.Shown.{Names}
use Rattle.mz_core.specs.Types.{PlainType}
use Rattle.mz_operations.specs.declared.row.Row.{Row}
use Rattle.mz_operations.specs.Bounds.{Bounds}
use Rattle.mz_operations.specs.Bounds as bounds
use Rattle.mz_meaning.specs.Runs.{State, Answer, Out, then_do}
use Rattle.mz_meaning.specs.Cells as cells
use Rattle.mz_meaning.specs.Cells.{Cell, Var, Unshaped, Mode, Blank, Given, Bare, held, is_true, is_truth, typed}
use Rattle.mz_operations.specs.Costs.{cost}
use Rattle.mz_meaning.specs.Operations.{row_cell, row_cost}
use Rattle.mz_symbol.specs.Readings.{Reading}
use Rattle.mz_symbol.specs.declared.types.Symbol.{Symbol}
use Rattle.mz_symbol.specs.Arguments.{truth_of}
use Rattle.mz_symbol_rows.specs.RowValues.{argument}
use Rattle.mz_eval_cells.specs.declared.types.Known.{Known}
use Rattle.mz_eval_cells.specs.declared.types.Known.TheVariants as known
use Rattle.mz_eval_cells.specs.Views.{cell_of, cells_of, seen, all_seen}
use Rattle.mz_eval_cells.specs.Meets.{MeetsAt, Tells}
use Rattle.mz_symbol.specs.Runs as symbol_runs
use Rattle.mz_symbol.specs.Makes.{GoesOnBy}
use Rattle.mz_symbol_rows.proofs.GoingOn.{goes_most}
use Rattle.mz_eval_symbols.specs.Steps.{argued}
use Rattle.mz_eval_row_symbols.specs.NodeRows.{with_value, is_open, told, told_by, exact_row, row_told, var_value}
use Rattle.mz_eval_row_symbols.proofs.RowLaws.{bare, row_is}

-- without values a cell is what it is under a reading, without its var value
bare_seen : (r : Reading) (k : Known) → bare (seen r k) ≡ cell_of k
bare_seen r known.Undefined = refl
bare_seen r (known.One i) = refl
bare_seen r (known.Array ix xs) = refl
bare_seen r (known.Var x) = refl
bare_seen r (known.Row ix xs) = refl
bare_seen r (known.Unshaped d) = refl

all_bare : (r : Reading) (ks : List Known) → map bare (all_seen r ks) ≡ cells_of ks
all_bare r [] = refl
all_bare r (k ∷ ks) = ap (λ c. c ∷ map bare (all_seen r ks)) (bare_seen r k) ∙ ap (λ cs. cell_of k ∷ cs) (all_bare r ks)

meets_seen : (f : Cell → Cell) (x : Result Known Stop) (s : State) (a : Answer Cell) → MeetsAt cell_of x s a → MeetsAt (λ k. f (cell_of k)) x s (then_do a (λ c u. Out (f c) u))
meets_seen f (Ok k) s a h = ap (λ b. then_do b (λ c u. Out (f c) u)) h
meets_seen f (Err (Refused e)) s a h = ap (λ b. then_do b (λ c u. Out (f c) u)) h
meets_seen f (Err Memory) s a h = tt

-- WHAT A ROW TELLS WITHOUT VALUES, it tells under a reading, with the value put in
pub tells_seen : (r : Reading) (names : Names) (row : Row) (t : PlainType) (at : Span) (ks : List Known) (x : Result Known Stop) → Tells cell_of x (row_cell Bare names row t at (cells_of ks)) → Tells (λ k. with_value (var_value r.mode names row t (all_seen r ks)) (cell_of k)) x (row_cell r.mode names row t at (all_seen r ks))
tells_seen r names row t at ks x h = record {
  by = λ s.
      let v : Option Content = var_value r.mode names row t (all_seen r ks) in
      let e : row_cell r.mode names row t at (all_seen r ks) s ≡ then_do (row_cell Bare names row t at (cells_of ks) s) (λ c u. Out (with_value v c) u) =
      row_is r.mode names row t at (all_seen r ks) s ∙ ap (λ cs. then_do (row_cell Bare names row t at cs s) (λ c u. Out (with_value v c) u)) (all_bare r ks) in
      subst (λ a. MeetsAt (λ k. with_value v (cell_of k)) x s a) (sym e) (meets_seen (with_value v) x s (row_cell Bare names row t at (cells_of ks) s) (h.by s));
}

-- ---- a node's type

truth_twice : (m : Mode) (v : Option Content) → held m (Some (values.bool (is_true (held m v)))) ≡ held m (Some (values.bool (is_true (held m (truth_of v)))))
truth_twice (Blank n) v = refl
truth_twice (Given f) v = refl

-- of a truth value the type leaves whether it is true
pub typed_told : (m : Mode) (t : PlainType) (b : Bounds) (v : Option Content) → typed m false t (Var b (held m (told t v))) ≡ typed m false t (Var b (held m v))
typed_told m t b v = by t.var (is_truth t)
  where
    by : (var truth : Bool) → cells.risen m truth (cells.widened truth (cells.sealed m var t (Var b (held m (told_by truth v))))) ≡ cells.risen m truth (cells.widened truth (cells.sealed m var t (Var b (held m v))))
    by true true = ap (λ x. Var (bounds.one (bounds.number bounds.truth)) x) (sym (truth_twice m v))
    by true false = refl
    by false true = refl
    by false false = refl

-- ---- values under a mode

pub one_value : (m : Mode) (f : List (Option Content) → Option Content) (p : Option Content) → held m (f (held m p ∷ [])) ≡ held m (f (p ∷ []))
one_value (Blank n) f p = refl
one_value (Given c) f p = refl

pub two_values : (m : Mode) (f : List (Option Content) → Option Content) (p q : Option Content) → held m (f (held m p ∷ held m q ∷ [])) ≡ held m (f (p ∷ q ∷ []))
two_values (Blank n) f p q = refl
two_values (Given c) f p q = refl

pub second_value : (m : Mode) (f : List (Option Content) → Option Content) (p q : Option Content) → held m (f (p ∷ held m q ∷ [])) ≡ held m (f (p ∷ q ∷ []))
second_value (Blank n) f p q = refl
second_value (Given c) f p q = refl

-- ---- cells of rows

-- a par cell, and one without a shape, have no var value
pub known_whole : (r : Reading) (v : Option Content) (k : Known) → is_open k ≡ false → with_value v (cell_of k) ≡ seen r k
known_whole r v known.Undefined h = refl
known_whole r v (known.One i) h = refl
known_whole r v (known.Array ix xs) h = refl
known_whole r v (known.Var x) h = absurd (cc)
known_whole r v (known.Row ix xs) h = absurd (cc)
known_whole r v (known.Unshaped d) h = refl

-- A SYMBOL'S CELL at a node of this type
pub symbol_cell : (r : Reading) (names : Names) (row : Row) (t : PlainType) (b : Bounds) (vs : List (Option Content)) (x : Option Content) (c : Cell) → c ≡ Var b x → row_told r names row t vs ≡ x → typed r.mode false t (Var b (held r.mode (exact_row names row t vs))) ≡ typed r.mode false t c
symbol_cell r names row t b vs x c e h =
    sym (typed_told r.mode t b (exact_row names row t vs))
    ∙ ap (λ y. typed r.mode false t (Var b y)) h
    ∙ ap (typed r.mode false t) (sym e)

-- ---- charges

-- what a row's node spends is more than two units of work
pub row_pays : (row : Row) (cs : List Cell) → 128 ≤ 64 * (1 + row_cost row cs)
unfolding cost
row_pays row cs = omega arith

pub goes_paid : (n : ℕ) (row : Row) (cs : List Cell) (old new : symbol_runs.Run) → n ≤ 128 → GoesOnBy n old new → GoesOnBy (64 * (1 + row_cost row cs)) old new
goes_paid n row cs old new h f = goes_most n (64 * (1 + row_cost row cs)) old new (omega (arith, h, row_pays row cs)) f

-- ---- a symbol that is undefined, as a cell without a value

none_held : (m : Mode) → None ≡ held m None
none_held (Blank n) = refl
none_held (Given f) = refl

pub gone_cell : (r : Reading) (b : Bounds) (s : Symbol) (k : Known) → seen r k ≡ Var b None → argued r.term s ≡ None → seen r k ≡ Var b (argument r s)
gone_cell r b s k e g = e ∙ ap (Var b) (none_held r.mode ∙ ap (held r.mode) (sym g))
