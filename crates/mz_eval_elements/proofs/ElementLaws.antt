-- Elements of arrays under a reading.
use Rattle.std.proofs.Common.{◌≡◌, ◌∙◌, ℕ, ◌+◌, ◌*◌, Bool, true, false, ◌&&◌, List, length, map, Option, Some, None, refl, sym, ap, subst}
use Rattle.std.specs.List.{list_all}
use Rattle.std.specs.Option.{option_and_then}
use Rattle.mz_value.specs.Contents.{Content}
use Rattle.mz_core.specs.declared.types.Base.{Base}
use Rattle.mz_core.specs.Types.{PlainType}
use Rattle.mz_core.specs.Order.{no_dims}
use Rattle.mz_operations.specs.Bounds as bounds
use Rattle.mz_meaning.specs.Arrays.{access_cell, accessed, all_indices, element_at, indices_in}
use Rattle.mz_meaning.specs.Cells.{Var, all_par, is_par, typed, value_of}
use Rattle.mz_symbol.specs.declared.types.Symbol.{Symbol}
use Rattle.mz_symbol.specs.Runs.{Run}
use Rattle.mz_symbol.specs.Readings.{Reading}
use Rattle.mz_symbol.specs.Makes.{GoesOnBy}
use Rattle.mz_symbol_rows.proofs.GoingOn.{goes_both}
use Rattle.mz_symbol_access.specs.AccessValues.{access_charge}
use Rattle.mz_eval_cells.specs.declared.types.Known.{Known}
use Rattle.mz_eval_cells.specs.Views.{all_seen, cell_of, cells_of, seen}
use Rattle.mz_eval_access.specs.Places.{reached_bound}
use Rattle.mz_eval_elements.specs.ElementCells.{element_value}
use Rattle.mz_eval_arrays.specs.Told.{is_told}
use Rattle.mz_eval_elements.proofs.AccessLaws.{accessed_by, both_seen, bound_same, typed_counted}
use Rattle.mz_eval_arrays.proofs.Missing.{all_untold, untold}
use Rattle.mz_eval_elements.specs.StepsElements.{counted_seen}
use Rattle.mz_eval_elements.proofs.CellLaws.{shape_seen}

-- ---- what nothing tells

no_indices : (v : Option Content) (vs : List (Option Content)) → indices_in vs ≡ None → accessed v vs ≡ None
no_indices None vs e = refl
no_indices (Some x) vs e = ap (option_and_then (element_at x)) e

untold_by : (r : Reading) (a : Known) (at : List Known) (p q : Bool) → is_told a ≡ p → list_all is_told at ≡ q → (p && q) ≡ false → accessed (value_of (seen r a)) (map value_of (all_seen r at)) ≡ None
untold_by r a at false q e f h = ap (λ v. accessed v (map value_of (all_seen r at))) (untold r a e)
untold_by r a at true false e f h = no_indices (value_of (seen r a)) (map value_of (all_seen r at)) (ap (option_and_then all_indices) (all_untold r at f))
untold_by r a at true true e f h = absurd (cc)

pub untold_element : (r : Reading) (a : Known) (at : List Known) → (is_told a && list_all is_told at) ≡ false → accessed (value_of (seen r a)) (map value_of (all_seen r at)) ≡ None
untold_element r a at h = untold_by r a at (is_told a) (list_all is_told at) refl refl h

-- ---- the cell at its node

pub open_typed : (r : Reading) (t : PlainType) (a : Known) (at : List Known) (b : bounds.Bound) (c : Base) (o : Bool) (x : Known) → (is_par (cell_of a) && all_par (cells_of at)) ≡ false → no_dims t.dims ≡ true → b ≡ reached_bound t (cell_of a) (cells_of at) → c ≡ t.base → o ≡ t.opt → element_value r c o a at ≡ counted_seen c o r x → cell_of x ≡ Var (bounds.one b) None
    → typed r.mode false t (access_cell r.mode t (seen r a) (all_seen r at)) ≡ typed r.mode false t (seen r x)
open_typed r t a at b c o x p d bound f g h s =
    let by_base : element_value r t.base o a at ≡ counted_seen t.base o r x = subst (λ y. element_value r y o a at ≡ counted_seen y o r x) f h in
    let by_type : element_value r t.base t.opt a at ≡ counted_seen t.base t.opt r x = subst (λ y. element_value r t.base y a at ≡ counted_seen t.base y r x) g by_base in
    ap (λ q. typed r.mode false t (accessed_by r.mode t (seen r a) (all_seen r at) q)) (both_seen r a at ∙ p)
    ∙ typed_counted r.mode t (bounds.one (reached_bound t (seen r a) (all_seen r at))) (accessed (value_of (seen r a)) (map value_of (all_seen r at))) d
    ∙ ap (λ y. typed r.mode false t (Var (bounds.one y) (element_value r t.base t.opt a at))) (bound_same r t a at ∙ sym bound)
    ∙ ap (λ v. typed r.mode false t (Var (bounds.one b) v)) by_type
    ∙ sym (typed_counted r.mode t (bounds.one b) (value_of (seen r x)) d)
    ∙ ap (typed r.mode false t) (sym (shape_seen r x b s))

-- ---- what it costs

pub goes_found : (n : ℕ) (opt : Bool) (ss : List Symbol) (old mid new : Run) → length ss ≡ n → GoesOnBy (8 * n) old mid → GoesOnBy (access_charge (length ss) opt) mid new → GoesOnBy (8 * n + access_charge n opt) old new
goes_found n opt ss old mid new l g h = goes_both (8 * n) (access_charge n opt) old mid new g (subst (λ k. GoesOnBy (access_charge k opt) mid new) l h)
