-- Arrays that are handed on have the values of the rows.
use Rattle.std.proofs.Common.{◌≡◌, ◌∙◌, ℕ, suc, pos, Bool, true, false, List, [], ◌∷◌, map, length, Option, Some, None, refl, sym, ap, subst, if◌then◌else◌}
use Rattle.std.proofs.lemmas.List.{length-map}
use Rattle.std.specs.Prelude.{slice_get}
use Rattle.std.specs.Option.{option_map, option_and_then}
use Rattle.mz_base.specs.declared.fault.Span.{Span}
use Rattle.mz_value.specs.Ranges.{Range}
use Rattle.mz_value.specs.declared.value.Value.{Value}
use Rattle.mz_value.specs.Contents.{Content, content, contents}
use Rattle.mz_value.specs.Contents as values
use Rattle.mz_value.specs.Shown.{Names}
use Rattle.mz_core.specs.declared.types.Base.{Base}
use Rattle.mz_core.specs.declared.types.Base.TheVariants as base
use Rattle.mz_core.specs.Types.{PlainType}
use Rattle.mz_operations.specs.declared.row.MadeRow.TheVariants as made
use Rattle.mz_operations.specs.declared.row.Row.TheVariants.{Made}
use Rattle.mz_operations.specs.Views.{as_items, items_in}
use Rattle.mz_operations.specs.Arguments.{at, items_at}
use Rattle.mz_operations.specs.Answers.{is_mismatched, negative, is_failed}
use Rattle.mz_operations.specs.Bounds.{Bound}
use Rattle.mz_operations.specs.Bounds as bounds
use Rattle.mz_operations.specs.RowBounds.{bounds_at, elements_at, line_of, made_bounds}
use Rattle.mz_operations.specs.Values.{made_value}
use Rattle.mz_builtin_arguments.proofs.Views.{items_in_contents}
use Rattle.mz_arena.specs.Values.{is_true}
use Rattle.mz_meaning.specs.Runs.{State, Out}
use Rattle.mz_meaning.specs.Cells.{Mode, Blank, Given, Var, held}
use Rattle.mz_meaning.specs.Coerced.{recast}
use Rattle.mz_meaning.specs.Operations.{row_cell}
use Rattle.mz_symbol.specs.declared.types.Line.{Line}
use Rattle.mz_symbol.specs.Symbols.{all_there, symbol_value}
use Rattle.mz_symbol.specs.Runs as symbol_runs
use Rattle.mz_symbol.specs.Readings.{Reading, Reads}
use Rattle.mz_eval_cells.specs.Views.{array_of, cast_by}
use Rattle.mz_eval_rows.specs.StepsCells.{HasCount}

-- ---- how many elements there are

more_count : (x : Content) (o : Option (List Content)) (n : ℕ) → HasCount o n → HasCount (option_map (λ ys. x ∷ ys) o) (suc n)
more_count x None n h = tt
more_count x (Some ys) n h = ap suc h

all_count : (xs : List (Option Content)) → HasCount (all_there xs) (length xs)
all_count [] = refl
all_count (None ∷ xs) = tt
all_count (Some x ∷ xs) = more_count x (all_there xs) (length xs) (all_count xs)

kept_count : (b : Bool) (o : Option (List Content)) (n : ℕ) → HasCount o n → HasCount (option_and_then (λ xs. if b then Some xs else None) o) n
kept_count b None n h = tt
kept_count true (Some ys) n h = h
kept_count false (Some ys) n h = tt

pub line_count : (r : Reading) (s : symbol_runs.Run) (k n : ℕ) (l : Line) → Reads r s → slice_get s.lines k ≡ Some l → length l.items.items ≡ n → HasCount (r.line k) n
line_count r s k n l reads e h =
    let all : HasCount (all_there (map (symbol_value r.term) l.items.items)) n = subst (HasCount (all_there (map (symbol_value r.term) l.items.items))) (length-map l.items.items (symbol_value r.term) ∙ h) (all_count (map (symbol_value r.term) l.items.items)) in
    subst (λ o. HasCount o n) (sym (reads.lines k l e)) (kept_count (is_true (r.term l.defined)) (all_there (map (symbol_value r.term) l.items.items)) n all)

pub values_count : (xs : List Value) (n : ℕ) → length xs ≡ n → HasCount (Some (map content xs)) n
values_count xs n h = length-map xs content ∙ h

-- ---- `array1d` of an array alone

pub recast_array : (b : Base) (ix : List Range) (xs : values.Contents) → recast b (values.array ix xs) ≡ values.array ix xs
recast_array base.Bool ix xs = refl
recast_array base.Int ix xs = refl
recast_array (base.Enum e) ix xs = refl
recast_array base.SetInt ix xs = refl
recast_array (base.SetEnum e) ix xs = refl
recast_array b ix xs = refl

-- the values of an array under other index ranges
abbrev lined_value : Base → List Content → Option Content
lined_value b ys = Some (recast b (values.array ((pos 1, pos (length (items_in (contents ys)))) ∷ []) (contents (items_in (contents ys)))))

lined_as : (b : Base) (ys : List Content) (n : ℕ) → length ys ≡ n → lined_value b ys ≡ Some (values.array ((pos 1, pos n) ∷ []) (contents ys))
lined_as b ys n h =
    ap (λ zs. Some (recast b (values.array ((pos 1, pos (length zs)) ∷ []) (contents zs)))) (items_in_contents ys)
    ∙ ap (λ k. Some (recast b (values.array ((pos 1, pos k) ∷ []) (contents ys)))) h
    ∙ ap Some (recast_array b ((pos 1, pos n) ∷ []) (contents ys))

lined_by : (b : Base) (ix : List Range) (c : Option Base) (o : Option (List Content)) (n : ℕ) → HasCount o n → option_map (recast b) (made_value made.Line (cast_by c (array_of ix o) ∷ [])) ≡ cast_by c (array_of ((pos 1, pos n) ∷ []) o)
unfolding made_value items_at at as_items
lined_by b ix None None n h = refl
lined_by b ix (Some d) None n h = refl
lined_by b ix None (Some ys) n h = lined_as b ys n h
lined_by b ix (Some d) (Some ys) n h =
    lined_as b (map (recast d) (items_in (contents ys))) n (length-map (items_in (contents ys)) (recast d) ∙ ap length (items_in_contents ys) ∙ h)

lined_held : (m : Mode) (b : Base) (ix : List Range) (c : Option Base) (o : Option (List Content)) (n : ℕ) → HasCount o n → held m (option_map (recast b) (made_value made.Line (held m (cast_by c (array_of ix o)) ∷ []))) ≡ held m (cast_by c (array_of ((pos 1, pos n) ∷ []) o))
lined_held (Blank k) b ix c o n h = refl
lined_held (Given f) b ix c o n h = lined_by b ix c o n h

pub line_row : (m : Mode) (names : Names) (t : PlainType) (place : Span) (ix : List Range) (bs : List Bound) (c : Option Base) (o : Option (List Content)) (s : State) → HasCount o (length bs)
    → row_cell m names (Made made.Line) t place (Var (bounds.many ix bs) (held m (cast_by c (array_of ix o))) ∷ []) s ≡ Out (Var (line_of bs) (held m (cast_by c (array_of ((pos 1, pos (length bs)) ∷ []) o)))) s
unfolding is_mismatched negative is_failed made_bounds elements_at bounds_at
line_row m names t place ix bs c o s h = ap (λ v. Out (Var (line_of bs) v) s) (lined_held m t.base ix c o (length bs) h)
