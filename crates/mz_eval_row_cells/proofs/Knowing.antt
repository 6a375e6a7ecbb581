-- What is known of arguments.
use Rattle.std.proofs.Common.{◌≡◌, ◌<◌, ℕ, zero, suc, Bool, true, List, [], ◌∷◌, map, length, take, refl, sym, ap, ◌∙◌, arith, if◌then◌else◌}
use Rattle.std.proofs.lemmas.List.{length-map, take-map, take_all}
use Rattle.std.proofs.lemmas.Option.{slice_get-map}
use Rattle.std.specs.Prelude.{false, not, Option, Some, None, unwrap_or, slice_get}
use Rattle.std.specs.List.{list_any}
use Rattle.std.specs.Option.{option_map, option_and_then}
use Rattle.mz_value.specs.Contents.{Content, contents, absent}
use Rattle.mz_operations.specs.Views.{as_set, items_in}
use Rattle.mz_operations.specs.Arguments.{Arguments, at, items_at}
use Rattle.mz_operations.specs.Arrays.{IndexShape, shape, is_shape_of}
use Rattle.mz_operations.specs.Answers.{misfit}
use Rattle.mz_operations.specs.Bounds.{Bound, Bounds}
use Rattle.mz_operations.specs.Bounds as bounds
use Rattle.mz_builtin_arguments.proofs.Views.{items_in_contents}
use Rattle.mz_meaning.specs.Cells.{Cell, Par, Var, Unshaped, set_in}
use Rattle.mz_meaning.specs.Operations.{known, known_in, at_place, or_reshaped, is_no_set, shaped_by}
use Rattle.mz_eval_cells.specs.declared.types.Known.{Known}
use Rattle.mz_eval_cells.specs.Views.{cell_of, cells_of}
use Rattle.mz_eval_row_cells.specs.Steps.{all_known}

argument_known : (ks : List Known) (k : ℕ) → at (all_known ks) k ≡ option_and_then (λ c. known (cell_of c)) (slice_get ks k)
unfolding at
argument_known [] k = refl
argument_known (c ∷ ks) zero = refl
argument_known (c ∷ ks) (suc k) = argument_known ks k

pub absent_count : {X : Type 0} (view : X → Bound) (bs : List X) → length (items_in (contents (map (λ _. absent) (map view bs)))) ≡ length bs
absent_count view bs =
    ap length (items_in_contents (map (λ _. absent) (map view bs))) ∙ length-map (map view bs) (λ _. absent) ∙ length-map bs view

no_set : (b : Bounds) → option_and_then as_set (known_in b) ≡ None
unfolding as_set
no_set (bounds.one b) = refl
no_set (bounds.many ix bs) = refl

pub set_known : (c : Cell) → set_in c ≡ option_and_then as_set (known c)
set_known (Par v) = refl
set_known (Var b v) = sym (no_set b)
set_known (Unshaped d) = refl

pub misfit_none : (d : ℕ) (args : Arguments) → None ≡ shape d args → false ≡ unwrap_or (misfit d args) false
misfit_none d args e = rw (sym e) refl

misfit_of : (d : ℕ) (args : Arguments) (w : IndexShape) (o : Option (List Content)) → Some w ≡ shape d args → o ≡ items_at args d → misfit d args ≡ option_map (λ n. not (is_shape_of w n)) (option_map (λ xs. length xs) o)
misfit_of d args w None e i = rw (sym e) (rw (sym i) refl)
misfit_of d args w (Some xs) e i = rw (sym e) (rw (sym i) refl)

pub misfit_some : (d : ℕ) (args : Arguments) (w : IndexShape) (n : Option ℕ) → Some w ≡ shape d args → n ≡ option_map (λ xs. length xs) (items_at args d) → unwrap_or (misfit d args) false ≡ unwrap_or (option_map (λ k. not (is_shape_of w k)) n) false
misfit_some d args w n e c = ap (λ o. unwrap_or o false) (misfit_of d args w (items_at args d) e refl ∙ ap (option_map (λ k. not (is_shape_of w k))) (sym c))

pub known_there : (ks : List Known) (k : ℕ) (c : Known) → slice_get ks k ≡ Some c → at (all_known ks) k ≡ known (cell_of c)
known_there ks k c e = argument_known ks k ∙ ap (option_and_then (λ x. known (cell_of x))) e

pub known_missing : (ks : List Known) (k : ℕ) → slice_get ks k ≡ None → at (all_known ks) k ≡ None
known_missing ks k e = argument_known ks k ∙ ap (option_and_then (λ x. known (cell_of x))) e

pub place_there : (ks : List Known) (k : ℕ) (c : Known) → slice_get ks k ≡ Some c → at_place k (cells_of ks) ≡ cell_of c
place_there ks k c e = ap (λ o. unwrap_or o (Par None)) (slice_get-map cell_of ks k ∙ ap (option_map cell_of) e)

pub place_missing : (ks : List Known) (k : ℕ) → slice_get ks k ≡ None → at_place k (cells_of ks) ≡ Par None
place_missing ks k e = ap (λ o. unwrap_or o (Par None)) (slice_get-map cell_of ks k ∙ ap (option_map cell_of) e)

-- ---- the index sets among the arguments, which are the first ones

pub sets_there : (ks : List Known) (d : ℕ) → list_any is_no_set (map cell_of (take d ks)) ≡ list_any is_no_set (take d (cells_of ks))
sets_there ks d = ap (list_any is_no_set) (sym (take-map cell_of d ks))

pub sets_few : (ks : List Known) (d : ℕ) → length ks < d → list_any is_no_set (map cell_of ks) ≡ list_any is_no_set (take d (cells_of ks))
sets_few ks d few =
    let count : length (cells_of ks) ≡ length ks = length-map ks cell_of in
    ap (list_any is_no_set) (sym (take_all d (cells_of ks) (omega (arith, count))))

pub shaped_without : (d : ℕ) (ks : List Known) (c : Cell) (b : Bool) → b ≡ list_any is_no_set (take d (cells_of ks)) → b ≡ true → Unshaped d ≡ shaped_by d (take d (cells_of ks)) (at_place d (cells_of ks)) c
shaped_without d ks c b h e = ap (λ n. if n then Unshaped d else or_reshaped d (at_place d (cells_of ks)) c) (sym e ∙ h)

pub shaped_with : (d : ℕ) (ks : List Known) (c : Cell) (b : Bool) → b ≡ list_any is_no_set (take d (cells_of ks)) → b ≡ false → or_reshaped d (at_place d (cells_of ks)) c ≡ shaped_by d (take d (cells_of ks)) (at_place d (cells_of ks)) c
shaped_with d ks c b h e = ap (λ n. if n then Unshaped d else or_reshaped d (at_place d (cells_of ks)) c) (sym e ∙ h)
