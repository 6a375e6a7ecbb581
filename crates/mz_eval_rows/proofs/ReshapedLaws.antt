-- Arrays under the index sets among a row's arguments.
use Rattle.std.proofs.Common.{◌≡◌, ◌∙◌, ℕ, zero, suc, ◌+◌, true, List, [], ◌∷◌, map, length, Option, Some, None, refl, sym, ap, slice_get, if◌then◌else◌}
use Rattle.std.proofs.lemmas.List.{length-map}
use Rattle.std.specs.Option.{option_map, option_and_then}
use Rattle.mz_value.specs.Ranges.{Range}
use Rattle.mz_value.specs.Contents.{Content, contents}
use Rattle.mz_value.specs.Contents as values
use Rattle.mz_core.specs.declared.types.Base.{Base}
use Rattle.mz_operations.specs.declared.row.MadeRow.TheVariants as made
use Rattle.mz_operations.specs.Views.{as_items, as_set, items_in}
use Rattle.mz_operations.specs.Arguments.{Arguments, at, items_at, set_at}
use Rattle.mz_operations.specs.Arrays.{IndexShape, is_shape_of, shape, shape_from, with_index}
use Rattle.mz_operations.specs.Values.{made_value}
use Rattle.mz_builtin_arguments.proofs.Views.{items_in_contents}
use Rattle.mz_meaning.specs.Cells.{Mode, Blank, Given, held, value_of}
use Rattle.mz_meaning.specs.Coerced.{recast}
use Rattle.mz_symbol.specs.Readings.{Reading}
use Rattle.mz_eval_cells.specs.declared.types.Known.{Known}
use Rattle.mz_eval_cells.specs.declared.types.Known.TheVariants as known
use Rattle.mz_eval_cells.specs.Views.{all_seen, array_of, cast_by, cell_of, cells_of, seen}
use Rattle.mz_eval_rows.specs.StepsCells.{HasCount, KeepsSets}
use Rattle.mz_eval_rows.proofs.HandedLaws.{recast_array}

-- ---- index sets

kept_from : (n k : ℕ) (vs ws : Arguments) (u w : IndexShape) → KeepsSets vs ws → shape_from n k vs u ≡ Some w → shape_from n k ws u ≡ Some w
unfolding shape_from
kept_from zero k vs ws u w h e = e
kept_from (suc n) k vs ws u w h e = by (set_at vs k) refl e (λ s g. kept_from n (k + 1) vs ws (with_index u s) w h g)
  where
    by : (o : Option (List Range)) → set_at vs k ≡ o → option_and_then (λ s. shape_from n (k + 1) vs (with_index u s)) o ≡ Some w → ((s : List Range) → shape_from n (k + 1) vs (with_index u s) ≡ Some w → shape_from n (k + 1) ws (with_index u s) ≡ Some w) → option_and_then (λ s. shape_from n (k + 1) ws (with_index u s)) (set_at ws k) ≡ Some w
    by None f g next = absurd (cc)
    by (Some s) f g next = ap (option_and_then (λ x. shape_from n (k + 1) ws (with_index u x))) (h k s f) ∙ next s g

shape_kept : (d : ℕ) (vs ws : Arguments) (w : IndexShape) → KeepsSets vs ws → shape d vs ≡ Some w → shape d ws ≡ Some w
shape_kept d vs ws w h e = kept_from d 0 vs ws (record { contiguous = true; ranges = [] }) w h e

-- ---- the elements under other index ranges

shaped_items : (d : ℕ) (ws : Arguments) (w : IndexShape) (b : Base) (ys : List Content) (ix : List Range) → shape d ws ≡ Some w → items_at ws d ≡ Some ys → w.ranges ≡ ix → is_shape_of w (length ys) ≡ true → option_map (recast b) (made_value (made.Shaped d) ws) ≡ Some (values.array ix (contents ys))
unfolding made_value
shaped_items d ws w b ys ix e f g h =
    ap (λ o. option_map (recast b) (option_and_then (λ v. option_and_then (λ xs. if is_shape_of v (length xs) then Some (values.array v.ranges (contents xs)) else None) (items_at ws d)) o)) e
    ∙ ap (λ o. option_map (recast b) (option_and_then (λ xs. if is_shape_of w (length xs) then Some (values.array w.ranges (contents xs)) else None) o)) f
    ∙ ap (λ t. option_map (recast b) (if t then Some (values.array w.ranges (contents ys)) else None)) h
    ∙ ap Some (recast_array b w.ranges (contents ys))
    ∙ ap (λ rs. Some (values.array rs (contents ys))) g

shaped_none : (d : ℕ) (ws : Arguments) (w : IndexShape) (b : Base) → shape d ws ≡ Some w → items_at ws d ≡ None → option_map (recast b) (made_value (made.Shaped d) ws) ≡ None
unfolding made_value
shaped_none d ws w b e f =
    ap (λ o. option_map (recast b) (option_and_then (λ v. option_and_then (λ xs. if is_shape_of v (length xs) then Some (values.array v.ranges (contents xs)) else None) (items_at ws d)) o)) e
    ∙ ap (λ o. option_map (recast b) (option_and_then (λ xs. if is_shape_of w (length xs) then Some (values.array w.ranges (contents xs)) else None) o)) f

items_by : (d : ℕ) (ws : Arguments) (v : Option Content) (o : Option (List Content)) → at ws d ≡ v → option_and_then as_items v ≡ o → items_at ws d ≡ o
unfolding items_at
items_by d ws v o e f = ap (option_and_then as_items) e ∙ f

reshaped_by : (b : Base) (d : ℕ) (ws : Arguments) (w : IndexShape) (ix jx : List Range) (c : Option Base) (o : Option (List Content)) (n : ℕ) → shape d ws ≡ Some w → at ws d ≡ cast_by c (array_of jx o) → w.ranges ≡ ix → is_shape_of w n ≡ true → HasCount o n → option_map (recast b) (made_value (made.Shaped d) ws) ≡ cast_by c (array_of ix o)
unfolding as_items
reshaped_by b d ws w ix jx None None n e f g h k = shaped_none d ws w b e (items_by d ws None None f refl)
reshaped_by b d ws w ix jx (Some a) None n e f g h k = shaped_none d ws w b e (items_by d ws None None f refl)
reshaped_by b d ws w ix jx None (Some ys) n e f g h k =
    shaped_items d ws w b ys ix e (items_by d ws (Some (values.array jx (contents ys))) (Some ys) f (ap Some (items_in_contents ys))) g (ap (is_shape_of w) k ∙ h)
reshaped_by b d ws w ix jx (Some a) (Some ys) n e f g h k =
    let zs : List Content = map (recast a) (items_in (contents ys)) in
    shaped_items d ws w b zs ix e (items_by d ws (Some (values.array jx (contents zs))) (Some zs) f (ap Some (items_in_contents zs))) g
    (ap (is_shape_of w) (length-map (items_in (contents ys)) (recast a) ∙ ap length (items_in_contents ys) ∙ k) ∙ h)

pub reshaped_held : (m : Mode) (b : Base) (d : ℕ) (vs ws : Arguments) (w : IndexShape) (ix jx : List Range) (c : Option Base) (o : Option (List Content)) (n : ℕ) → KeepsSets vs ws → shape d vs ≡ Some w → at ws d ≡ held m (cast_by c (array_of jx o)) → w.ranges ≡ ix → is_shape_of w n ≡ true → HasCount o n → held m (option_map (recast b) (made_value (made.Shaped d) ws)) ≡ held m (cast_by c (array_of ix o))
reshaped_held (Blank q) b d vs ws w ix jx c o n s e f g h k = refl
reshaped_held (Given q) b d vs ws w ix jx c o n s e f g h k = reshaped_by b d ws w ix jx c o n (shape_kept d vs ws w s e) f g h k

-- ---- the arguments of a row, without values and under a reading

argument_seen : (r : Reading) (ks : List Known) (k : ℕ) → at (map value_of (all_seen r ks)) k ≡ option_and_then (λ x. value_of (seen r x)) (slice_get ks k)
unfolding at
argument_seen r [] k = refl
argument_seen r (x ∷ ks) zero = refl
argument_seen r (x ∷ ks) (suc k) = argument_seen r ks k

argument_bare : (ks : List Known) (k : ℕ) → at (map value_of (cells_of ks)) k ≡ option_and_then (λ x. value_of (cell_of x)) (slice_get ks k)
unfolding at
argument_bare [] k = refl
argument_bare (x ∷ ks) zero = refl
argument_bare (x ∷ ks) (suc k) = argument_bare ks k

set_seen : (r : Reading) (x : Known) (s : List Range) → option_and_then as_set (value_of (cell_of x)) ≡ Some s → option_and_then as_set (value_of (seen r x)) ≡ Some s
set_seen r known.Undefined s e = e
set_seen r (known.One i) s e = e
set_seen r (known.Array ix xs) s e = e
set_seen r (known.Var x) s e = absurd (cc)
set_seen r (known.Row ix xs) s e = absurd (cc)
set_seen r (known.Unshaped d) s e = absurd (cc)

found_set : (r : Reading) (o : Option Known) (s : List Range) → option_and_then as_set (option_and_then (λ x. value_of (cell_of x)) o) ≡ Some s → option_and_then as_set (option_and_then (λ x. value_of (seen r x)) o) ≡ Some s
found_set r None s e = e
found_set r (Some x) s e = set_seen r x s e

pub sets_kept : (r : Reading) (ks : List Known) → KeepsSets (map value_of (cells_of ks)) (map value_of (all_seen r ks))
unfolding set_at
sets_kept r ks k s e =
    ap (option_and_then as_set) (argument_seen r ks k)
    ∙ found_set r (slice_get ks k) s (sym (ap (option_and_then as_set) (argument_bare ks k)) ∙ e)

pub array_there : (r : Reading) (ks : List Known) (k : ℕ) (x : Known) → slice_get ks k ≡ Some x → at (map value_of (all_seen r ks)) k ≡ value_of (seen r x)
array_there r ks k x e = argument_seen r ks k ∙ ap (option_and_then (λ y. value_of (seen r y))) e
