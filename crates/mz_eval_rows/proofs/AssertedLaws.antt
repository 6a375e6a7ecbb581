-- `assert` of three arguments.
use Rattle.std.proofs.Common.{◌≡◌, ◌∙◌, ℕ, Bool, true, List, map, Option, Some, None, IsSome, slice_get, refl, sym, ap}
use Rattle.std.specs.Option.{option_map, option_and_then}
use Rattle.mz_value.specs.Ranges.{Range}
use Rattle.mz_value.specs.Contents.{Content, contents}
use Rattle.mz_value.specs.Contents as values
use Rattle.mz_value.specs.Shown.{Names}
use Rattle.mz_core.specs.declared.types.Base.{Base}
use Rattle.mz_core.specs.Types.{PlainType}
use Rattle.mz_operations.specs.declared.row.MadeRow.TheVariants as made
use Rattle.mz_operations.specs.declared.row.Row.{Row}
use Rattle.mz_operations.specs.declared.row.Row.TheVariants.{Made}
use Rattle.mz_operations.specs.Views.{as_bool, as_text, items_in}
use Rattle.mz_operations.specs.Arguments.{Arguments, at, bool_at, text_at}
use Rattle.mz_operations.specs.Values.{made_value}
use Rattle.mz_meaning.specs.Cells.{Cell, Mode, Blank, Given, held, value_of}
use Rattle.mz_meaning.specs.Coerced.{recast}
use Rattle.mz_meaning.specs.Exact.{exact_value}
use Rattle.mz_symbol.specs.Readings.{Reading}
use Rattle.mz_eval_cells.specs.declared.types.Known.{Known}
use Rattle.mz_eval_cells.specs.Views.{all_seen, array_of, cast_by, seen}
use Rattle.mz_eval_cells.proofs.Held.{held_map}
use Rattle.mz_eval_row_symbols.specs.NodeRows.{var_value}
use Rattle.mz_eval_rows.specs.Settled.{is_assert}
use Rattle.mz_eval_rows.proofs.HandedLaws.{recast_array}
use Rattle.mz_eval_rows.proofs.ReshapedLaws.{array_there}

-- ---- where the condition and the message are there

third_by : (o : Option Bool) (p : Option (List ℕ)) (v : Option Content) → IsSome o → IsSome p → option_and_then (λ b. option_and_then (λ m. v) p) o ≡ v
third_by None p v h k = absurd (cc)
third_by (Some b) None v h k = absurd (cc)
third_by (Some b) (Some m) v h k = refl

pub third_told : (r : Reading) (ks : List Known) (a b : Known) → slice_get ks 0 ≡ Some a → slice_get ks 1 ≡ Some b → IsSome (option_and_then as_bool (value_of (seen r a))) → IsSome (option_and_then as_text (value_of (seen r b))) → made_value made.AssertValue (map value_of (all_seen r ks)) ≡ at (map value_of (all_seen r ks)) 2
unfolding made_value bool_at text_at
third_told r ks a b e f h k =
    let vs : Arguments = map value_of (all_seen r ks) in
    ap (λ x. option_and_then (λ q. option_and_then (λ m. at vs 2) (option_and_then as_text (at vs 1))) (option_and_then as_bool x)) (array_there r ks 0 a e)
    ∙ ap (λ x. option_and_then (λ q. option_and_then (λ m. at vs 2) (option_and_then as_text x)) (option_and_then as_bool (value_of (seen r a)))) (array_there r ks 1 b f)
    ∙ third_by (option_and_then as_bool (value_of (seen r a))) (option_and_then as_text (value_of (seen r b))) (at vs 2) h k

lacking : (o : Option Bool) (v : Option Content) → option_and_then (λ b. option_and_then (λ (m : List ℕ). v) None) o ≡ None
lacking None v = refl
lacking (Some b) v = refl

pub condition_lacks : (r : Reading) (ks : List Known) (a : Known) → slice_get ks 0 ≡ Some a → value_of (seen r a) ≡ None → made_value made.AssertValue (map value_of (all_seen r ks)) ≡ None
unfolding made_value bool_at text_at
condition_lacks r ks a e h =
    let vs : Arguments = map value_of (all_seen r ks) in
    ap (λ x. option_and_then (λ q. option_and_then (λ m. at vs 2) (option_and_then as_text (at vs 1))) (option_and_then as_bool x)) (array_there r ks 0 a e ∙ h)

pub message_lacks : (r : Reading) (ks : List Known) (b : Known) → slice_get ks 1 ≡ Some b → value_of (seen r b) ≡ None → made_value made.AssertValue (map value_of (all_seen r ks)) ≡ None
unfolding made_value bool_at text_at
message_lacks r ks b e h =
    let vs : Arguments = map value_of (all_seen r ks) in
    ap (λ x. option_and_then (λ q. option_and_then (λ m. at vs 2) (option_and_then as_text x)) (option_and_then as_bool (at vs 0))) (array_there r ks 1 b e ∙ h)
    ∙ lacking (option_and_then as_bool (at vs 0)) (at vs 2)

-- ---- the row's value

assert_exact : (names : Names) (row : Row) (vs : Arguments) → is_assert row ≡ true → exact_value names row vs ≡ made_value made.AssertValue vs
unfolding made_value
assert_exact names (Made made.AssertValue) vs h = refl
assert_exact names (Made made.AssertArray) vs h = refl
assert_exact names row vs h = absurd (cc)

pub asserted_value : (m : Mode) (names : Names) (row : Row) (t : PlainType) (cs : List Cell) (v : Option Content) → is_assert row ≡ true → made_value made.AssertValue (map value_of cs) ≡ v → var_value m names row t cs ≡ held m (option_map (recast t.base) v)
asserted_value m names row t cs v p e = ap (λ x. held m (option_map (recast t.base) x)) (assert_exact names row (map value_of cs) p ∙ e)

-- ---- the third's value, recast

pub inner_held : (m : Mode) (f : Option Content → Option Content) (v : Option Content) → held m (f (held m v)) ≡ held m (f v)
inner_held (Blank n) f v = refl
inner_held (Given c) f v = refl

pub recast_held : (m : Mode) (b : Base) (v w x : Option Content) → held m v ≡ held m w → option_map (recast b) w ≡ x → held m (option_map (recast b) v) ≡ held m x
recast_held m b v w x e f = sym (held_map m (recast b) v) ∙ ap (option_map (recast b)) e ∙ held_map m (recast b) w ∙ ap (held m) f

array_recast : (b : Base) (ix jx : List Range) (c : Option Base) (o : Option (List Content)) → jx ≡ ix → option_map (recast b) (cast_by c (array_of jx o)) ≡ cast_by c (array_of ix o)
array_recast b ix jx None None e = refl
array_recast b ix jx (Some d) None e = refl
array_recast b ix jx None (Some ys) e = ap Some (recast_array b jx (contents ys)) ∙ ap (λ i. Some (values.array i (contents ys))) e
array_recast b ix jx (Some d) (Some ys) e =
    let zs : List Content = map (recast d) (items_in (contents ys)) in
    ap Some (recast_array b jx (contents zs)) ∙ ap (λ i. Some (values.array i (contents zs))) e

pub array_handed : (m : Mode) (b : Base) (ix jx : List Range) (c : Option Base) (o : Option (List Content)) → jx ≡ ix → held m (option_map (recast b) (held m (cast_by c (array_of jx o)))) ≡ held m (cast_by c (array_of ix o))
array_handed (Blank n) b ix jx c o e = refl
array_handed (Given f) b ix jx c o e = array_recast b ix jx c o e
