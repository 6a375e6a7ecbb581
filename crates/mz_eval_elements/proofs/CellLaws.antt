-- The cells of elements under a reading.
use Rattle.std.proofs.Common.{◌≡◌, ◌∙◌, ℕ, ℤ, zero, suc, Bool, true, false, List, [], ◌∷◌, map, slice_get, Option, Some, None, IsSome, refl, sym, ap, if◌then◌else◌}
use Rattle.std.specs.Option.{option_map}
use Rattle.mz_value.specs.Ranges.{Range}
use Rattle.mz_value.specs.declared.value.Value.{Value}
use Rattle.mz_value.specs.Contents.{Content, content}
use Rattle.mz_value.specs.Contents as values
use Rattle.mz_core.specs.declared.types.Base.{Base}
use Rattle.mz_core.specs.declared.types.Base.TheVariants as base
use Rattle.mz_operations.specs.Bounds as bounds
use Rattle.mz_arena.specs.Values.{Term, as_number, as_set, is_true}
use Rattle.mz_instance.specs.Contents.{content_by}
use Rattle.mz_meaning.specs.Cells.{Var, Mode, Blank, Given, held, value_of}
use Rattle.mz_meaning.specs.Coerced.{recast, recast_all}
use Rattle.mz_symbol.specs.declared.types.Symbol.{Symbol}
use Rattle.mz_symbol.specs.Symbols.{symbol_value, value_at, value_by, IsItem}
use Rattle.mz_symbol.specs.Readings.{Reading}
use Rattle.mz_symbol.specs.Arguments.{as_argument, truth_of}
use Rattle.mz_eval_cells.specs.declared.types.Known.{Known}
use Rattle.mz_eval_cells.specs.declared.types.Known.TheVariants as known
use Rattle.mz_eval_cells.specs.Views.{cast_by, cell_of, known_bound, origin_value, seen}
use Rattle.mz_eval_symbols.specs.Steps.{argued, item_cast}

-- ---- cells

held_twice : (m : Mode) (v : Option Content) → held m v ≡ held m (held m v)
held_twice (Blank n) v = refl
held_twice (Given f) v = refl

same_bound : (b c : bounds.Bound) (v : Option Content) → Var (bounds.one c) None ≡ Var (bounds.one b) None → Var (bounds.one c) v ≡ Var (bounds.one b) v
same_bound b c v q = cc

pub shape_seen : (r : Reading) (k : Known) (b : bounds.Bound) → cell_of k ≡ Var (bounds.one b) None → seen r k ≡ Var (bounds.one b) (held r.mode (value_of (seen r k)))
shape_seen r known.Undefined b e = absurd (cc)
shape_seen r (known.One i) b e = absurd (cc)
shape_seen r (known.Array ix xs) b e = absurd (cc)
shape_seen r (known.Var x) b e =
    same_bound b (known_bound x.value.bound) (value_of (seen r (known.Var x))) e ∙ ap (Var (bounds.one b)) (held_twice r.mode (cast_by x.value.cast (origin_value r.term x.value.origin)))
shape_seen r (known.Row ix xs) b e = absurd (cc)
shape_seen r (known.Unshaped d) b e = absurd (cc)

-- ---- casts of what is no array

flat_number : (b c : Base) (o : Option ℤ) → ((n : ℤ) → recast_all b (content_by c n []) ≡ recast b (content_by c n [])) → option_map (recast_all b) (option_map (λ n. content_by c n []) o) ≡ option_map (recast b) (option_map (λ n. content_by c n []) o)
flat_number b c None h = refl
flat_number b c (Some n) h = ap (λ x. Some x) (h n)

flat_set : (b : Base) (e : Option ℕ) (o : Option (List Range)) → option_map (recast_all b) (option_map (λ s. values.set e s) o) ≡ option_map (recast b) (option_map (λ s. values.set e s) o)
flat_set b e None = refl
flat_set b e (Some s) = refl

flat_value : (b c : Base) (x : Term) → option_map (recast_all b) (value_by c x) ≡ option_map (recast b) (value_by c x)
flat_value b base.Bool x = flat_number b base.Bool (as_number x) (λ n. refl)
flat_value b base.Int x = flat_number b base.Int (as_number x) (λ n. refl)
flat_value b (base.Enum e) x = flat_number b (base.Enum e) (as_number x) (λ n. refl)
flat_value b base.SetInt x = flat_set b None (as_set x)
flat_value b (base.SetEnum e) x = flat_set b (Some e) (as_set x)
flat_value b base.SetBottom x = flat_number b base.SetBottom (as_number x) (λ n. refl)
flat_value b base.Text x = flat_number b base.Text (as_number x) (λ n. refl)
flat_value b base.Bottom x = flat_number b base.Bottom (as_number x) (λ n. refl)

flat_if : (b : Base) (p : Bool) (v : Option Content) → option_map (recast_all b) v ≡ option_map (recast b) v → option_map (recast_all b) (if p then v else Some values.absent) ≡ option_map (recast b) (if p then v else Some values.absent)
flat_if b true v h = h
flat_if b false v h = refl

flat_at : (t : ℕ → Term) (b c : Base) (o : Option ℕ) (id : ℕ) → option_map (recast_all b) (value_at t c o id) ≡ option_map (recast b) (value_at t c o id)
flat_at t b c None id = flat_value b c (t id)
flat_at t b c (Some o) id = flat_if b (is_true (t o)) (value_by c (t id)) (flat_value b c (t id))

flat_argument : (b c : Base) (o : Option ℕ) (v : Option Content) → option_map (recast_all b) v ≡ option_map (recast b) v → option_map (recast_all b) (as_argument c o v) ≡ option_map (recast b) (as_argument c o v)
flat_argument b base.Bool None v h = refl
flat_argument b base.Bool (Some o) v h = h
flat_argument b c None v h = h
flat_argument b c (Some o) v h = h

same_value : (v : Option Content) → v ≡ option_map (item_cast None) v
same_value None = refl
same_value (Some x) = refl

pub argued_cast : (t : ℕ → Term) (c : Option Base) (s : Symbol) → cast_by c (argued t s) ≡ option_map (item_cast c) (argued t s)
argued_cast t None s = same_value (argued t s)
argued_cast t (Some b) s = flat_argument b s.base s.occurs (symbol_value t s) (flat_at t b s.base s.occurs s.term)

-- ---- elements that have values are arguments as they stand

there_truth : (o : Option ℤ) → IsSome (option_map (λ n. content_by base.Bool n []) o) → truth_of (option_map (λ n. content_by base.Bool n []) o) ≡ option_map (λ n. content_by base.Bool n []) o
there_truth None h = absurd (cc)
there_truth (Some n) h = refl

there_by : (t : ℕ → Term) (b : Base) (o : Option ℕ) (id : ℕ) → IsSome (value_by b (t id)) → as_argument b o (value_at t b o id) ≡ value_at t b o id
there_by t base.Bool None id h = there_truth (as_number (t id)) h
there_by t base.Bool (Some o) id h = refl
there_by t b None id h = refl
there_by t b (Some o) id h = refl

pub item_argued : (t : ℕ → Term) (s : Symbol) → IsItem t s → argued t s ≡ symbol_value t s
item_argued t s i = there_by t s.base s.occurs s.term i.value

-- ---- values at a place

held_none : (m : Mode) → None ≡ held m None
held_none (Blank n) = refl
held_none (Given f) = refl

pub get_mapped : {A B : Type 0} (f : A → B) (xs : List A) (i : ℕ) → slice_get (map f xs) i ≡ option_map f (slice_get xs i)
get_mapped f [] zero = refl
get_mapped f [] (suc i) = refl
get_mapped f (x ∷ xs) zero = refl
get_mapped f (x ∷ xs) (suc i) = get_mapped f xs i

value_at_place : (m : Mode) (c : Option Base) (vs : List Value) (n : ℕ) (o : Option Value) → slice_get vs n ≡ o → held m (option_map (item_cast c) (option_map content o)) ≡ held m (option_map (item_cast c) (slice_get (map content vs) n))
value_at_place m c vs n o e = ap (λ x. held m (option_map (item_cast c) x)) (ap (option_map content) (sym e) ∙ sym (get_mapped content vs n))

pub no_place : (m : Mode) (c : Option Base) (vs : List Value) (n : ℕ) → slice_get vs n ≡ None → None ≡ held m (option_map (item_cast c) (slice_get (map content vs) n))
no_place m c vs n e = held_none m ∙ value_at_place m c vs n None e

pub some_place : (m : Mode) (c : Option Base) (vs : List Value) (n : ℕ) (v : Value) → slice_get vs n ≡ Some v → held m (Some (item_cast c (content v))) ≡ held m (option_map (item_cast c) (slice_get (map content vs) n))
some_place m c vs n v e = value_at_place m c vs n (Some v) e
