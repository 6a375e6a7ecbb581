-- Readings of cells, types, coercions and guards: they keep outlines.
use Rattle.std.proofs.Common.{◌≡◌, ℕ, Bool, true, false, not, ◌&&◌, List, [], ◌∷◌, ◌++◌, map, length, Option, Some, None, refl, ap, ◌∙◌, nat_eq, if◌then◌else◌, cond}
use Rattle.mz_value.specs.Ranges.{Range}
use Rattle.mz_core.specs.declared.types.Base.{Base}
use Rattle.mz_core.specs.declared.types.Base.TheVariants as base
use Rattle.mz_core.specs.declared.types.Coercion.{Coercion}
use Rattle.mz_core.specs.declared.types.Coercion.TheVariants as coercion
use Rattle.mz_core.specs.Types.{PlainType}
use Rattle.mz_core.specs.Order.{no_dims}
use Rattle.mz_core.specs.Coercions.{PathLink}
use Rattle.mz_operations.specs.Bounds.{Bounds}
use Rattle.mz_meaning.specs.Cells.{Cell, Par, Var, Unshaped, Mode, Blank, value_of, is_par, is_true, all_par, test_of, set_in, bounds_in, bounds_as, scalar_bound, index_of, length_of, no_bounds, to_var, to_par, sealed, widened, risen, typed, is_truth, Sure, both_sure, kept_if, guarded_by, guarded, there, Env, bind, bind_all}
use Rattle.mz_meaning.specs.Coerced.{recast_cell, elements_of_set, coerced, coercion_work, set_size}
use Rattle.mz_meaning_laws.specs.Outlines.{outline, outlines, outline_sure, HasOutlines}

pub both_equal : {A B C : Type 0} (f : A → B → C) {a a' : A} {b b' : B} → a ≡ a' → b ≡ b' → f a b ≡ f a' b'
both_equal f {a' = a'} {b = b} p q = ap (λ x. f x b) p ∙ ap (f a') q

-- ---- reading

pub par_outline : (c : Cell) → is_par (outline c) ≡ is_par c
par_outline (Par v) = refl
par_outline (Var b v) = refl
par_outline (Unshaped d) = refl

pub test_outline : (c : Cell) → test_of (outline c) ≡ test_of c
test_outline (Par v) = refl
test_outline (Var b v) = refl
test_outline (Unshaped d) = refl

pub set_outline : (c : Cell) → set_in (outline c) ≡ set_in c
set_outline (Par v) = refl
set_outline (Var b v) = refl
set_outline (Unshaped d) = refl

pub bounds_outline : (c : Cell) → bounds_in (outline c) ≡ bounds_in c
bounds_outline (Par v) = refl
bounds_outline (Var b v) = refl
bounds_outline (Unshaped d) = refl

pub bounds_as_outline : (t : PlainType) (c : Cell) → bounds_as t (outline c) ≡ bounds_as t c
bounds_as_outline t (Par v) = refl
bounds_as_outline t (Var b v) = refl
bounds_as_outline t (Unshaped d) = refl

pub index_outline : (c : Cell) → index_of (outline c) ≡ index_of c
index_outline (Par v) = refl
index_outline (Var b v) = refl
index_outline (Unshaped d) = refl

pub length_outline : (c : Cell) → length_of (outline c) ≡ length_of c
length_outline (Par v) = refl
length_outline (Var b v) = refl
length_outline (Unshaped d) = refl

-- ---- lists of cells

pub push_outline : (cs : List Cell) (c : Cell) → outlines cs ++ outline c ∷ [] ≡ outlines (cs ++ c ∷ [])
push_outline [] c = refl
push_outline (x ∷ cs) c = ap (λ ys. outline x ∷ ys) (push_outline cs c)

pub all_par_outline : (cs : List Cell) → all_par (outlines cs) ≡ all_par cs
all_par_outline [] = refl
all_par_outline (c ∷ cs) = both_equal (λ p q. p && q) (par_outline c) (all_par_outline cs)

-- what is read of each cell
pub map_outline : {A : Type 0} (f : Cell → A) → ((c : Cell) → f (outline c) ≡ f c) → (cs : List Cell) → map f (outlines cs) ≡ map f cs
map_outline f h [] = refl
map_outline f h (c ∷ cs) = both_equal (λ x xs. x ∷ xs) (h c) (map_outline f h cs)

pub scalar_outline : (c : Cell) → scalar_bound (bounds_in (outline c)) ≡ scalar_bound (bounds_in c)
scalar_outline c = ap scalar_bound (bounds_outline c)

-- par cells are their own outlines
pub all_par_same : (cs : List Cell) → all_par cs ≡ true → outlines cs ≡ cs
all_par_same [] h = refl
all_par_same (Par v ∷ cs) h = ap (λ cs. Par v ∷ cs) (all_par_same cs h)
all_par_same (Var b v ∷ cs) h = absurd (cc)
all_par_same (Unshaped d ∷ cs) h = absurd (cc)

-- ---- types

undefined_var_outline : (b : Bool) (e : Bounds) (d : ℕ) → (if b then Var e None else Unshaped d) ≡ outline (if b then Var e None else Unshaped d)
undefined_var_outline true e d = refl
undefined_var_outline false e d = refl

pub to_var_outline : (m : Mode) (n : Bool) (t : PlainType) (c : Cell) → to_var (Blank n) t (outline c) ≡ outline (to_var m t c)
to_var_outline m n t (Par None) = undefined_var_outline (no_dims t.dims) (no_bounds t) (length t.dims)
to_var_outline m n t (Par (Some x)) = refl
to_var_outline m n t (Var b v) = refl
to_var_outline m n t (Unshaped d) = refl

to_par_outline : (c : Cell) → to_par (outline c) ≡ outline (to_par c)
to_par_outline (Par v) = refl
to_par_outline (Var b v) = refl
to_par_outline (Unshaped d) = refl

pub sealed_outline : (m : Mode) (n v : Bool) (t : PlainType) (c : Cell) → sealed (Blank n) v t (outline c) ≡ outline (sealed m v t c)
sealed_outline m n true t c = to_var_outline m n t c
sealed_outline m n false t c = to_par_outline c

widened_outline : (b : Bool) (c : Cell) → widened b (outline c) ≡ outline (widened b c)
widened_outline false c = refl
widened_outline true (Par v) = refl
widened_outline true (Var b v) = refl
widened_outline true (Unshaped d) = refl

risen_outline : (m : Mode) (n b : Bool) (c : Cell) → risen (Blank n) b (outline c) ≡ outline (risen m b c)
risen_outline m n false c = refl
risen_outline m n true (Par v) = refl
risen_outline m n true (Var b v) = refl
risen_outline m n true (Unshaped d) = refl

pub typed_outline : (m : Mode) (n name : Bool) (t : PlainType) (c : Cell) → typed (Blank n) name t (outline c) ≡ outline (typed m name t c)
typed_outline m n name t c =
    ap (λ k. risen (Blank n) (is_truth t) (widened (not name && is_truth t) k)) (sealed_outline m n t.var t c)
    ∙ ap (risen (Blank n) (is_truth t)) (widened_outline (not name && is_truth t) (sealed m t.var t c))
    ∙ risen_outline m n (is_truth t) (widened (not name && is_truth t) (sealed m t.var t c))

-- ---- coercions

recast_outline : (b : Base) (c : Cell) → recast_cell b (outline c) ≡ outline (recast_cell b c)
recast_outline b (Par v) = refl
recast_outline b (Var e v) = refl
recast_outline b (Unshaped d) = refl

elements_of_set_outline : (b : Base) (s : Option (List Range)) → elements_of_set b s ≡ outline (elements_of_set b s)
elements_of_set_outline b None = refl
elements_of_set_outline b (Some s) = refl

pub coerced_outline : (m : Mode) (n : Bool) (l : PathLink) (c : Cell) → coerced (Blank n) l (outline c) ≡ outline (coerced m l c)
coerced_outline m n (coercion.ToVar, t) c = to_var_outline m n t c
coerced_outline m n (coercion.BoolToInt, t) c = recast_outline base.Int c
coerced_outline m n (coercion.EnumToInt, t) c = recast_outline base.Int c
coerced_outline m n (coercion.SetEnumToSetInt, t) c = recast_outline base.SetInt c
coerced_outline m n (coercion.SetBottomToSet, t) c = recast_outline t.base c
coerced_outline m n (coercion.SetToArray, t) c = ap (elements_of_set t.base) (set_outline c) ∙ elements_of_set_outline t.base (set_in c)
coerced_outline m n (coercion.ToOpt, t) c = refl
coerced_outline m n (coercion.IndexToInt, t) c = refl
coerced_outline m n (coercion.BottomToBase, t) c = refl

pub work_outline : (k : Coercion) (c : Cell) → coercion_work k (outline c) ≡ coercion_work k c
work_outline coercion.SetToArray c = ap set_size (set_outline c)
work_outline k c = refl

-- ---- whether all holds

both_hold : (p i q j : Bool) → ((p && i) && (q && j)) ≡ ((p && q) && (i && j))
both_hold true true q j = refl
both_hold true false true j = refl
both_hold true false false j = refl
both_hold false i q j = refl

pub both_sure_outline : (a b : Sure) → both_sure (outline_sure a) (outline_sure b) ≡ outline_sure (both_sure a b)
both_sure_outline a b = ap (λ i. record { par = a.par && b.par; is = i }) (both_hold a.par a.is b.par b.is)

pub there_outline : (c : Cell) → there (outline c) ≡ outline_sure (there c)
there_outline (Par v) = refl
there_outline (Var b v) = refl
there_outline (Unshaped d) = refl

-- a condition that is true
pub truth_outline : (c : Cell) → record { par = is_par (outline c); is = is_true (value_of (outline c)) } ≡ outline_sure (record { par = is_par c; is = is_true (value_of c) })
truth_outline (Par v) = refl
truth_outline (Var b v) = refl
truth_outline (Unshaped d) = refl

kept_if_outline : (m : Mode) (n i : Bool) (c : Cell) → kept_if (Blank n) i (outline c) ≡ outline (kept_if m i c)
kept_if_outline m n i (Par v) = refl
kept_if_outline m n i (Var b v) = refl
kept_if_outline m n i (Unshaped d) = refl

-- a cell that isn't par is kept in any case
kept_var_outline : (m : Mode) (n i : Bool) (t : PlainType) (c : Cell) → kept_if (Blank n) false (to_var (Blank n) t (outline c)) ≡ outline (kept_if m i (to_var m t c))
kept_var_outline m n i t (Par None) = go (no_dims t.dims)
  where
    go : (b : Bool) → kept_if (Blank n) false (if b then Var (no_bounds t) None else Unshaped (length t.dims)) ≡ outline (kept_if m i (if b then Var (no_bounds t) None else Unshaped (length t.dims)))
    go true = refl
    go false = refl
kept_var_outline m n i t (Par (Some x)) = refl
kept_var_outline m n i t (Var b v) = refl
kept_var_outline m n i t (Unshaped d) = refl

guarded_by_outline : (m : Mode) (n : Bool) (t : PlainType) (p i : Bool) (c : Cell) → guarded_by (Blank n) t p (p && i) (outline c) ≡ outline (guarded_by m t p i c)
guarded_by_outline m n t true i c = kept_if_outline m n i c
guarded_by_outline m n t false i c = kept_var_outline m n i t c

pub guarded_outline : (m : Mode) (n : Bool) (t : PlainType) (s : Sure) (c : Cell) → guarded (Blank n) t (outline_sure s) (outline c) ≡ outline (guarded m t s c)
guarded_outline m n t s c = guarded_by_outline m n t s.par s.is c

-- ---- names

pub bind_outlined : (slot : ℕ) (c : Cell) {env env' : Env} → HasOutlines env env' → HasOutlines (bind slot c env) (bind slot (outline c) env')
bind_outlined slot c {env = env} {env' = env'} h = record { at = λ k. go k (nat_eq k slot) }
  where
    go : (k : ℕ) (b : Bool) → cond b (outline c) (env' k) ≡ outline (cond b c (env k))
    go k true = refl
    go k false = h.at k

pub bind_all_outlined : (ss : List ℕ) (cs : List Cell) {env env' : Env} → HasOutlines env env' → HasOutlines (bind_all ss cs env) (bind_all ss (outlines cs) env')
bind_all_outlined [] cs h = h
bind_all_outlined (s ∷ ss) [] h = h
bind_all_outlined (s ∷ ss) (c ∷ cs) h = bind_all_outlined ss cs (bind_outlined s c h)
