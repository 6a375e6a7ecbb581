-- What is undefined wherever it is read.
use Rattle.std.proofs.Common.{◌≡◌, ◌∙◌, ℕ, Bool, true, false, ◌&&◌, List, [], ◌∷◌, map, Option, Some, None, refl, ap, if◌then◌else◌}
use Rattle.std.specs.List.{list_all}
use Rattle.mz_value.specs.Ranges.{Range}
use Rattle.mz_value.specs.Contents.{Content}
use Rattle.mz_core.specs.declared.types.Base.{Base}
use Rattle.mz_operations.specs.Bounds as bounds
use Rattle.mz_arena.specs.Values.{Term}
use Rattle.mz_meaning.specs.Arrays.{chosen_value}
use Rattle.mz_meaning.specs.Cells.{Mode, Blank, Given, Var, held, is_true, value_of}
use Rattle.mz_symbol.specs.Readings.{Reading}
use Rattle.mz_eval_cells.specs.declared.types.Known.{Known}
use Rattle.mz_eval_cells.specs.declared.types.Known.TheVariants as known
use Rattle.mz_eval_cells.specs.declared.types.Origin.{Origin}
use Rattle.mz_eval_cells.specs.declared.types.Origin.TheVariants as origin
use Rattle.mz_eval_cells.specs.declared.types.Origins.{Origins}
use Rattle.mz_eval_cells.specs.declared.types.Origins.TheVariants as origins
use Rattle.mz_eval_cells.specs.Views.{array_of, cast_by, cell_of, known_bound, origin_value, origins_value, seen}
use Rattle.mz_eval_symbols.specs.Taken.{cell_value}
use Rattle.mz_eval_arrays.specs.Gathered.{pairs_by}
use Rattle.mz_eval_arrays.specs.StepsBranches.{branches_value, with_value}
use Rattle.mz_eval_branches.specs.BranchLines.{has_no_value, is_nothing, is_untold}

pub held_none : (m : Mode) → held m None ≡ None
held_none (Blank n) = refl
held_none (Given f) = refl

-- ---- one cell

untold_held : (m : Mode) (c : Option Base) (t : ℕ → Term) (o : Origin) → is_untold o ≡ true → held m (cast_by c (origin_value t o)) ≡ None
untold_held m None t origin.Nothing h = held_none m
untold_held m (Some b) t origin.Nothing h = held_none m
untold_held m c t (origin.Item i) h = absurd (cc)
untold_held m c t (origin.Symbol s) h = absurd (cc)
untold_held m c t (origin.Truth y d) h = absurd (cc)

nothing_held : (m : Mode) (c : Option Base) (ix : List Range) (l : ℕ → Option (List Content)) (o : Origins) → is_nothing o ≡ true → held m (cast_by c (array_of ix (origins_value l o))) ≡ None
nothing_held m None ix l origins.Nothing h = held_none m
nothing_held m (Some b) ix l origins.Nothing h = held_none m
nothing_held m c ix l (origins.Values xs) h = absurd (cc)
nothing_held m c ix l (origins.Line k) h = absurd (cc)

pub no_content : (r : Reading) (k : Known) → has_no_value k ≡ true → value_of (seen r k) ≡ None
no_content r known.Undefined h = refl
no_content r (known.One i) h = absurd (cc)
no_content r (known.Array ix xs) h = absurd (cc)
no_content r (known.Var x) h = untold_held r.mode x.value.cast r.term x.value.origin h
no_content r (known.Row ix xs) h = nothing_held r.mode xs.value.cast ix.value.items r.line xs.value.origins h
no_content r (known.Unshaped d) h = refl

-- it is the same cell under each reading
pub seen_unvalued : (r : Reading) (k : Known) → has_no_value k ≡ true → seen r k ≡ with_value None (cell_of k)
seen_unvalued r known.Undefined h = refl
seen_unvalued r (known.One i) h = absurd (cc)
seen_unvalued r (known.Array ix xs) h = absurd (cc)
seen_unvalued r (known.Var x) h = ap (Var (bounds.one (known_bound x.value.bound))) (untold_held r.mode x.value.cast r.term x.value.origin h)
seen_unvalued r (known.Row ix xs) h = ap (Var (bounds.many ix.value.items (map known_bound xs.value.bounds.value.items))) (nothing_held r.mode xs.value.cast ix.value.items r.line xs.value.origins h)
seen_unvalued r (known.Unshaped d) h = refl

-- what has no value has none under a reading
pub no_value : (r : Reading) (k : Known) → has_no_value k ≡ true → cell_value r k ≡ None
no_value r k h = ap (held r.mode) (no_content r k h) ∙ held_none r.mode

pub not_true : (r : Reading) (k : Known) → has_no_value k ≡ true → is_true (value_of (seen r k)) ≡ false
not_true r k h = ap is_true (no_content r k h)

-- ---- branches

and_first : (a b : Bool) → a && b ≡ true → a ≡ true
and_first true b h = refl
and_first false b h = absurd (cc)

and_rest : (a b : Bool) → a && b ≡ true → b ≡ true
and_rest true b h = h
and_rest false b h = absurd (cc)

both_none : (b : Bool) (x y : Option Content) → x ≡ None → y ≡ None → (if b then x else y) ≡ None
both_none true x y e f = e
both_none false x y e f = f

chosen_none : (r : Reading) (ps : List (Known × Known)) (last : Known) → has_no_value last ≡ true → list_all (λ p. has_no_value p.1) ps ≡ true → chosen_value (pairs_by (seen r) ps) (seen r last) ≡ None
chosen_none r [] last h a = no_content r last h
chosen_none r (p ∷ ps) last h a =
    both_none (is_true (value_of (seen r p.0))) (value_of (seen r p.1)) (chosen_value (pairs_by (seen r) ps) (seen r last))
    (no_content r p.1 (and_first (has_no_value p.1) (list_all (λ p. has_no_value p.1) ps) a))
    (chosen_none r ps last h (and_rest (has_no_value p.1) (list_all (λ p. has_no_value p.1) ps) a))

pub none_told : (r : Reading) (ps : List (Known × Known)) (last : Known) → has_no_value last ≡ true → list_all (λ p. has_no_value p.1) ps ≡ true → branches_value r ps last ≡ None
none_told r ps last h a = ap (held r.mode) (chosen_none r ps last h a) ∙ held_none r.mode
