-- Cells whose values nothing tells, and arrays of them.
use Rattle.std.proofs.Common.{◌≡◌, ◌∙◌, ℕ, Bool, true, false, ◌&&◌, List, [], ◌∷◌, length, map, Option, Some, None, refl, sym, ap}
use Rattle.std.specs.List.{list_all}
use Rattle.std.specs.Option.{option_map}
use Rattle.mz_value.specs.Ranges.{Range}
use Rattle.mz_value.specs.Contents.{Content}
use Rattle.mz_core.specs.declared.types.Base.{Base}
use Rattle.mz_operations.specs.Bounds as bounds
use Rattle.mz_arena.specs.Values.{Term}
use Rattle.mz_meaning.specs.Cells.{Var, Mode, Blank, Given, all_par, held, value_of}
use Rattle.mz_meaning.specs.Arrays.{all_there, line_cell}
use Rattle.mz_symbol.specs.Readings.{Reading}
use Rattle.mz_eval_cells.specs.declared.types.Known.{Known}
use Rattle.mz_eval_cells.specs.declared.types.Known.TheVariants as known
use Rattle.mz_eval_cells.specs.declared.types.Bound.{Bound}
use Rattle.mz_eval_cells.specs.declared.types.Origin.{Origin}
use Rattle.mz_eval_cells.specs.declared.types.Origin.TheVariants as origin
use Rattle.mz_eval_cells.specs.declared.types.Origins.{Origins}
use Rattle.mz_eval_cells.specs.declared.types.Origins.TheVariants as origins
use Rattle.mz_eval_cells.specs.Views.{all_seen, array_of, cast_by, cells_of, known_bound, origin_value, origins_value, seen}
use Rattle.mz_eval_arrays.specs.ArrayCells.{array_in, bound_in}
use Rattle.mz_eval_arrays.specs.Told.{has_origin, has_origins, is_told}
use Rattle.mz_eval_arrays.proofs.Seeing.{all_bounds, from_one, line_open, mapped_length, pars_same}

-- ---- a cell

pub held_none : (m : Mode) → held m None ≡ None
held_none (Blank n) = refl
held_none (Given f) = refl

none_cast : (m : Mode) (c : Option Base) → held m (cast_by c None) ≡ None
none_cast m None = held_none m
none_cast m (Some b) = held_none m

untold_value : (m : Mode) (c : Option Base) (t : ℕ → Term) (o : Origin) → has_origin o ≡ false → held m (cast_by c (origin_value t o)) ≡ None
untold_value m c t origin.Nothing h = none_cast m c
untold_value m c t o h = absurd (cc)

untold_items : (m : Mode) (c : Option Base) (ix : List Range) (l : ℕ → Option (List Content)) (o : Origins) → has_origins o ≡ false → held m (cast_by c (array_of ix (origins_value l o))) ≡ None
untold_items m c ix l origins.Nothing h = none_cast m c
untold_items m c ix l o h = absurd (cc)

pub untold : (r : Reading) (k : Known) → is_told k ≡ false → value_of (seen r k) ≡ None
untold r known.Undefined h = refl
untold r (known.One i) h = absurd (cc)
untold r (known.Array ix xs) h = absurd (cc)
untold r (known.Var x) h = untold_value r.mode x.value.cast r.term x.value.origin h
untold r (known.Row ix xs) h = untold_items r.mode xs.value.cast ix.value.items r.line xs.value.origins h
untold r (known.Unshaped d) h = refl

-- ---- a list

with_none : (v : Option Content) (vs : List (Option Content)) → all_there vs ≡ None → all_there (v ∷ vs) ≡ None
with_none None vs e = refl
with_none (Some x) vs e = ap (option_map (λ xs. x ∷ xs)) e

rest_false : (a b : Bool) → (a && b) ≡ false → a ≡ true → b ≡ false
rest_false true b h e = h
rest_false false b h e = absurd (cc)

pub all_untold : (r : Reading) (ks : List Known) → list_all is_told ks ≡ false → all_there (map value_of (all_seen r ks)) ≡ None
all_untold r [] h = absurd (cc)
all_untold r (k ∷ ks) h = by (is_told k) refl h (λ q. all_untold r ks q)
  where
    by : (b : Bool) → is_told k ≡ b → (is_told k && list_all is_told ks) ≡ false → (list_all is_told ks ≡ false → all_there (map value_of (all_seen r ks)) ≡ None) → all_there (value_of (seen r k) ∷ map value_of (all_seen r ks)) ≡ None
    by false e g more = ap (λ v. all_there (v ∷ map value_of (all_seen r ks))) (untold r k e)
    by true e g more = with_none (value_of (seen r k)) (map value_of (all_seen r ks)) (more (rest_false (is_told k) (list_all is_told ks) g e))

-- ---- the array

pub missing_told : (r : Reading) (ks : List Known) (ix : List Range) (bs : List Bound) (k : Known) → all_par (cells_of ks) ≡ false → list_all is_told ks ≡ false → ix ≡ from_one (length ks) → map known_bound bs ≡ map bound_in (cells_of ks)
    → seen r k ≡ Var (bounds.many ix (map known_bound bs)) None → seen r k ≡ line_cell r.mode (all_seen r ks)
missing_told r ks ix bs k p h i b s =
    let cs = all_seen r ks in
    s
    ∙ ap (λ es. Var (bounds.many ix es) None) (b ∙ sym (all_bounds r ks))
    ∙ ap (Var (bounds.many ix (map bound_in cs))) (sym (ap (λ v. held r.mode (option_map (array_in ix) v)) (all_untold r ks h) ∙ held_none r.mode))
    ∙ sym (line_open r.mode cs ix (pars_same r ks ∙ p) (i ∙ ap from_one (sym (mapped_length (seen r) ks))))
