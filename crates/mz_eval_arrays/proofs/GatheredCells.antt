-- Cells that are all par, and arrays of them.
use Rattle.std.proofs.Common.{◌≡◌, ◌∙◌, Bool, true, false, ◌&&◌, List, [], ◌∷◌, map, Option, refl, sym, ap, if◌then◌else◌}
use Rattle.mz_value.specs.declared.value.Value.{Value}
use Rattle.mz_value.specs.Contents.{Content, content}
use Rattle.mz_operations.specs.RowBounds.{line_of}
use Rattle.mz_meaning.specs.Cells.{Cell, Par, Var, Mode, Bare, all_par, bounds_in, held, is_par, par_value, scalar_bound}
use Rattle.mz_meaning.specs.Arrays.{line_cell, line_value}
use Rattle.mz_symbol.specs.Readings.{Reading}
use Rattle.mz_eval_cells.specs.declared.types.Known.{Known}
use Rattle.mz_eval_cells.specs.declared.types.Known.TheVariants as known
use Rattle.mz_eval_cells.specs.Views.{all_seen, cell_of, cells_of, seen}
use Rattle.mz_eval_arrays.specs.declared.gathering.Gathered.{Gathered}
use Rattle.mz_eval_arrays.specs.declared.gathering.Gathered.TheVariants as gathering
use Rattle.mz_eval_arrays.specs.Gathered.{gathered, gathered_by}

pub values_par : (xs : List Value) → all_par (map (λ x. par_value (content x)) xs) ≡ true
values_par [] = refl
values_par (x ∷ xs) = values_par xs

and_first : (a b : Bool) → (a && b) ≡ true → a ≡ true
and_first true b h = refl
and_first false b h = h

and_rest : (a b : Bool) → (a && b) ≡ true → b ≡ true
and_rest true b h = h
and_rest false b h = absurd (cc)

pub par_same : (r : Reading) (k : Known) → is_par (cell_of k) ≡ true → seen r k ≡ cell_of k
par_same r known.Undefined h = refl
par_same r (known.One i) h = refl
par_same r (known.Array ix xs) h = refl
par_same r (known.Var x) h = absurd (cc)
par_same r (known.Row ix xs) h = absurd (cc)
par_same r (known.Unshaped d) h = absurd (cc)

pub all_same : (r : Reading) (ks : List Known) → all_par (cells_of ks) ≡ true → all_seen r ks ≡ cells_of ks
all_same r [] h = refl
all_same r (k ∷ ks) h =
    ap (λ c. c ∷ all_seen r ks) (par_same r k (and_first (is_par (cell_of k)) (all_par (cells_of ks)) h))
    ∙ ap (λ cs. cell_of k ∷ cs) (all_same r ks (and_rest (is_par (cell_of k)) (all_par (cells_of ks)) h))

gathered_same : (r : Reading) (g : Gathered) → all_par (gathered g) ≡ true → gathered_by (seen r) g ≡ gathered g
gathered_same r (gathering.Items v) h = refl
gathered_same r (gathering.Cells v) h = all_same r v.items h

line_par : (m : Mode) (cs : List Cell) → all_par cs ≡ true → line_cell m cs ≡ Par (line_value cs)
line_par m cs h = ap (λ b. if b then Par (line_value cs) else Var (line_of (map (λ c. scalar_bound (bounds_in c)) cs)) (held m (line_value cs))) h

pub par_cell : (r : Reading) (k : Known) (v : Option Content) → cell_of k ≡ Par v → seen r k ≡ Par v
par_cell r known.Undefined v e = e
par_cell r (known.One i) v e = e
par_cell r (known.Array ix xs) v e = e
par_cell r (known.Var x) v e = absurd (cc)
par_cell r (known.Row ix xs) v e = absurd (cc)
par_cell r (known.Unshaped d) v e = absurd (cc)

pub par_line_seen : (r : Reading) (g : Gathered) (k : Known) → all_par (gathered g) ≡ true → cell_of k ≡ line_cell Bare (gathered g) → seen r k ≡ line_cell r.mode (gathered_by (seen r) g)
par_line_seen r g k h e =
    par_cell r k (line_value (gathered g)) (e ∙ line_par Bare (gathered g) h)
    ∙ sym (line_par r.mode (gathered g) h)
    ∙ ap (line_cell r.mode) (sym (gathered_same r g h))
