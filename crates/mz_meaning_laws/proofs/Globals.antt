-- Calls of globals over cells: in a blank run they give the outline of what they give.
use Rattle.std.proofs.Common.{◌≡◌, ◌+◌, pos, Bool, true, false, List, map, Option, Some, None, refl, ap, ◌∙◌, if◌then◌else◌}
use Rattle.mz_base.specs.declared.fault.Span.{Span}
use Rattle.mz_base.specs.declared.kind.Kind.TheVariants as kind
use Rattle.mz_core.specs.Types.{PlainType}
use Rattle.mz_operations.specs.declared.row.Row.{Row}
use Rattle.mz_operations.specs.Bounds as bounds
use Rattle.mz_globals.specs.declared.global.Global.{Global}
use Rattle.mz_globals.specs.declared.checks.Refusal.{Refusal}
use Rattle.mz_globals.specs.declared.checks.Refusal.TheVariants.{Misfit, Negative, Outside}
use Rattle.mz_globals.specs.Table.{global_cost, global_ends, refusal_of}
use Rattle.mz_meaning.specs.Runs.{then_do, give}
use Rattle.mz_meaning.specs.Cells.{Cell, Par, Var, Unshaped, Mode, Blank, held, undefined, all_par, Env}
use Rattle.mz_meaning.specs.Operations.{size_of}
use Rattle.mz_meaning.specs.Globals as globals
use Rattle.mz_meaning.specs.Forms.{World, global_by, row_or_global}
use Rattle.mz_meaning_laws.specs.Outlines.{outline, outlines, blank_world}
use Rattle.mz_meaning_laws.specs.Ties.{Tie, HasOutline}
use Rattle.mz_meaning_laws.proofs.Joins.{then_outlined, give_outlined, stop_outlined, at_same, same, spend_same}
use Rattle.mz_meaning_laws.proofs.Cells.{all_par_outline, all_par_same, map_outline}
use Rattle.mz_meaning_laws.proofs.Rows.{size_outline, done_outlined, operated_by_outlined}

-- ---- what a call reads of its arguments

cost_outline : (g : Global) (cs : List Cell) → globals.call_cost g (outlines cs) ≡ globals.call_cost g cs
cost_outline g cs = ap (global_cost g) (map_outline size_of size_outline cs)

given_outline : (c : Cell) → globals.given_in (outline c) ≡ globals.given_in c
given_outline (Par v) = refl
given_outline (Var b v) = refl
given_outline (Unshaped d) = refl

-- ---- its faults, and its cell

refused_outlined : {t : Tie} {n : Bool} (r : Option Refusal) (at : Span) → HasOutline t n same (globals.refused r at) (globals.refused r at)
refused_outlined None at = give_outlined refl
refused_outlined (Some Misfit) at = stop_outlined kind.IndexMismatch at (pos 0)
refused_outlined (Some (Negative z)) at = stop_outlined kind.NegativeArgument at z
refused_outlined (Some (Outside z)) at = stop_outlined kind.Bounds at z

result_by : (m : Mode) (g : Global) (cs : List Cell) (p : Bool) → all_par cs ≡ p → (if p then Par (globals.global_value g (outlines cs)) else Var (globals.global_bounds g (outlines cs)) None) ≡ outline (if p then Par (globals.global_value g cs) else Var (globals.global_bounds g cs) (held m (globals.global_value g cs)))
result_by m g cs true h = ap (λ k. Par (globals.global_value g k)) (all_par_same cs h)
result_by m g cs false h = ap (λ k. Var (bounds.one (bounds.number (global_ends g k))) None) (map_outline globals.given_in given_outline cs)

result_outline : (m : Mode) (n : Bool) (g : Global) (cs : List Cell) → globals.global_result (Blank n) g (outlines cs) ≡ outline (globals.global_result m g cs)
result_outline m n g cs =
    ap (λ p. if p then Par (globals.global_value g (outlines cs)) else Var (globals.global_bounds g (outlines cs)) None) (all_par_outline cs)
    ∙ result_by m g cs (all_par cs) refl

global_cell_outlined : {t : Tie} {n : Bool} (m : Mode) (g : Global) (at : Span) (cs : List Cell) → HasOutline t n outline (globals.global_cell m g at cs) (globals.global_cell (Blank n) g at (outlines cs))
global_cell_outlined {n = n} m g at cs =
    at_same (λ k. λ s. then_do (globals.refused (refusal_of g k) at s) (λ u. give (globals.global_result (Blank n) g (outlines cs)))) (map_outline globals.given_in given_outline cs)
    (then_outlined (λ u. give (globals.global_result (Blank n) g (outlines cs))) (refused_outlined (refusal_of g (map globals.given_in cs)) at) (λ u. give_outlined (result_outline m n g cs)))

-- ---- nodes

global_by_outlined : {t : Tie} {n : Bool} (w : World) (top : Env) (at : Span) (cs : List Cell) (g : Option Global) → HasOutline t n outline (global_by w at cs g) (global_by (blank_world n w top) at (outlines cs) g)
global_by_outlined w top at cs None = done_outlined w top at undefined refl
global_by_outlined {n = n} w top at cs (Some g) =
    then_outlined (λ u. globals.global_cell (Blank n) g at (outlines cs)) (spend_same w.budget at (ap (λ k. 1 + k) (cost_outline g cs))) (λ u. global_cell_outlined w.mode g at cs)

pub row_or_global_outlined : {t : Tie} {n : Bool} (w : World) (top : Env) (at : Span) (ty : PlainType) (cs : List Cell) (g : Option Global) (r : Option Row) → HasOutline t n outline (row_or_global w at ty cs g r) (row_or_global (blank_world n w top) at ty (outlines cs) g r)
row_or_global_outlined w top at ty cs g None = global_by_outlined w top at cs g
row_or_global_outlined w top at ty cs g (Some r) = operated_by_outlined w top at ty cs (Some r)
