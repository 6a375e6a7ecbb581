-- Calls of globals: the numbers that the typed tree has for them, and what a call gives over cells.
use Rattle.std.specs.Prelude.{ℕ, ◌-◌, pos, Bool, true, false, List, map, length, Option, Some, None, if◌then◌else◌, nat_lt}
use Rattle.mz_base.specs.declared.fault.Span.{Span}
use Rattle.mz_base.specs.declared.kind.Kind.TheVariants as kind
use Rattle.mz_value.specs.Contents.{Content}
use Rattle.mz_operations.specs.Bounds.{Bounds}
use Rattle.mz_operations.specs.Bounds as bounds
use Rattle.mz_operations.specs.Lines.{lines}
use Rattle.mz_globals.specs.declared.global.Global.{Global}
use Rattle.mz_globals.specs.declared.checks.Refusal.{Refusal}
use Rattle.mz_globals.specs.declared.checks.Refusal.TheVariants.{Misfit, Negative, Outside}
use Rattle.mz_globals.specs.Givens.{Given, unknown, given_of, given_by}
use Rattle.mz_globals.specs.Table.{line_of, global_cost, global_ends, refusal_of}
use Rattle.mz_globals.specs.Names.{global_at}
use Rattle.mz_meaning.specs.Runs.{Run, give, stop, ◌>>◌}
use Rattle.mz_meaning.specs.Cells.{Cell, Par, Var, Unshaped, Mode, held, all_par, value_of}
use Rattle.mz_meaning.specs.Operations.{size_of}

-- the globals stand behind the operators and built-ins, whose numbers have none
abbrev pub global_of : ℕ → Option Global
global_of n = if nat_lt n (length lines) then None else global_at (n - length lines)

abbrev pub call_cost : Global → List Cell → ℕ
call_cost g cs = global_cost g (map size_of cs)

-- what is known of an argument without its var value: of an undefined par one and of an array without a shape nothing
abbrev pub given_in : Cell → Given
given_in (Par v) = given_of v
given_in (Var b v) = given_by b
given_in (Unshaped d) = unknown

-- the faults of a call
abbrev pub refused : Option Refusal → Span → Run (Unit {0})
refused None at = give tt
refused (Some Misfit) at = stop kind.IndexMismatch at (pos 0)
refused (Some (Negative n)) at = stop kind.NegativeArgument at n
refused (Some (Outside n)) at = stop kind.Bounds at n

-- where an argument is undefined it is false, and the number of the function `count` undefined
abbrev pub global_value : Global → List Cell → Option Content
global_value g cs = (line_of g).value (map value_of cs)

abbrev pub global_bounds : Global → List Cell → Bounds
global_bounds g cs = bounds.one (bounds.number (global_ends g (map given_in cs)))

abbrev pub global_result : Mode → Global → List Cell → Cell
global_result m g cs = if all_par cs then Par (global_value g cs) else Var (global_bounds g cs) (held m (global_value g cs))

-- A CALL OF A GLOBAL OVER CELLS: its faults go by bounds and par values alone
abbrev pub global_cell : Mode → Global → Span → List Cell → Run Cell
global_cell m g at cs = refused (refusal_of g (map given_in cs)) at >> give (global_result m g cs)
