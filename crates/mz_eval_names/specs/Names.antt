-- What names with their cells stand for under a reading; the arguments and results of calls.
use Rattle.std.specs.Prelude.{Bool, List, map}
use Rattle.mz_base.specs.declared.fault.Span.{Span}
use Rattle.mz_core.specs.Types.{PlainType}
use Rattle.mz_meaning.specs.Runs.{Run, ◌>>=◌, give}
use Rattle.mz_meaning.specs.Cells.{Cell, Mode, Sure, both_sure, guarded}
use Rattle.mz_meaning.specs.Arrays.{Want, fitted, suits}
use Rattle.mz_meaning.specs.Calls.{argument_suits}
use Rattle.mz_meaning.specs.Lets as lets
use Rattle.mz_meaning.specs.Lets.{all_have_sets}
use Rattle.mz_symbol.specs.Readings.{Reading}
use Rattle.mz_eval_cells.specs.Views.{seen}
use Rattle.mz_eval_guards.specs.Guards.{guard_seen}
use Rattle.mz_eval_names.specs.declared.types.Names.{Names}

-- names so far, with their cells, and whether all that is declared holds
abbrev pub names_seen : Reading → Names → lets.Names
names_seen r b = record { slots = b.slots.items; cells = map (seen r) b.cells.items; holds = guard_seen r b.holds }

-- an argument under its parameter's sets: the call's result is var or not, and the parameter
abbrev pub argument_fitted : Bool → Bool → Span → List Want → Want → Cell → Run (Cell × Sure)
argument_fitted var of_var at ixs x k = do
  c ← fitted at ixs k
  give (c, both_sure (all_have_sets ixs) (argument_suits var of_var x c))

-- a call's cell, undefined where something that is declared doesn't hold
abbrev pub result_cell : Mode → PlainType → Sure → List Want → Want → Cell → Cell
result_cell m t holds ixs x c = guarded m t (both_sure holds (both_sure (all_have_sets ixs) (suits x c))) c
