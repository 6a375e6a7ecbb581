-- Mirror of src/calls.rt; private clauses only.
use Rattle.std.specs.Prelude.{Bool, true, false, List, None, if◌then◌else◌}
use Rattle.mz_base.specs.declared.fault.Span.{Span}
use Rattle.mz_operations.specs.Bounds as bounds
use Rattle.mz_globals.specs.declared.global.Global.{Global}
use Rattle.mz_globals.specs.declared.global.Global.TheVariants.{CountOf}
use Rattle.mz_globals.specs.Givens.{Givens}
use Rattle.mz_globals.specs.Table.{global_ends, refusal_of}
use Rattle.mz_meaning.specs.Cells.{Cell, Par, Var, all_par}
use Rattle.mz_meaning.specs.Globals.{global_value, refused}
use Rattle.mz_meaning.specs.Runs.{Run, give, ◌>>◌}

abbrev pub is_count : Global → Bool
is_count CountOf = true
is_count g = false

-- what a call gives by what is known of its arguments
abbrev pub global_result_by : Global → Givens → List Cell → Cell
global_result_by g gs cs = if all_par cs then Par (global_value g cs) else Var (bounds.one (bounds.number (global_ends g gs))) None

abbrev pub call_by : Global → Givens → Span → List Cell → Run Cell
call_by g gs at cs = refused (refusal_of g gs) at >> give (global_result_by g gs cs)
