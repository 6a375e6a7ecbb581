-- The bounds of a call of a global, by what is known of its arguments.
use Rattle.mz_base.specs.declared.fault.Span.{Span}
use Rattle.mz_operations.specs.Bounds as bounds
use Rattle.mz_globals.specs.declared.global.Global.{Global}
use Rattle.mz_globals.specs.Givens.{Givens}
use Rattle.mz_globals.specs.Table.{global_ends, refusal_of}
use Rattle.mz_meaning.specs.Globals.{refused}
use Rattle.mz_meaning.specs.Runs.{Run, give, ◌>>◌}

abbrev pub bound_by : Global → Givens → Span → Run bounds.Bound
bound_by g gs at = refused (refusal_of g gs) at >> give (bounds.number (global_ends g gs))
