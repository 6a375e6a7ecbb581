-- Mirror of src/checks.rt; private clauses only.
use Rattle.mz_globals.specs.declared.checks.Cost.{Cost}
use Rattle.mz_globals.specs.declared.checks.Fit.TheVariants.{Free}
use Rattle.mz_globals.specs.declared.checks.Sums.TheVariants.{Nothing}
use Rattle.mz_globals.specs.declared.checks.Checks.{Checks}
use Rattle.mz_globals.specs.Table.{from}

abbrev pub checked : Cost → Checks
checked cost = record { cost = cost; fit = Free; nonnegative = from 0 0; sums = Nothing; more_sums = Nothing }
