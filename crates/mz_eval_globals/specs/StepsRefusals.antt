-- Mirror of src/refusals.rt; private clauses only.
use Rattle.std.specs.Prelude.{ℤ, Option}
use Rattle.std.specs.Option.{option_or}
use Rattle.mz_globals.specs.declared.checks.Checks.{Checks}
use Rattle.mz_globals.specs.declared.checks.Refusal.{Refusal}
use Rattle.mz_globals.specs.Givens.{Givens, givens_at, first_negative, first_outside, sums_in}
use Rattle.mz_globals.specs.Table.{negative_of, outside_of}

abbrev pub outside_by : Checks → Givens → Option ℤ
outside_by c gs = option_or (first_outside (sums_in c.sums gs)) (first_outside (sums_in c.more_sums gs))

abbrev pub refusal_by_bounds : Checks → Givens → Option Refusal
refusal_by_bounds c gs = option_or (negative_of (first_negative (givens_at c.nonnegative gs))) (outside_of (outside_by c gs))
