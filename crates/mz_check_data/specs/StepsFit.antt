-- The types that lists and rows are to be below. Mirror of src/fit.rt; private clauses only.
use Rattle.std.specs.Prelude.{length, nat_eq, if◌then◌else◌}
use Rattle.mz_core.specs.Types.{PlainType}
use Rattle.mz_check_meaning.specs.Coerced.{is_scalar, list_of, table_of}

abbrev pub list_wanted : PlainType → PlainType
list_wanted u = if is_scalar u then u else list_of u

abbrev pub rows_wanted : PlainType → PlainType
rows_wanted u = if nat_eq (length u.dims) 2 then table_of u else u
