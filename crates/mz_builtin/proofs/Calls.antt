-- What a call of a name takes among the signatures that accept its arguments.
use Rattle.std.specs.Prelude.{ℕ, List, map, filter, length, ◌&&◌, nat_lt, Option, Some, None, slice_get}
use Rattle.mz_core.specs.Types.{PlainType, PlainSignature}
use Rattle.mz_overload.specs.declared.resolution.Resolution.{Resolution}
use Rattle.mz_overload.specs.declared.resolution.Resolution.TheVariants.{One, NoneFits, Ambiguous}
use Rattle.mz_overload.specs.Best.{resolution}
use Rattle.mz_builtin.specs.Readings.{Numbered}
use Rattle.mz_builtin.specs.Table.{table}
use Rattle.mz_builtin.specs.Signatures.{has_name, fitting}

-- which of the name's entries it is, from 0, with the types of its parameters and of its result; or why there is none
pub data Taken : Type 0 where
  takes : ℕ → List PlainType → PlainType → Taken
  none_fits : Taken
  ambiguous : Taken

-- how many entries of the name stand before this number
unfoldable pub form_of : List ℕ → ℕ → ℕ
form_of name number = length (filter (λ e. has_name name e.line && nat_lt e.number number) table)

abbrev pub taken_at : List ℕ → Option Numbered → Taken
taken_at name (Some s) = takes (form_of name s.0) s.1.params s.1.result
taken_at name None = none_fits

abbrev pub taken_by : List ℕ → List Numbered → Resolution → Taken
taken_by name all (One k) = taken_at name (slice_get all k)
taken_by name all NoneFits = none_fits
taken_by name all Ambiguous = ambiguous

abbrev pub signature_of : Numbered → PlainSignature
signature_of s = s.1

unfoldable pub call : List ℕ → List PlainType → Taken
call name args = let all = fitting name args in taken_by name all (resolution (map signature_of all) args)
