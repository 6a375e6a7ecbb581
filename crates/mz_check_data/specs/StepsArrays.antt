-- Sets and arrays, from the lists of their parts. Mirror of src/plain.rt and src/arrays.rt; private clauses only.
use Rattle.std.specs.Prelude.{List, [], ◌∷◌, ◌++◌, length, nat_eq}
use Rattle.std.specs.List.{zip}
use Rattle.mz_base.specs.declared.fault.Span.{Span}
use Rattle.mz_base.specs.declared.kind.Kind.TheVariants as kind
use Rattle.mz_core.specs.Types.{PlainType}
use Rattle.mz_core.specs.Tree.{Tree}
use Rattle.mz_tree.specs.Data.{Value, Values}
use Rattle.mz_check_meaning.specs.Tests.{Test, ◌>>=◌, ◌>>◌, require, each}
use Rattle.mz_check_meaning.specs.Coerced.{fitted, list_of}
use Rattle.mz_check_meaning.specs.Arrays.{listed, tabled, set_literal}
use Rattle.mz_check_meaning.specs.Calls.{par, row_node}
use Rattle.mz_check_data.specs.Datum.{Meanings, one_tree, plain_tree, list_tree, are_level, index_set_tree, array_call}

abbrev pub set_of : Meanings → Span → List Value → Test Tree
set_of ms at vs = each (one_tree ms at) vs >>= set_literal at

abbrev pub list_with : Meanings → Span → List Value → Test Tree
list_with ms at vs = each (plain_tree ms at) vs >>= listed at

abbrev pub rows_of : Meanings → Span → List (List Value) → Test Tree
rows_of ms at ls = do
  require (are_level ls) kind.DataForm at
  rs ← each (each (plain_tree ms at)) ls
  tabled at rs

-- the list of an array with index sets
abbrev pub elements_for : Meanings → Span → PlainType → Values → Test Tree
elements_for ms at u vs = list_tree ms at vs >>= λ e. fitted e (list_of (par u))

abbrev pub shaped_by : Meanings → Span → PlainType → List Value → Values → Test Tree
shaped_by ms at u ss vs = do
  require (nat_eq (length ss) (length u.dims)) kind.DataForm at
  sets ← each (index_set_tree ms at) (zip ss u.dims)
  elements ← list_tree ms at vs
  fit ← fitted elements (list_of (par u))
  row_node at (array_call (length u.dims)) (sets ++ fit ∷ [])
