-- A declaration that is given a value. Mirror of src/valued.rt; private clauses only.
use Rattle.std.specs.Prelude.{Some}
use Rattle.mz_core.specs.Tree.{Tree, Decl}
use Rattle.mz_check_data.specs.WithData.{or_given}

abbrev pub given_to : Decl → Tree → Decl
given_to d e = record d { value = or_given d.value (Some e) }
