-- Mirror of src/spaces.rt; private clauses only.
use Rattle.std.specs.Prelude.{Bool}
use Rattle.mz_scope_names.specs.declared.occurrence.Role.{Role}
use Rattle.mz_scope.specs.declared.spaces.Asked.{Asked}
use Rattle.mz_scope.specs.declared.spaces.Asked.TheVariants.{Bound, Declared, Valued, Listed}
use Rattle.mz_scope.specs.Spaces.{declares, binds, gives, lists}

-- the roles that are asked for
abbrev pub asked_by : Asked → Role → Bool
asked_by Bound = binds
asked_by Declared = declares
asked_by Valued = gives
asked_by Listed = lists
