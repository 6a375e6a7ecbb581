use Rattle.std.proofs.Common.{◌≡◌, ◌++◌, drop, map}
use Rattle.mz_core.specs.Types.{plain_type}
use Rattle.mz_builtin.specs.Views.{index_lists_of}
use Rattle.mz_builtin.specs.Readings.{types_with}
use Rattle.mz_builtin.proofs.types.add_types_with.Given as goal

abbrev pub invariant-loop-dims : goal.invariant-loop-dims
invariant-loop-dims l = map plain_type l.fn.all.items ++ types_with l.m l.var l.o (index_lists_of l.lists) ≡ map plain_type l.all.items ++ types_with l.m l.var l.o (index_lists_of (drop l.dims-index l.lists))
