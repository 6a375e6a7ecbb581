-- What `scope` refuses.
use Rattle.std.specs.Prelude.{◌≡◌, ℕ, List, Some, None}
use Rattle.mz_base.specs.declared.fault.Fault.{Fault}
use Rattle.mz_tree.specs.declared.source.SourceFile.{SourceFile}
use Rattle.mz_tree.specs.declared.data.DataItem.{DataItem}
use Rattle.mz_scope_names.specs.StepsWalk.{items_of}
use Rattle.mz_scope_order.specs.Scoped.{IsCyclic}
use Rattle.mz_scope.specs.Tests.{refusal_of}

-- what the tests of names find, or, where they find nothing, a cycle
pub data IsRefused (texts : List (List ℕ)) (fs : List SourceFile) (ds : List DataItem) (f : Fault) : Type 0 where
  by_a_test : refusal_of texts fs ds ≡ Some f → IsRefused texts fs ds f
  by_a_cycle : refusal_of texts fs ds ≡ None → IsCyclic (items_of fs) f → IsRefused texts fs ds f
