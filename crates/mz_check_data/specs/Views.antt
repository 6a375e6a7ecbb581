-- A typed value with the number of its declaration, without where it lies in memory.
use Rattle.std.specs.Prelude.{ℕ}
use Rattle.mz_core.specs.declared.tree.Core.{Core}
use Rattle.mz_core.specs.Tree.{Tree}
use Rattle.mz_core.specs.TreeViews.{tree}

abbrev pub typed_item : ℕ × Core → ℕ × Tree
typed_item x = (x.0, tree x.1)
