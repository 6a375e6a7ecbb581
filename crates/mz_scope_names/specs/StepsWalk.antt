-- Mirror of src/walk.rt and src/items.rt; private clauses only.
use Rattle.std.specs.Prelude.{List, map}
use Rattle.std.specs.List.{flat_map}
use Rattle.mz_tree.specs.declared.source.SourceFile.{SourceFile}
use Rattle.mz_tree.specs.Items.{ItemTree, item}

-- the items of these files, in the order of the text
abbrev pub items_of : List SourceFile → List ItemTree
items_of fs = flat_map (λ f. map item f.items.items) fs
