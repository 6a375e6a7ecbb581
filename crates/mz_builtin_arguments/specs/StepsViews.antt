-- Mirror of src/view.rt; private clauses only.
use Rattle.std.specs.Prelude.{List, [], ◌∷◌, Option, Some, None}
use Rattle.mz_value.specs.Ranges.{Range}
use Rattle.mz_value.specs.Contents.{Content}

-- the items, where there is one dimension
abbrev pub row_items : List Range → List Content → Option (List Content)
row_items (r ∷ []) xs = Some xs
row_items _ xs = None
