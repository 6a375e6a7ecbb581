-- Mirror of src/texts.rt; private clauses only.
use Rattle.std.specs.Prelude.{List, [], ◌∷◌, Bool, true, ◌&&◌, is_some}
use Rattle.mz_value.specs.Contents.{Content}
use Rattle.mz_operations.specs.Views.{as_text}

-- all are texts
unfoldable pub all_texts : List Content → Bool
all_texts [] = true
all_texts (x ∷ xs) = is_some (as_text x) && all_texts xs
